-- Demand 3 on the definitions: who waits in a list of calls, since when, and what is promised. Document 01, "The machine", last
-- paragraph, and document 02 §1: "For a task that gives up, and for a core that so leaves the queue, the promised limit ends there; for
-- everyone else, tasks of the same card included, it still runs from when their wait began." The list is made on what any sound state s
-- shows; demand 3 speaks of a fresh machine, in which nobody is in line.
use Rattle.std.specs.Prelude.{ℕ, ◌+◌, ◌≤◌, ◌<◌, Bool, true, false, ◌&&◌, ◌||◌, not, List, [], ◌∷◌, ◌++◌, ◌≡◌, eqb}
use Rattle.plan_reading.specs.Plan.{Plan}
use Rattle.analysis_equations.specs.Sharing.{processor_of}
use Rattle.analysis_equations.specs.HoldTimes.{wait_time}
use Rattle.analysis_equations.specs.Questions.{task_number}
use Rattle.queue_rules.specs.Rules.{holds, queued, is_head, waiting, without, ahead_in, limit}
use Rattle.machine_rules.specs.declared.Call.{Call}
use Rattle.machine_rules.specs.declared.Call.TheVariants.{Request, Release, GiveUp, Tick}
use Rattle.machine_rules.specs.declared.Answer.TheVariants.{Waits}
use Rattle.machine_rules.specs.Machine.{View, fresh, terms, call_code, step, answer, after, run}

-- 1 for a tick
abbrev pub is_tick : Call → ℕ
is_tick (Request tag q) = 0
is_tick (Release tag q) = 0
is_tick (GiveUp tag q) = 0
is_tick Tick = 1

-- "Ticks since a call are the tick calls after it."
abbrev pub ticks : List Call → ℕ
ticks [] = 0
ticks (c ∷ cs) = is_tick c + ticks cs

module _ (p : Plan) where
  -- ── what happens in a list of calls ──

  -- what a call made on s may do
  abbrev pub Event : Type 0
  Event = View → Call → Bool

  -- it grants resource q to task i: the task holds it then, and did not before
  abbrev pub grants : ℕ → ℕ → Event
  grants i q s c = not (holds i (s.lines q)) && holds i ((step p s c).lines q)

  -- it is a give-up of q, not refused, by one of these tasks
  abbrev pub withdraws : (ℕ → Bool) → ℕ → Event
  withdraws those q s (Request tag r) = false
  withdraws those q s (Release tag r) = false
  withdraws those q s (GiveUp tag r) = (eqb r q && those (task_number p tag)) && eqb (call_code p s (GiveUp tag r)) 0
  withdraws those q s Tick = false

  -- task i gives q up by it
  abbrev pub gives_up : ℕ → ℕ → Event
  gives_up i q = withdraws (λ j. eqb j i) q

  -- core k leaves the queue of q by it: one of its own tasks gives up, and none is left
  abbrev pub empties : ℕ → ℕ → Event
  empties k q s c = withdraws (λ j. eqb (processor_of p j) k) q s c && not (queued k ((step p s c).lines q))

  -- it leaves core k other than queued without q
  abbrev pub ends : ℕ → ℕ → Event
  ends k q s c = not (without k ((step p s c).lines q))

  -- it leaves core k as head of q
  abbrev pub heads : ℕ → ℕ → Event
  heads k q s c = is_head k ((step p s c).lines q)

  -- the one or the other
  abbrev pub either : Event → Event → Event
  either e g s c = e s c || g s c

  -- some call of the list does so, the first made on s and each on what the last one left
  abbrev pub occurs : Event → View → List Call → Bool
  occurs e s [] = false
  occurs e s (c ∷ cs) = e s c || occurs e (step p s c) cs

  -- some call of the list does so, and is the tick that fills `most` or comes before it: fewer ticks come before the call
  pub record Within (e : Event) (s : View) (cs : List Call) (most : ℕ) : Type 0 where
    pub early : List Call
    pub call : Call
    pub late : List Call
    pub split : cs ≡ early ++ (call ∷ late)
    pub happens : e (after p s early) call ≡ true
    pub soon : ticks early < most

  -- ── the promise for one wait ──

  -- Somebody waits on s, and these calls are made. A wait is over by one event and served by another, and takes at most so long
  pub record Bounded (over served : Event) (s : View) (cs : List Call) (most : ℕ) : Type 0 where
    -- so long as it is not over, the ticks are fewer
    pub lasts : occurs over s cs ≡ false → ticks cs < most
    -- and where they are as many, it was served, at the latest by the tick that filled them
    pub comes : most ≤ ticks cs → Within served s cs most

  -- Who waits: whether it does, seen in a state; by which calls its wait is over and by which it is served, where it does not give up; and
  -- by which it gives up
  pub record Waiter : Type 0 where
    pub waits : View → Bool
    pub over : Event
    pub served : Event
    pub quits : Event

  -- task i, that waits for q: its wait is over, and served, when it is granted
  abbrev pub task_for : ℕ → ℕ → Waiter
  task_for i q = record { waits = λ s. waiting i (s.lines q); over = grants i q; served = grants i q; quits = gives_up i q }

  -- core k without q: that is over when it is not, and served when it is head
  abbrev pub core_for : ℕ → ℕ → Waiter
  core_for k q = record { waits = λ s. without k (s.lines q); over = ends k q; served = heads k q; quits = empties k q }

  -- its wait ends: it is served or gives up
  abbrev pub ended : Waiter → Event
  ended w = either w.served w.quits

  -- w waits on s, and these calls are made: its wait takes at most so long
  pub record Kept (w : Waiter) (s : View) (cs : List Call) (most : ℕ) : Type 0 where
    -- so long as it neither was served nor gave up, the ticks are fewer; and where they are as many, it did the one or the other
    pub bound : Bounded (ended w) (ended w) s cs most
    -- nothing else ends it: so long as neither happened, it waits
    pub only : occurs (ended w) s cs ≡ false → w.waits (after p s cs) ≡ true
    -- what counts as its giving up is that: it waited, and does not any more. So nobody else's give-up counts
    pub own : (before : List Call) (c : Call) (since : List Call) → cs ≡ before ++ (c ∷ since) → w.quits (after p s before) c ≡ true
        → (w.waits (after p s before) ≡ true) × (w.waits (step p (after p s before) c) ≡ false)
    -- where it does not give up, the promise of document 01, whoever else does
    pub stays : occurs w.quits s cs ≡ false → Bounded w.over w.served s cs most

  -- the wait of task i for q
  abbrev pub TaskKept : ℕ → ℕ → View → List Call → ℕ → Type 0
  TaskKept i q = Kept (task_for i q)

  -- that of core k without q: it takes at most the wait time
  abbrev pub CoreKept : ℕ → ℕ → View → List Call → Type 0
  CoreKept k q s cs = Kept (core_for k q) s cs (wait_time p k q)

  -- Whoever waits in a state is served or gives up, whatever is called from there: a task within the limit for those ahead of it in that state, a
  -- core within its wait time
  pub record ServedFrom (s : View) (calls : List Call) : Type 0 where
    pub task : (i q : ℕ) → waiting i (s.lines q) ≡ true → TaskKept i q s calls (limit (terms p q) i (ahead_in (terms p q) i (s.lines q)))
    pub core : (k q : ℕ) → without k (s.lines q) ≡ true → CoreKept k q s calls

  -- ── who waits in a list of calls, and since when ──

  -- the lines that a call leaves, made on s behind others
  abbrev pub after_call : View → List Call → Call → View
  after_call s before c = after p s (before ++ (c ∷ []))

  -- a request in the list that was answered "waits", and the calls since
  pub record Asked (s : View) (calls : List Call) (tag q : ℕ) : Type 0 where
    pub before : List Call
    pub since : List Call
    pub list : calls ≡ before ++ (Request tag q ∷ since)
    pub ahead : ℕ
    pub limit : ℕ
    pub answered : answer p (after p s before) (Request tag q) ≡ Waits ahead limit

  -- a call in the list by which core k joined the queue of q, or went to its tail, and was without q then; and the calls since
  pub record Sent (s : View) (calls : List Call) (k q : ℕ) : Type 0 where
    pub before : List Call
    pub call : Call
    pub since : List Call
    pub list : calls ≡ before ++ (call ∷ since)
    pub came : (not (queued k ((after p s before).lines q)) || is_head k ((after p s before).lines q)) ≡ true
    pub went : without k ((after_call s before call).lines q) ≡ true

  -- "A task still waits when its last accepted request for the resource was answered "waits" and no later call granted it", nor did it
  -- give up since
  pub record StillWaits (s : View) (calls : List Call) (i q : ℕ) : Type 0 where
    pub tag : ℕ
    pub task : task_number p tag ≡ i
    pub request : Asked s calls tag q
    pub still : occurs (ended (task_for i q)) (after_call s request.before (Request tag q)) request.since ≡ false

  -- a core has been without the resource since it last joined or was sent to the tail
  pub record StillWithout (s : View) (calls : List Call) (k q : ℕ) : Type 0 where
    pub sent : Sent s calls k q
    pub still : occurs (ends k q) (after_call s sent.before sent.call) sent.since ≡ false

  -- or, where the list does not begin with a fresh machine, since its start
  pub data TaskSince (s : View) (calls : List Call) (i q : ℕ) : Type 0 where
    asked_since : StillWaits s calls i q → TaskSince s calls i q
    task_since_start : waiting i (s.lines q) ≡ true → occurs (ended (task_for i q)) s calls ≡ false → TaskSince s calls i q

  -- and so for a core
  pub data CoreSince (s : View) (calls : List Call) (k q : ℕ) : Type 0 where
    sent_since : StillWithout s calls k q → CoreSince s calls k q
    core_since_start : without k (s.lines q) ≡ true → occurs (ends k q) s calls ≡ false → CoreSince s calls k q

  -- ── the promise for a whole list of calls ──

  -- What is promised of a list of calls made on s. The resource q is any number: nobody is ever in line for one that is not global
  pub record Served (s : View) (calls : List Call) : Type 0 where
    -- Nobody who waits is kept past the limit told with "waits" (demand 3), counted from that request. Any request so answered is
    -- taken here, the last accepted one among them
    pub asked : (tag q : ℕ) (w : Asked s calls tag q)
        → TaskKept (task_number p tag) q (after_call s w.before (Request tag q)) w.since w.limit
    -- and so for each core in the queue (demand 3), counted from the call by which it last joined or was sent to the tail
    pub sent : (k q : ℕ) (w : Sent s calls k q) → CoreKept k q (after_call s w.before w.call) w.since
    -- and for whoever waits at the start of the list, counted from there
    pub start : ServedFrom s calls
    -- each task that waits after the list, and each core that is without the resource then, is one of these
    pub each_task : (i q : ℕ) → waiting i ((after p s calls).lines q) ≡ true → TaskSince s calls i q
    pub each_core : (k q : ℕ) → without k ((after p s calls).lines q) ≡ true → CoreSince s calls k q

  -- In a fresh machine nobody waits at the start: each task that still waits has asked, and each core still in the queue was sent
  pub record EachSince (calls : List Call) : Type 0 where
    pub task : (i q : ℕ) → waiting i ((run p calls).lines q) ≡ true → StillWaits fresh calls i q
    pub core : (k q : ℕ) → without k ((run p calls).lines q) ≡ true → StillWithout fresh calls k q
