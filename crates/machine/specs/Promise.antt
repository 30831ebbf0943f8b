-- Demand 3, whole: one claim about a whole list of calls, from a fresh machine; the same from every sound state; and the promise of
-- the longest wait. Document 01, "The machine", last paragraph.
use Rattle.std.specs.Prelude.{ℕ, ◌≤◌, true, List, [], ◌∷◌, ◌++◌, ◌≢◌, ◌≡◌, length}
use Rattle.sizes.specs.Sizes.{most_resources}
use Rattle.plan_reading.specs.Plan.{plan_of}
use Rattle.plan.specs.Acceptance.{refusal, Accepted}
use Rattle.analysis_equations.specs.Questions.{task_number, use_code}
use Rattle.machine_rules.specs.declared.Call.{Call}
use Rattle.machine_rules.specs.declared.Call.TheVariants.{Request}
use Rattle.machine_rules.specs.declared.Answer.TheVariants.{Waits}
use Rattle.machine_rules.specs.Machine.{View, fresh, answer, after, run}
use Rattle.machine_rules.specs.Waiting.{Served, EachSince}
use Rattle.machine_rules.specs.Longest.{longest_wait, NeverLonger, EachReached}
use Rattle.machine_state.specs.declared.State.{State}
use Rattle.machine_state.specs.Shows.{fresh_state, shows}
use Rattle.machine_state.specs.Sound.{sound}
use Rattle.machine.specs.Replies.{state_refusal, reply, Next}

-- The state that the operations return after a list of calls: "each call gets the same plan and the state that the last one
-- returned, refused or not." `Next` is the contract of each of them
pub data Returned (f : List ℕ) (start : State) : List Call → State → Type 0 where
  started : Returned f start [] start
  called : {cs : List Call} {s t : State} {c : Call} → Returned f start cs s → Next f s c t → Returned f start (cs ++ (c ∷ [])) t

-- what is promised for a plan file and a list of calls, from a state that shows s
pub record Promise (f : List ℕ) (start : State) (s : View) (calls : List Call) : Type 0 where
  -- nobody who waits is kept past the limit; and so for each core in the queue
  pub waiting : Served (plan_of f) s calls
  -- what each call is answered, on the state that the calls before it returned, is what the rules say after these
  pub answers : (before since : List Call) (c : Call) → calls ≡ before ++ (c ∷ since) → (t : State) → Returned f start before t
      → reply f t c ≡ answer (plan_of f) (after (plan_of f) s before) c
  -- "each returned state shows the same tasks in line, holders and heads": that after each of the calls is sound, and shows the lines
  -- of the rules
  pub states : (before since : List Call) → calls ≡ before ++ since → (t : State) → Returned f start before t
      → (sound (plan_of f) t ≡ true) × (shows (plan_of f) t ≡ after (plan_of f) s before)

-- Demand 3 for a plan file and a list of calls: "It starts from a fresh state"
pub record FreshPromise (f : List ℕ) (calls : List Call) : Type 0 where
  pub promise : Promise f fresh_state fresh calls
  -- each task that still waits has asked and was told a limit, and each core still in the queue joined it or was sent to its tail
  pub since : EachSince (plan_of f) calls

-- Demand 3: for every plan file that is accepted and every list of calls
abbrev pub Demand3 : Type 0
Demand3 = (f : List ℕ) → Accepted f → (calls : List Call) → FreshPromise f calls

-- a state of a plan that is accepted, as the operations take one: sound, and of as many rows as the struct has
pub record Start (f : List ℕ) (start : State) : Type 0 where
  pub plan : Accepted f
  pub sound : sound (plan_of f) start ≡ true
  pub lines : length start.lines ≡ most_resources

-- From every sound state: whoever waits in it is served within the limit for those then ahead of it, and every list of calls from
-- there has the promise
abbrev pub FromSound : Type 0
FromSound = (f : List ℕ) (start : State) → Start f start → (calls : List Call) → Promise f start (shows (plan_of f) start) calls

-- what a function gives that makes a list of calls on a state
pub record Ran (f : List ℕ) (start : State) (calls : List Call) (end : State) : Type 0 where
  pub returned : Returned f start calls end
  -- as it was where the plan is refused or the state is not sound, since each call is refused then
  pub unchanged : state_refusal f start ≢ 0 → end ≡ start
  -- else the promise holds of the calls, and it is sound and shows what the rules make of them
  pub promise : state_refusal f start ≡ 0 → Promise f start (shows (plan_of f) start) calls
  pub sound : state_refusal f start ≡ 0 → sound (plan_of f) end ≡ true
  pub shows : state_refusal f start ≡ 0 → shows (plan_of f) end ≡ after (plan_of f) (shows (plan_of f) start) calls

-- and on a fresh machine
pub record FreshRan (f : List ℕ) (calls : List Call) (end : State) : Type 0 where
  pub returned : Returned f fresh_state calls end
  pub unchanged : refusal f ≢ 0 → end ≡ fresh_state
  pub promise : refusal f ≡ 0 → FreshPromise f calls
  pub sound : refusal f ≡ 0 → sound (plan_of f) end ≡ true
  pub shows : refusal f ≡ 0 → shows (plan_of f) end ≡ run (plan_of f) calls

-- The promise of the longest wait, which is asked of a plan file before any call is made
pub record LongestKept (f : List ℕ) : Type 0 where
  -- no request, on the state that any list of calls returned from a sound one, is told more; and it is one of which the question is
  -- not refused
  pub never_told_more : (start : State) → Start f start → (calls : List Call) (s : State) → Returned f start calls s
      → (tag q ahead most : ℕ) → reply f s (Request tag q) ≡ Waits ahead most
      → (use_code (plan_of f) tag q ≡ 0) × (most ≤ longest_wait (plan_of f) (task_number (plan_of f) tag) q)
  -- so nobody who waits is kept longer
  pub kept : (start : State) → Start f start → (calls : List Call) → NeverLonger (plan_of f) (shows (plan_of f) start) calls
  pub fresh_kept : (calls : List Call) → NeverLonger (plan_of f) fresh calls
  -- and after some list of calls, from a fresh machine, it is told, for each task and each global resource that it uses: no smaller
  -- figure bounds what is told. The wait itself may be shorter, see `Reached`
  pub reached : EachReached (plan_of f)

-- for every plan file that is accepted
abbrev pub LongestWait : Type 0
LongestWait = (f : List ℕ) → Accepted f → LongestKept f
