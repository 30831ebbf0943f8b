-- From all orderly lines: whoever waits has what it waits for, or gives up, within its bound.
use Rattle.machine_rules.proofs.Ground.{ℕ, ◌+◌, ◌-◌, ◌≤◌, ◌<◌, Bool, true, false, not, and-false, or-true, true≢false, ◌≡◌, refl}
use Rattle.machine_rules.proofs.Ground.{sym, ap, ◌∙◌, ◌⊎◌, inl, inr, List, [], ◌∷◌, ◌++◌, arith, by_eq, not-true, and_parts, Plan}
use Rattle.machine_rules.proofs.Ground.{Valid, processor_of, task_number, Line, among, in_line, holds, queued, is_head, waiting, without}
use Rattle.machine_rules.proofs.Ground.{ahead_in, queue_of, tasks_of, all_but, limit, by_bool, Call, Request, Release, GiveUp, Tick}
use Rattle.machine_rules.proofs.Ground.{View, terms, call_code, step, after, is_tick, ticks, Event, grants, gives_up, occurs, Within}
use Rattle.machine_rules.proofs.Ground.{Bounded, Waiter, task_for, core_for, ended, Kept, TaskKept, ServedFrom}
use Rattle.folds.proofs.Ground.{eqb, eq-eqb, eqb-false, not-false}
use Rattle.folds.proofs.Tests.{or_out}
use Rattle.queue_rules.proofs.Cases.{or_no}
use Rattle.queue_rules.proofs.Kept as Queue
use Rattle.queue_rules.proofs.Kept.{Waiting, kept_entered, kept_released, kept_withdrawn, kept_ticked, kept_some, kept_there}
use Rattle.queue_rules.proofs.Sound.{sound_queue}
use Rattle.queue_rules.proofs.Own.{own_stands}
use Rattle.queue_rules.proofs.Waiting.{Tasks, task_kept, wait_bound}
use Rattle.queue_rules.proofs.Heads.{Some, is_some, core_kept, head_bound, queued_some}
use Rattle.queue_rules.proofs.Withdrawn.{but_other}
use Rattle.machine_rules.specs.Waiting.{empties, CoreKept}
use Rattle.machine_rules.proofs.Moves.{Move, stays, enters, leaves, gives_up_lem, moved}
use Rattle.machine_rules.proofs.Moves as Moves
use Rattle.machine_rules.proofs.SoundLines.{known, fits}
use Rattle.machine_rules.proofs.OnceLines.{Orderly, orderly_step, orderly_after}
use Rattle.machine_rules.proofs.GivenUp.{gave_not_holding, withdraws_not, task_gave, core_gave, tasks_left, others_left}

-- with this the bound holds also where the call itself counts, so that a grant that comes too late is refused in InTime and not here
tick_le : (c : Call) → is_tick c ≤ 1
tick_le (Request tag q) = omega arith
tick_le (Release tag q) = omega arith
tick_le (GiveUp tag q) = omega arith
tick_le Tick = omega arith

module _ (p : Plan) where
  -- an event in a list occurs in it
  occurs_at : (e : Event p) (s : View) (early : List Call) (c : Call) (late : List Call) → e (after p s early) c ≡ true
      → occurs p e s (early ++ (c ∷ late)) ≡ true
  occurs_at e s [] c late h = rw h
  occurs_at e s (d ∷ early) c late h = rw (occurs_at e (step p s d) early c late h) (or-true (e s d))

  -- a wait that is served in time, and one that takes less
  served_bounded : (over served : Event p) (s : View) (cs : List Call) (n : ℕ) → ((s : View) (c : Call) → served s c ≡ true → over s c ≡ true)
      → Within p served s cs n → Bounded p over served s cs n
  served_bounded over served s cs n h r =
      let o : occurs p over s cs ≡ true = rw r.split (occurs_at over s r.early r.call r.late (h _ _ r.happens)) in
      record { lasts = λ no. absurd (true≢false (sym o ∙ no)); comes = λ _. r }

  less_bounded : (over served : Event p) (s : View) (cs : List Call) (n : ℕ) → ticks cs < n → Bounded p over served s cs n
  less_bounded over served s cs n l = record { lasts = λ _. l; comes = λ g. let bad : ⊥ = omega arith in absurd bad }

module _ (p : Plan) (w : Waiter p) where
  -- it goes on, and takes less
  record Lasting (s : View) (cs : List Call) (n : ℕ) : Type 0 where
    none : occurs p (ended p w) s cs ≡ false
    few : ticks cs < n
    still : w.waits (after p s cs) ≡ true

  -- which of the two it is
  abbrev Either : View → List Call → ℕ → Type 0
  Either s cs n = Within p (ended p w) s cs n ⊎ Lasting s cs n

  either_later : (s : View) (c : Call) (cs : List Call) (m n : ℕ) → ended p w s c ≡ false → m + is_tick c ≤ n
      → Either (step p s c) cs m → Either s (c ∷ cs) n
  either_later s c cs m n h le (inl r) =
      inl (record {
        early = c ∷ r.early;
        call = r.call;
        late = r.late;
        split = ap (λ (l : List Call). c ∷ l) r.split;
        happens = r.happens;
        soon = omega (arith, r.soon);
      })
  either_later s c cs m n h le (inr r) = inr (record { none = rw h r.none; few = omega (arith, r.few); still = r.still })

  -- where it does not give up, it is served
  served_within : (s : View) (cs : List Call) (n : ℕ) → occurs p w.quits s cs ≡ false → Within p (ended p w) s cs n → Within p w.served s cs n
  served_within s cs n never r =
      record {
        early = r.early;
        call = r.call;
        late = r.late;
        split = r.split;
        happens = or_out (w.served (after p s r.early) r.call) (w.quits (after p s r.early) r.call) _ r.happens
            (λ h. h) (λ h. absurd (true≢false (sym (quit h) ∙ never)));
        soon = r.soon;
      }
    where
      quit : w.quits (after p s r.early) r.call ≡ true → occurs p w.quits s cs ≡ true
      quit h = rw r.split (occurs_at p w.quits s r.early r.call r.late h)

-- A wait in the line of q until it is `done`
module _ (p : Plan) (v : Valid p) (q k : ℕ) (done : Line → Bool) (there : List ℕ → Bool) (Own : List ℕ → ℕ → Type 0)
    (kept : Queue.Kept (terms p q) k done there Own) where
  -- the tasks of k in line
  abbrev tasks : View → List ℕ
  tasks s = tasks_of k (queue_of (s.lines q))

  -- how w tells of it
  record Tells (w : Waiter p) : Type 0 where
    seen : (s : View) → Orderly p s → there (tasks s) ≡ true → done (s.lines q) ≡ false → w.waits s ≡ true
    goes_on : (s : View) (c : Call) → done (s.lines q) ≡ false → ended p w s c ≡ false → done ((step p s c).lines q) ≡ false
    remains : (s : View) (tag : ℕ) → Orderly p s → call_code p s (GiveUp tag q) ≡ 0 → w.quits s (GiveUp tag q) ≡ false → there (tasks s) ≡ true
        → there (all_but (task_number p tag) (tasks s)) ≡ true
    ends_it : (s : View) (c : Call) → w.served s c ≡ true → w.over s c ≡ true
    own : (s : View) (c : Call) → Orderly p s → w.quits s c ≡ true → (w.waits s ≡ true) × (w.waits (step p s c) ≡ false)

  -- its bound
  abbrev Bound : ℕ → Line → Type 0
  Bound = Waiting (terms p q) k done there Own

  bound_some : {s : View} {n : ℕ} → Orderly p s → Bound n (s.lines q) → 1 ≤ n
  bound_some o x = kept_some (terms p q) k done there Own kept (known p q) p.processors (fits p v q) (o.sound q) x

  bound_there : {s : View} {n : ℕ} → Orderly p s → Bound n (s.lines q) → there (tasks s) ≡ true
  bound_there o x = kept_there (terms p q) k done there Own kept (known p q) p.processors (o.sound q) x

  -- no move raises it, and a tick lowers it
  record Lowered (n : ℕ) (c : Call) (l : Line) : Type 0 where
    most : ℕ
    less : most + is_tick c ≤ n
    bound : Bound most l

  level : {n : ℕ} {c : Call} {l : Line} → is_tick c ≡ 0 → Bound n l → Lowered n c l
  level {n} z x = record { most = n; less = omega arith; bound = x }

  module _ (w : Waiter p) (t : Tells w) where
    lowered : {s : View} {c : Call} {l : Line} {n : ℕ} → Orderly p s → Bound n (s.lines q) → done l ≡ false → ended p w s c ≡ false
        → Move p s q c l → Lowered n c l
    lowered o x d e (stays z) = level z x
    lowered o x d e (enters tag h) = level refl (kept_entered (terms p q) k done there Own kept (task_number p tag) x)
    lowered o x d e (leaves tag) =
        level refl (kept_released (terms p q) k done there Own kept (known p q) p.processors (fits p v q) (o.sound q) x d)
    lowered {s} o x d e (gives_up_lem tag h) =
        let (_, stay) = or_no (w.served s (GiveUp tag q)) (w.quits s (GiveUp tag q)) e in
        level refl (kept_withdrawn (terms p q) k done there Own kept (known p q) p.processors (task_number p tag) (o.sound q) x
        (gave_not_holding p s tag q h) (t.remains s tag o h stay (bound_there o x)) d)
    lowered {n = n} o x d e Moves.ticks = record {
      most = n - 1;
      less = omega (arith, bound_some o x);
      bound = kept_ticked (terms p q) k done there Own kept (known p q) p.processors (fits p v q) (o.sound q) x d;
    }

    which : (s : View) (cs : List Call) (n : ℕ) → Orderly p s → Bound n (s.lines q) → done (s.lines q) ≡ false → Either p w s cs n
    which s [] n o x d = inr (record { none = refl; few = bound_some o x; still = t.seen s o (bound_there o x) d })
    which s (c ∷ cs) n o x d =
        by_bool (λ _. Either p w s (c ∷ cs) n) (ended p w s c)
        (λ h. inl (record { early = []; call = c; late = cs; split = refl; happens = h; soon = omega (arith, tick_le c, bound_some o x) }))
        (λ h. let y = t.goes_on s c d h in
        let g = lowered o x y h (moved p s q c) in
        either_later p w s c cs g.most n h g.less (which (step p s c) cs g.most (orderly_step p v s c o) g.bound y))

    kept_so : (s : View) (cs : List Call) (n : ℕ) → Orderly p s → Bound n (s.lines q) → done (s.lines q) ≡ false → Kept p w s cs n
    kept_so s cs n o x d =
        record { bound = bound (which s cs n o x d); only = only (which s cs n o x d); own = own; stays = stays (which s cs n o x d) }
      where
        bound : Either p w s cs n → Bounded p (ended p w) (ended p w) s cs n
        bound (inl r) = served_bounded p (ended p w) (ended p w) s cs n (λ s c h. h) r
        bound (inr r) = less_bounded p (ended p w) (ended p w) s cs n r.few

        only : Either p w s cs n → occurs p (ended p w) s cs ≡ false → w.waits (after p s cs) ≡ true
        only (inl r) never = absurd (true≢false (sym (rw r.split (occurs_at p (ended p w) s r.early r.call r.late r.happens)) ∙ never))
        only (inr r) never = r.still

        own : (before : List Call) (c : Call) (since : List Call) → cs ≡ before ++ (c ∷ since) → w.quits (after p s before) c ≡ true
            → (w.waits (after p s before) ≡ true) × (w.waits (step p (after p s before) c) ≡ false)
        own before c since e h = t.own (after p s before) c (orderly_after p v s before o) h

        stays : Either p w s cs n → occurs p w.quits s cs ≡ false → Bounded p w.over w.served s cs n
        stays (inl r) never = served_bounded p w.over w.served s cs n t.ends_it (served_within p w s cs n never r)
        stays (inr r) never = less_bounded p w.over w.served s cs n r.few

module _ (p : Plan) (v : Valid p) where
  -- a task that waits
  task_tells : (i q : ℕ) → Tells p v q (processor_of p i) (holds i) (among i) (Tasks (terms p q) i) (task_kept (terms p q) i) (task_for p i q)
  task_tells i q =
      record {
        seen = λ s o m d. let queue = sound_queue (terms p q) (known p q) p.processors (o.sound q) in
            rw (own_stands (terms p q) (known p q) p.processors i queue ∙ m, d);
        goes_on = λ s c d h. let (g, _) = or_no (grants p i q s c) (gives_up p i q s c) h in rw d at g;
        remains = λ s tag o z h m. let other = eqb-false (task_number p tag) i (sym (withdraws_not p q s (λ j. eqb j i) tag z) ∙ h) in
            but_other i (task_number p tag) other (tasks_of (processor_of p i) (queue_of (s.lines q))) ∙ m;
        ends_it = λ s c h. h;
        own = λ s c o h. task_gave p q s i c h;
      }

  task_served : (s : View) → Orderly p s → (i q : ℕ) → waiting i (s.lines q) ≡ true
      → (cs : List Call) → TaskKept p i q s cs (limit (terms p q) i (ahead_in (terms p q) i (s.lines q)))
  task_served s o i q a cs =
      let t = terms p q in
      let (x, y) = and_parts (in_line i (s.lines q)) (not (holds i (s.lines q))) a in
      let b = not-true (holds i (s.lines q)) y in
      kept_so p v q (processor_of p i) (holds i) (among i) (Tasks t i) (task_kept t i) (task_for p i q) (task_tells i q) s cs _ o
      (wait_bound t i (known p q) p.processors (fits p v q) (s.lines q) (o.sound q) x b) b

  -- a core that is queued and not head
  core_tells : (k q : ℕ) → Tells p v q k (is_head k) is_some Some (core_kept (terms p q) k) (core_for p k q)
  core_tells k q =
      record {
        seen = λ s o m d. rw (sym (queued_some k (queue_of (s.lines q))) ∙ m, d);
        goes_on = λ s c d h. let (g, _) = or_no (is_head k ((step p s c).lines q)) (empties p k q s c) h in g;
        remains = left;
        ends_it = λ s c h. rw (h, and-false);
        own = λ s c o h. core_gave p q s (o.sound q) k c h;
      }
    where
      left : (s : View) (tag : ℕ) → Orderly p s → call_code p s (GiveUp tag q) ≡ 0 → empties p k q s (GiveUp tag q) ≡ false
          → is_some (tasks_of k (queue_of (s.lines q))) ≡ true → is_some (all_but (task_number p tag) (tasks_of k (queue_of (s.lines q)))) ≡ true
      left s tag o z h m =
          by_eq (λ (_ : Bool). is_some (all_but (task_number p tag) (tasks_of k (queue_of (s.lines q)))) ≡ true) (processor_of p (task_number p tag)) k
          (λ e. ap is_some (sym (tasks_left p q s (o.sound q) k tag z)) ∙ queued_some k (queue_of ((step p s (GiveUp tag q)).lines q)) ∙ left_queued e)
          (λ d. rw (others_left p q s (o.sound q) k tag d) m)
        where
          left_queued : processor_of p (task_number p tag) ≡ k → queued k ((step p s (GiveUp tag q)).lines q) ≡ true
          left_queued e =
              let here = withdraws_not p q s (λ j. eqb (processor_of p j) k) tag z ∙ eq-eqb _ _ e in
              not-false (queued k ((step p s (GiveUp tag q)).lines q)) (rw here at h)

  core_served : (s : View) → Orderly p s → (k q : ℕ) → without k (s.lines q) ≡ true → (cs : List Call) → CoreKept p k q s cs
  core_served s o k q a cs =
      let t = terms p q in
      let (x, y) = and_parts (queued k (s.lines q)) (not (is_head k (s.lines q))) a in
      let b = not-true (is_head k (s.lines q)) y in
      kept_so p v q k (is_head k) is_some Some (core_kept t k) (core_for p k q) (core_tells k q) s cs _ o
      (head_bound t k (known p q) p.processors (fits p v q) (s.lines q) (o.sound q) x b) b

  -- whoever waits in orderly lines is served
  pub served_from : (s : View) → Orderly p s → (cs : List Call) → ServedFrom p s cs
  served_from s o cs = record { task = λ i q a. task_served s o i q a cs; core = λ k q a. core_served s o k q a cs }
