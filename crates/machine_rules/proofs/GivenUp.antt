-- What a give-up does that is not refused: its task waited, and waits no more; by it its core may leave the queue.
use Rattle.machine_rules.proofs.Ground.{ℕ, Bool, true, false, ◌&&◌, not, true≢false, not-true, ◌≡◌, refl, sym, ◌∙◌, List, eqb}
use Rattle.machine_rules.proofs.Ground.{eq-eqb, and_parts, is_not_true, Plan, processor_of, task_number, in_line, holds, queued, is_head}
use Rattle.machine_rules.proofs.Ground.{waiting, without, queue_of, tasks_of, all_but, withdrawn, Call, Request, Release, GiveUp, Tick}
use Rattle.machine_rules.proofs.Ground.{View, terms, call_code, step, gives_up}
use Rattle.folds.proofs.Ground.{eqb-true}
use Rattle.queue_rules.proofs.Sound.{sound_queue}
use Rattle.queue_rules.proofs.Own.{own_stands}
use Rattle.queue_rules.proofs.Once.{tasks_own}
use Rattle.queue_rules.proofs.Heads.{queued_some, among_some, head_queued}
use Rattle.queue_rules.proofs.Withdrawn.{but_none, tasks_withdrawn, withdrawn_head, withdrawn_own}
use Rattle.machine_rules.specs.Waiting.{withdraws, empties}
use Rattle.machine_rules.proofs.SoundLines.{known, SoundAt}
use Rattle.machine_rules.proofs.LineCodes.{line_passes}

module _ (p : Plan) (s : View) (tag q : ℕ) (e : call_code p s (GiveUp tag q) ≡ 0) where
  pub gave_waiting : waiting (task_number p tag) (s.lines q) ≡ true
  gave_waiting = line_passes p waiting 22 s tag q e

  pub gave_step : (step p s (GiveUp tag q)).lines q ≡ withdrawn (task_number p tag) (s.lines q)
  unfolding step
  gave_step = rw (e, eq-eqb q q refl)

  pub gave_not_holding : holds (task_number p tag) (s.lines q) ≡ false
  gave_not_holding =
      let i = task_number p tag in
      let l = s.lines q in
      let (_, n) = and_parts (in_line i l) (not (holds i l)) gave_waiting in not-true (holds i l) n

module _ (p : Plan) (q : ℕ) (s : View) where
  -- a give-up by one of these tasks, taken apart
  pub data Withdraws (those : ℕ → Bool) : Call → Type 0 where
    by : (tag : ℕ) → those (task_number p tag) ≡ true → call_code p s (GiveUp tag q) ≡ 0 → Withdraws those (GiveUp tag q)

  pub withdraws_by : (those : ℕ → Bool) (c : Call) → withdraws p those q s c ≡ true → Withdraws those c
  withdraws_by those (Request tag r) h = absurd (true≢false (sym h))
  withdraws_by those (Release tag r) h = absurd (true≢false (sym h))
  withdraws_by those (GiveUp tag r) h =
      let (x, z) = and_parts (eqb r q && those (task_number p tag)) (eqb (call_code p s (GiveUp tag r)) 0) h in
      let (i, y) = and_parts (eqb r q) (those (task_number p tag)) x in
      own r (eqb-true r q i) y (eqb-true (call_code p s (GiveUp tag r)) 0 z)
    where
      own : (r : ℕ) → r ≡ q → those (task_number p tag) ≡ true → call_code p s (GiveUp tag r) ≡ 0 → Withdraws those (GiveUp tag r)
      own r i y z = rw i (by tag y (rw i at z))
  withdraws_by those Tick h = absurd (true≢false (sym h))

  -- a give-up by none of them
  pub withdraws_not : (those : ℕ → Bool) (tag : ℕ) → call_code p s (GiveUp tag q) ≡ 0 → withdraws p those q s (GiveUp tag q) ≡ those (task_number p tag)
  withdraws_not those tag e = rw (e, eq-eqb q q refl) (and_true_right (those (task_number p tag)))
    where
      and_true_right : (b : Bool) → (b && true) ≡ b
      and_true_right true = refl
      and_true_right false = refl

  -- a task
  pub task_gave : (i : ℕ) (c : Call) → gives_up p i q s c ≡ true → (waiting i (s.lines q) ≡ true) × (waiting i ((step p s c).lines q) ≡ false)
  task_gave i c h = go (withdraws_by (λ j. eqb j i) c h)
    where
      go : {c : Call} → Withdraws (λ j. eqb j i) c → (waiting i (s.lines q) ≡ true) × (waiting i ((step p s c).lines q) ≡ false)
      go (by tag y z) =
          let k = eqb-true (task_number p tag) i y in
          (rw k at (gave_waiting p s tag q z), rw (gave_step p s tag q z, k) (withdrawn_own i (s.lines q)))

  module _ (o : SoundAt p q (s.lines q)) where
    abbrev queue_tasks : ℕ → List ℕ
    queue_tasks k = tasks_of k (queue_of (s.lines q))

    -- a core
    pub core_gave : (k : ℕ) (c : Call) → empties p k q s c ≡ true
        → (without k (s.lines q) ≡ true) × (without k ((step p s c).lines q) ≡ false)
    core_gave k c h =
        let (x, y) = and_parts (withdraws p (λ j. eqb (processor_of p j) k) q s c) (not (queued k ((step p s c).lines q))) h in
        let gone : queued k ((step p s c).lines q) ≡ false = not-true _ y in
        (go (withdraws_by (λ j. eqb (processor_of p j) k) c x) gone, rw gone)
      where
        go : {c : Call} → Withdraws (λ j. eqb (processor_of p j) k) c → queued k ((step p s c).lines q) ≡ false → without k (s.lines q) ≡ true
        go (by tag y z) gone =
            let i : ℕ = task_number p tag in
            let own = eqb-true (processor_of p i) k y in
            let (inside, _) = and_parts (in_line i (s.lines q)) _ (gave_waiting p s tag q z) in
            let here = sym (own_stands (terms p q) (known p q) p.processors i (sound_queue (terms p q) (known p q) p.processors o)) ∙ inside in
            let there : queued k (s.lines q) ≡ true = sym (queued_some k (queue_of (s.lines q))) ∙ among_some i (queue_tasks k) (rw own at here) in
            let not_head : is_head k (s.lines q) ≡ false =
            is_not_true _ (λ e. true≢false (sym (head_queued k (withdrawn i (s.lines q)) (withdrawn_head k i (s.lines q) ∙ e))
            ∙ (rw (gave_step p s tag q z) at gone))) in
            rw (there, not_head)

    -- who is left of the tasks of a processor: all but that task, and all where it is another processor's
    pub tasks_left : (k tag : ℕ) → call_code p s (GiveUp tag q) ≡ 0
        → tasks_of k (queue_of ((step p s (GiveUp tag q)).lines q)) ≡ all_but (task_number p tag) (queue_tasks k)
    tasks_left k tag z =
        rw (gave_step p s tag q z)
        (tasks_withdrawn (terms p q) (known p q) p.processors k (task_number p tag) o (gave_not_holding p s tag q z))

    pub others_left : (k tag : ℕ) → (processor_of p (task_number p tag) ≡ k → ⊥) → all_but (task_number p tag) (queue_tasks k) ≡ queue_tasks k
    others_left k tag d =
        but_none (task_number p tag) (queue_tasks k)
        (is_not_true _ (λ m. let (x, _) = tasks_own (terms p q) (known p q) p.processors (task_number p tag) k
        (sound_queue (terms p q) (known p q) p.processors o) m in d x))
