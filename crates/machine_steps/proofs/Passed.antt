-- A held line whose holder leaves: what the tables make of it is what the rule does, and is sound.
use Rattle.machine_steps.proofs.Ground.{ℕ, zero, suc, ◌+◌, ◌-◌, ◌<◌, ◌≤◌, Bool, cond, ◌≡◌, refl, sym, ap, ◌∙◌, ◌≢◌, List, eqb, ltb}
use Rattle.machine_steps.proofs.Ground.{get_or, get_or-set_same, get_or-set_other, arith, eq-eqb, ne_eqb, lt-ltb, le-leb, lt-leb, max_below}
use Rattle.machine_steps.proofs.Ground.{by_eq, Plan, Valid, hold_at, budget, terms, task_ranked, queue_from, Standing, LineRow, State}
use Rattle.machine_steps.proofs.Ground.{line_at, slot, rank, seat, Good, Whole, hold_within, on_eq, on_le, Ranked, Timed, full}
use Rattle.machine_steps.proofs.Ground.{Leaves, shifted, turned, hold_of, begun, passed}
use Rattle.queue_rules.specs.Rules as Rules
use Rattle.queue_ranks.proofs.Ranked.{Queued}
use Rattle.queue_ranks.proofs.Leave.{leave_max, after_first, begin_none, begin_some, leave_last, leave_next, leave_back}
use Rattle.queue_ranks.proofs.LeaveKeeps.{leave_ranked, next_queued, last_queued, back_queued, free_timed, begin_timed, next_timed}
use Rattle.machine_steps.proofs.Ready.{Tabled, low_slot, seat_task, seat_taken, seat_empty}
use Rattle.machine_steps.proofs.Shown.{Shown, shown_as}

-- a queue without its head
shifted_at : (l : List ℕ) (j : ℕ) → j < 7 → get_or (shifted l) j 0 ≡ get_or l (suc j) 0
shifted_at l zero h = refl
shifted_at l (suc zero) h = refl
shifted_at l (suc (suc zero)) h = refl
shifted_at l (suc (suc (suc zero))) h = refl
shifted_at l (suc (suc (suc (suc zero)))) h = refl
shifted_at l (suc (suc (suc (suc (suc zero))))) h = refl
shifted_at l (suc (suc (suc (suc (suc (suc zero)))))) h = refl
shifted_at l (suc (suc (suc (suc (suc (suc (suc j))))))) h = let bad : ⊥ = omega arith in absurd bad

shifted_rest : (l : List ℕ) (c i : ℕ) → ((i : ℕ) → c ≤ i → i < 8 → get_or l i 0 ≡ 255) → c ≤ suc i → i < 8 → get_or (shifted l) i 0 ≡ 255
shifted_rest l c i h a b =
    on_eq (get_or (shifted l) i 0 ≡ 255) i 7 (λ e. rw e) (λ n. shifted_at l i (omega arith) ∙ h (suc i) a (omega arith))

module _ (p : Plan) (v : Valid p) (s : State) (w : Whole p s) {figures keys seats : List ℕ} (t : Tabled p s figures keys seats)
    (us : List Standing) (q : ℕ) (lq : q < 16) (held : 1 ≤ (line_at s q).queued)
    (x : Leaves p.tasks (rank p s.tasks q) (rank p us q) (slot (line_at s q) 0)) where
  abbrev l : LineRow
  l = line_at s q

  -- ranks before and after
  abbrev R : ℕ → ℕ → ℕ
  R = rank p s.tasks q

  abbrev S : ℕ → ℕ → ℕ
  S = rank p us q

  -- the others in the queue of processors
  abbrev c : ℕ
  c = l.queued - 1

  good : Good p s.tasks q l
  good = w.lines q lq

  count : l.queued ≡ suc c
  count = omega arith

  ranked : Ranked p.tasks (terms p q) S
  ranked = leave_ranked x good.ranked

  queued : Queued p.tasks p.processors R (suc c) (slot l)
  queued = rw count at good.queued

  -- the first task of processor k afterwards, as the tables from before tell it
  pub first_after : (k : ℕ) → k < 8 → 1 ≤ max_below p.tasks (S k)
      → get_or seats (seat q k (cond (eqb k (slot l 0)) 1 0)) 0 ≡ task_ranked p.tasks (S k) 1 + 1
  first_after k lk a =
      let sits : Sits (eqb k (slot l 0)) (task_ranked p.tasks (S k) 1) = rw (after_first x k)
      (by_eq (λ (b : Bool). Sits b (cond b (task_ranked p.tasks (R k) 2) (task_ranked p.tasks (R k) 1))) k (slot l 0)
      (λ e. seat_task p v s w t.seats_at q k lq lk 1 (omega arith)) (λ n. seat_task p v s w t.seats_at q k lq lk 0 (omega arith))) in
      sits ∙ rw (lt-ltb _ _ (full ranked k 1 (omega arith) a))
    where
      Sits : Bool → ℕ → Type 0
      Sits b u = get_or seats (seat q k (cond b 1 0)) 0 ≡ cond (ltb u p.tasks) (u + 1) 0

  hold_after : (k : ℕ) → k < 8 → 1 ≤ max_below p.tasks (S k)
      → hold_of figures seats q k (cond (eqb k (slot l 0)) 1 0) ≡ hold_at p (task_ranked p.tasks (S k) 1) q
  hold_after k lk a =
      let u : ℕ = task_ranked p.tasks (S k) 1 in
      let e : get_or seats (seat q k (cond (eqb k (slot l 0)) 1 0)) 0 - 1 ≡ u = omega (arith, first_after k lk a) in
      rw e (t.figures_at.hold u q (omega (arith, full ranked k 1 (omega arith) a, v.tasks)) lq)

  begun_good : {g : List ℕ} (d h b : ℕ) → d ≤ 8 → Queued p.tasks p.processors S d (λ i. get_or g i 0)
      → ((i : ℕ) → d ≤ i → i < 8 → get_or g i 0 ≡ 255) → Timed p.tasks (terms p q) S d (λ i. get_or g i 0) h b
      → Good p us q (record { queued = d; queue = g; hold_left = h; budget_left = b })
  begun_good d h b small queued rest timed = record { small = small; ranked = ranked; queued = queued; rest = rest; timed = timed }

  -- the head of what queue is left begins
  abbrev Begun : List ℕ → ℕ → Type 0
  Begun g d = Shown p us q (begun figures seats q (slot l 0) g d) (Rules.begin (terms p q) (queue_from p.tasks S d (λ i. get_or g i 0)))

  begins : (g : List ℕ) (d : ℕ) → d ≤ 8 → Queued p.tasks p.processors S d (λ i. get_or g i 0)
      → ((i : ℕ) → d ≤ i → i < 8 → get_or g i 0 ≡ 255) → Begun g d
  unfolding begun
  begins g d small w2 rest =
      on_eq (Begun g d) d 0
      (λ z. rw (eq-eqb d 0 z) (record {
        good = begun_good 0 0 0 (omega arith) (rw z at w2) (λ i a y. rest i (omega arith) y) (free_timed p.tasks (terms p q) S 0 _ refl);
        shows = sym (begin_none p.tasks (terms p q) S d (λ i. get_or g i 0) z
            ∙ ap (λ (j : ℕ). Rules.line 0 0 (queue_from p.tasks S j (λ i. get_or g i 0))) z);
      }))
      (λ z. let k : ℕ = get_or g 0 0 in
      let lk : k < 8 = omega (arith, v.processors, w2.placed 0 (omega arith)) in
      rw (ne_eqb d 0 z, hold_after k lk (w2.served 0 (omega arith)), t.figures_at.budget k q lk lq) (record {
        good = begun_good d _ _ small w2 rest (begin_timed ranked (λ u. hold_within p u q) d _ w2 (omega arith));
        shows = sym (begin_some p.tasks (terms p q) S d (λ i. get_or g i 0) (omega arith));
      }))

  -- the next task of the head's processor, as its second from before
  abbrev next : ℕ
  next = task_ranked p.tasks (S (slot l 0)) 1

  head_low : slot l 0 < 8
  head_low = low_slot p v s w q 0 lq held

  hold_next : 2 ≤ max_below p.tasks (R (slot l 0)) → hold_of figures seats q (slot l 0) 1 ≡ hold_at p next q
  hold_next a = rw (eq-eqb (slot l 0) _ refl) at (hold_after (slot l 0) head_low (omega (arith, leave_max x)))

  -- the queue without its head, and with it at the tail
  abbrev others : List ℕ
  others = shifted l.queue

  abbrev back : List ℕ
  back = turned l.queue l.queued

  other_at : (j : ℕ) → j < c → get_or others j 0 ≡ slot l (suc j)
  other_at j y = shifted_at l.queue j (omega (arith, good.small))

  module _ (h b : ℕ) where
    -- the line with this hold and budget left, and what the rule makes of it
    abbrev line : LineRow
    line = record { queued = l.queued; queue = l.queue; hold_left = h; budget_left = b }

    abbrev ruled : Rules.Line
    ruled = Rules.leave (terms p q) b (queue_from p.tasks R l.queued (slot l))

    ruled_as : {m : Rules.Line} → Rules.leave (terms p q) b (queue_from p.tasks R (suc c) (slot l)) ≡ m → m ≡ ruled
    ruled_as e = sym (rw count e)

    -- the three ways on
    pass_last : max_below p.tasks (R (slot l 0)) ≤ 1 → Shown p us q (begun figures seats q (slot l 0) others c) ruled
    pass_last a =
        shown_as
        (begins others c (omega (arith, good.small)) (last_queued x queued (λ i. get_or others i 0) a other_at)
        (λ i y z. shifted_rest l.queue l.queued i good.rest (omega arith) z))
        (ruled_as (leave_last (terms p q) x queued b (λ i. get_or others i 0) a other_at))

    pass_back : 2 ≤ max_below p.tasks (R (slot l 0)) → b < hold_at p next q → Shown p us q (begun figures seats q (slot l 0) back l.queued) ruled
    pass_back a y =
        let same : (j : ℕ) → j < c → get_or back j 0 ≡ slot l (suc j) =
        λ j z. get_or-set_other others c j (slot l 0) 0 (λ i. omega arith) ∙ other_at j z in
        let last : get_or back c 0 ≡ slot l 0 = get_or-set_same others c (slot l 0) 0 (omega (arith, good.small)) in
        shown_as
        (begins back l.queued good.small (rw (← count) at (back_queued x queued (λ i. get_or back i 0) a same last))
        (λ i y z. get_or-set_other others c i (slot l 0) 0 (λ e. omega arith)
        ∙ shifted_rest l.queue l.queued i good.rest (omega arith) z))
        (ruled_as (leave_back (terms p q) x queued b (λ i. get_or back i 0) a y same last
        ∙ ap (λ (d : ℕ). Rules.begin (terms p q) (queue_from p.tasks S d (λ i. get_or back i 0))) (sym count)))

    pass_next : b ≤ budget p (slot l 0) q → 2 ≤ max_below p.tasks (R (slot l 0)) → hold_at p next q ≤ b
        → Shown p us q (record { queued = l.queued; queue = l.queue; hold_left = hold_at p next q; budget_left = b }) ruled
    pass_next within a y =
        shown_as
        (record {
          good = begun_good l.queued _ b good.small (rw (← count) at (next_queued x queued a)) good.rest
              (next_timed ranked (λ u. hold_within p u q) l.queued (slot l) b (omega (arith, leave_max x)) y within held);
          shows = refl;
        })
        (ruled_as (leave_next (terms p q) x queued b a y
        ∙ ap (λ (d : ℕ). Rules.line (hold_at p next q) b (queue_from p.tasks S d (slot l))) (sym count)))

    -- the line once its holder left
    pub passed_shown : b ≤ budget p (slot l 0) q → Shown p us q (passed figures seats q line) ruled
    unfolding passed
    passed_shown within =
        on_le (Shown p us q (passed figures seats q line) ruled) 2 (max_below p.tasks (R (slot l 0)))
        (λ a. let some : get_or seats (seat q (slot l 0) 1) 0 ≢ 0 = λ e. omega (arith, seat_taken p v s w t.seats_at q (slot l 0) lq head_low 1 a) in
        on_le (Shown p us q (passed figures seats q line) ruled) (hold_at p next q) b
        (λ y. rw (ne_eqb _ 0 some, hold_next a, le-leb _ _ y) (pass_next within a y))
        (λ y. rw (ne_eqb _ 0 some, hold_next a, lt-leb _ _ y) (pass_back a y)))
        (λ a. rw (seat_empty p v s w t.seats_at q (slot l 0) lq head_low 1 (omega arith) (omega arith)) (pass_last (omega arith)))
