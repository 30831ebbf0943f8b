-- What the tables tell of the tasks ahead, what a request is answered, and which tasks are in line.
use Rattle.machine_steps.proofs.Ground.{ℕ, zero, suc, ◌+◌, ◌*◌, ◌-◌, ◌<◌, ◌≤◌, Bool, true, false, not, ◌≡◌, refl, sym, ap, ◌∙◌, ◌⊎◌}
use Rattle.machine_steps.proofs.Ground.{inl, inr, List, eqb, length, get_or, arith, eqb-true, eq-eqb, ne_eqb, any_below, sum_below}
use Rattle.machine_steps.proofs.Ground.{max_below, same_test, any_at, any_out, find_none, Plan, Valid, processor_of, hold_at, wait_time}
use Rattle.machine_steps.proofs.Ground.{hold_cell, Figures, terms, busy, request_answer, list_from, task_ranked, queue_from, Standing}
use Rattle.machine_steps.proofs.Ground.{LineRow, State, standing, line_at, slot, rank, shows, none_in_line, seat, Seats, Whole, on_le}
use Rattle.machine_steps.proofs.Ground.{full, low_processor, hold_resource, taken, taken_holds}
use Rattle.folds.proofs.Ground.{[], ◌∷◌, ◌++◌, eqb-false, not-true}
use Rattle.folds.proofs.Tests.{all_from, any_same}
use Rattle.folds.proofs.Figures.{sum_same}
use Rattle.queue_rules.specs.Rules.{line, in_line, tasks_of, sum_of, limit}
use Rattle.machine_rules.specs.declared.Answer.TheVariants.{Granted, Waits}
use Rattle.folds.proofs.Searches.{find_is}
use Rattle.machine_steps.proofs.Ready.{seats_few, seat_taken, seat_empty}
use Rattle.queue_ranks.proofs.Lists.{list_snoc, list_length}
use Rattle.machine_state.proofs.Told.{ahead_list, stands_is}

-- a sum over a list goes from its head, one over a range from its end
sum_last : (f : ℕ → ℕ) (us : List ℕ) (u : ℕ) → sum_of f (us ++ (u ∷ [])) ≡ sum_of f us + f u
sum_last f [] u = omega arith
sum_last f (v ∷ us) u = omega (arith, sum_last f us u)

sum_list : (n : ℕ) (h f : ℕ → ℕ) → sum_below n (λ j. h (f (j + 1))) ≡ sum_of h (list_from n 1 f)
unfolding sum_below list_from
sum_list zero h f = refl
sum_list (suc n) h f =
    ap (λ (x : ℕ). x + h (f (n + 1))) (sum_list n h f)
    ∙ sym (ap (sum_of h) (list_snoc n 1 (n + 1) f (omega arith)) ∙ sum_last h (list_from n 1 f) (f (n + 1)))

-- ── the tasks ahead ──
module _ (p : Plan) (v : Valid p) (s : State) (w : Whole p s) (q k : ℕ) (lq : q < 16) where
  abbrev ranks : ℕ → ℕ
  ranks = rank p s.tasks q k

  abbrev most : ℕ
  most = max_below p.tasks ranks

  module _ (lk : k < 8) {seats : List ℕ} (t : Seats p s.tasks seats) where
    pub taken_is : taken seats q k ≡ most
    unfolding taken
    taken_is =
        on_le (taken seats q k ≡ most) 64 most
        (λ a. find_none 64 test (all_from 64 (λ j. not (test j)) (λ j l. ap not (full_at j (omega arith)))) ∙ omega (arith, seats_few p v s w t q k lq lk))
        (λ l. find_is 64 most test l (eq-eqb _ 0 (seat_empty p v s w t q k lq lk most (omega arith) l)) full_at)
      where
        test : ℕ → Bool
        test j = eqb (get_or seats (seat q k j) 0) 0

        full_at : (j : ℕ) → j < most → test j ≡ false
        full_at j l = ne_eqb (get_or seats (seat q k j) 0) 0 (λ e. omega (arith, seat_taken p v s w t q k lq lk j l))

    module _ {figures : List ℕ} (c : Figures p figures) where
      taken_holds_lem : taken_holds figures seats q k ≡ sum_of (terms p q).hold (list_from most 1 (task_ranked p.tasks ranks))
      unfolding taken_holds
      taken_holds_lem =
          rw taken_is (sum_same most _ _ hold ∙ sum_list most (λ u. hold_at p u q) (task_ranked p.tasks ranks))
        where
          hold : (j : ℕ) → j < most → get_or figures (hold_cell (get_or seats (seat q k j) 0 - 1) q) 0 ≡ hold_at p (task_ranked p.tasks ranks (j + 1)) q
          hold j l =
              let u : ℕ = task_ranked p.tasks ranks (j + 1) in
              let a : u < p.tasks = full (w.lines q lq).ranked k (j + 1) (omega arith) (omega arith) in
              let e : get_or seats (seat q k j) 0 - 1 ≡ u = omega (arith, seat_taken p v s w t q k lq lk j l) in
              rw e (c.hold u q (omega (arith, v.tasks)) lq)

-- ── the answer ──
-- of a held line
told_held : (p : Plan) (i q n : ℕ) (R : ℕ → ℕ → ℕ) (c : ℕ) (g : ℕ → ℕ) (h b : ℕ) → 1 ≤ c
    → request_answer p i q (line h b (queue_from n R c g))
    ≡ Waits (length (tasks_of (processor_of p i) (queue_from n R c g))) (limit (terms p q) i (tasks_of (processor_of p i) (queue_from n R c g)))
unfolding list_from
told_held p i q n R zero g h b a = let bad : ⊥ = omega arith in absurd bad
told_held p i q n R (suc c) g h b a = refl

module _ (p : Plan) (v : Valid p) (s : State) (w : Whole p s) (i q : ℕ) where
  pub request_granted : (line_at s q).queued ≡ 0 → request_answer p i q ((shows p s).lines q) ≡ Granted
  unfolding shows list_from
  request_granted e = rw e

  pub request_waits : {seats figures : List ℕ} → 1 ≤ (line_at s q).queued → q < 16 → i < p.tasks → Seats p s.tasks seats → Figures p figures
      → request_answer p i q ((shows p s).lines q)
      ≡ Waits (taken seats q (processor_of p i))
      (taken_holds figures seats q (processor_of p i) + (taken seats q (processor_of p i) + 1) * wait_time p (processor_of p i) q)
  unfolding shows
  request_waits {seats} {figures} a lq lt t c =
      let k : ℕ = processor_of p i in
      let lk : k < 8 = low_processor p v i lt in
      let l : LineRow = line_at s q in
      told_held p i q p.tasks (rank p s.tasks q) l.queued (slot l) l.hold_left l.budget_left a
      ∙ rw (ahead_list p v s w q k lq, list_length, taken_is p v s w q k lq lk t, taken_holds_lem p v s w q k lq lk t c)

-- ── who is in line ──
module _ (p : Plan) (v : Valid p) (s : State) (w : Whole p s) (i : ℕ) (lt : i < p.tasks) where
  pub busy_is : busy p (shows p s) i ≡ not (eqb (standing s.tasks i).resource 255)
  unfolding busy
  busy_is =
      any_same p.resources (λ q. in_line i ((shows p s).lines q)) (eqb r) (stands_is p v s w i lt)
      ∙ same_test (any_below p.resources (eqb r)) (not (eqb r 255))
      (λ e. any_out p.resources (eqb r) _ e (λ q l t. ap not (ne_eqb r 255 (λ f. omega (arith, v.resources, eqb-true r q t)))))
      (λ e. some e (w.rows i (omega (arith, v.tasks))))
    where
      r : ℕ
      r = (standing s.tasks i).resource

      some : not (eqb r 255) ≡ true → (standing s.tasks i ≡ none_in_line) ⊎ (1 ≤ hold_at p i r) → any_below p.resources (eqb r) ≡ true
      some e (inl none) = absurd (eqb-false r 255 (not-true (eqb r 255) e) (ap (λ (x : Standing). x.resource) none))
      some e (inr h) = any_at p.resources r (eqb r) (hold_resource p v i r h) (eq-eqb r r refl)
