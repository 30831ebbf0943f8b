-- Who waits after a move waited before it, but for the one who came by it.
use Rattle.queue_rules.proofs.Ground.{ℕ, ◌-◌, ◌≤◌, Bool, true, cond, not, or-true, true≢false, ◌≡◌, refl, sym, ap, ◌∙◌, List, []}
use Rattle.queue_rules.proofs.Ground.{◌∷◌, eqb, arith, eq-eqb, ne_eqb, eqb-true, or_out, by_eq, Terms, Turn, turn, Line, line}
use Rattle.queue_rules.proofs.Ground.{queue_of, among, in_line, holds, tasks_of, entered, leave, released, ticked}
use Rattle.folds.proofs.Ground.{◌⊎◌, inl, inr}
use Rattle.folds.proofs.Tests.{and_parts}
use Rattle.queue_rules.specs.Rules.{waiting}
use Rattle.queue_rules.proofs.Cases.{by_test}
use Rattle.queue_rules.proofs.Sound.{Fits, Proper, stands, Sound, is_free, is_held, sound_queue}
use Rattle.queue_rules.proofs.Moves.{sound_leave}
use Rattle.queue_rules.proofs.FirstCome.{entered_queue, entered_holds, join_stands, first_served}
use Rattle.queue_rules.proofs.Own.{own_stands}
use Rattle.queue_rules.proofs.Once.{more, EachOnce, next}

module _ (t : Terms) (known : ℕ → Bool) (procs : ℕ) (i : ℕ) where
  -- a task that waits once j has come waited before, or is j
  pub entered_waiting : (j : ℕ) (l : Line) → waiting i (entered t j l) ≡ true → (waiting i l ≡ true) ⊎ (j ≡ i)
  entered_waiting j l w =
      let (s, n) = and_parts (in_line i (entered t j l)) (not (holds i (entered t j l))) w in
      or_out (in_line i l) (eqb j i) _ (sym (join_stands t i j (queue_of l)) ∙ (rw (entered_queue t j l) at s))
      (λ m. inl (rw (m, before l m n))) (λ m. inr (eqb-true j i m))
    where
      before : (l : Line) → in_line i l ≡ true → not (holds i (entered t j l)) ≡ true → not (holds i l) ≡ true
      before (line h b []) m n = absurd (true≢false (sym m))
      before (line h b (x ∷ rest)) m n = rw (entered_holds t i j h b x rest) at n

  module _ (fit : Fits t known procs) where
    -- who is in line once the first task of the head left waited before
    leave_waiting : (h b k u : ℕ) (us : List ℕ) (rest : List Turn) → b ≤ t.budget k → Proper t known procs (turn k u us ∷ rest)
        → EachOnce (turn k u us ∷ rest) → in_line i (leave t b (turn k u us ∷ rest)) ≡ true → waiting i (line h b (turn k u us ∷ rest)) ≡ true
    leave_waiting h b k u us rest le (stands lt a o r) (next (more n _) _) s =
        let there = sound_queue t known procs (sound_leave t known procs fit b k u us rest le (stands lt a o r)) in
        let (own, _) = o.each u (rw (eq-eqb u u refl)) in
        let m = ap (among i) (sym (first_served t b k u (t.processor i) us rest a)) ∙ sym (own_stands t known procs i there) ∙ s in
        by_eq (λ (d : Bool). among i (cond d us (tasks_of (t.processor i) rest)) ≡ true → waiting i (line h b (turn k u us ∷ rest)) ≡ true)
        k (t.processor i)
        (λ e x. rw (ne_eqb u i (λ y. true≢false (sym x ∙ rw (← y) n)), x))
        (λ d x. rw (ne_eqb u i (λ y. d (sym own ∙ ap t.processor y)), own_stands t known procs i r ∙ x, or-true (among i us)))
        m

    pub released_waiting : {l : Line} → Sound t known procs l → EachOnce (queue_of l) → waiting i (released t l) ≡ true → waiting i l ≡ true
    released_waiting is_free n w = w
    released_waiting (is_held {h = h} {b = b} {k = k} {u = u} {us = us} {rest = rest} c pr) n w =
        let (s, _) = and_parts (in_line i (leave t b (turn k u us ∷ rest))) _ w in leave_waiting h b k u us rest c.budgeted pr n s

    pub ticked_waiting : {l : Line} → Sound t known procs l → EachOnce (queue_of l) → waiting i (ticked t l) ≡ true → waiting i l ≡ true
    ticked_waiting is_free n = λ w. w
    ticked_waiting (is_held {h = h} {b = b} {k = k} {u = u} {us = us} {rest = rest} c pr) n =
        by_test (λ l. waiting i l ≡ true → waiting i (line h b (turn k u us ∷ rest)) ≡ true) (eqb (h - 1) 0)
        (λ _ w. let (s, _) = and_parts (in_line i (leave t (b - 1) (turn k u us ∷ rest))) _ w in
        leave_waiting h (b - 1) k u us rest (omega arith) pr n s)
        (λ _ w. w)
