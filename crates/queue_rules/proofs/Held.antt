-- A line that one task holds since it came, while tasks of one other processor wait: who comes to it next waits behind them, for the
-- first of them made its processor the second in the queue, and nobody has left.
use Rattle.queue_rules.proofs.Ground.{ℕ, false, ◌≡◌, refl, List, [], ◌∷◌, ◌++◌, eq-eqb, ne_eqb, Terms, turn, Line, line}
use Rattle.queue_rules.proofs.Ground.{queue_of, among, in_line, tasks_of, entered, turn_with}

-- task j holds, and these of processor k wait
abbrev pub held_by : Terms → ℕ → ℕ → List ℕ → Line
held_by t j k us = line (t.hold j) (t.budget (t.processor j)) (turn (t.processor j) j [] ∷ turn_with k us)

module _ (t : Terms) (j k : ℕ) where
  -- nobody else is in line
  pub held_without : (i : ℕ) (us : List ℕ) → (j ≡ i → ⊥) → among i us ≡ false → in_line i (held_by t j k us) ≡ false
  held_without i [] d a = rw (ne_eqb j i d)
  held_without i (u ∷ us) d a = rw (ne_eqb j i d, a)

  module _ (other : t.processor j ≡ k → ⊥) where
    pub held_tasks : (us : List ℕ) → tasks_of k (queue_of (held_by t j k us)) ≡ us
    held_tasks [] = rw (ne_eqb (t.processor j) k other)
    held_tasks (u ∷ us) = rw (ne_eqb (t.processor j) k other, eq-eqb k k refl)

    -- one more of them comes
    pub held_entered : (i : ℕ) (us : List ℕ) → t.processor i ≡ k → entered t i (held_by t j k us) ≡ held_by t j k (us ++ (i ∷ []))
    held_entered i [] e = rw (e, ne_eqb (t.processor j) k other)
    held_entered i (u ∷ us) e = rw (e, ne_eqb (t.processor j) k other, eq-eqb k k refl)
