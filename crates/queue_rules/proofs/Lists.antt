-- The list of the tasks below a count that pass a test: who is in it, how many they are, and sums over them.
use Rattle.queue_rules.proofs.Ground.{ℕ, ◌+◌, ◌<◌, Bool, true, cond, true≢false, ◌≡◌, refl, sym, ◌∙◌, List, [], ◌∷◌, ◌++◌, eqb}
use Rattle.queue_rules.proofs.Ground.{length, arith, eqb-true, sum_below, list_below, or_out, among, sum_of}
use Rattle.folds.proofs.Ground.{zero, suc, append-nil}
use Rattle.folds.specs.Below.{count_below}
use Rattle.folds.proofs.Figures.{sum_count}
use Rattle.queue_rules.proofs.Cases.{by_bool, by_test}
use Rattle.queue_rules.proofs.Sound.{among_last}

pub among_below : (n i : ℕ) (f : ℕ → Bool) → among i (list_below n f) ≡ true → (i < n) × (f i ≡ true)
unfolding list_below
among_below zero i f = λ a. absurd (true≢false (sym a))
among_below (suc n) i f =
    let before : among i (list_below n f) ≡ true → (i < suc n) × (f i ≡ true) = λ a. let (l, t) = among_below n i f a in (omega arith, t) in
    by_test (λ l. among i (list_below n f ++ l) ≡ true → (i < suc n) × (f i ≡ true)) (f n)
    (λ t a. or_out (among i (list_below n f)) (eqb n i) _ (rw (among_last i n (list_below n f)) at a) before
    (λ m. let e = eqb-true n i m in (omega arith, rw (← e) t)))
    (λ _ a. before (rw append-nil at a))

sum_append : (g : ℕ → ℕ) (a b : List ℕ) → sum_of g (a ++ b) ≡ sum_of g a + sum_of g b
sum_append g [] b = omega arith
sum_append g (u ∷ a) b = omega (arith, sum_append g a b)

pub list_sum : (g : ℕ → ℕ) (n : ℕ) (f : ℕ → Bool) → sum_of g (list_below n f) ≡ sum_below n (λ k. cond (f k) (g k) 0)
unfolding list_below sum_below
list_sum g zero f = refl
list_sum g (suc n) f =
    let one = by_bool (λ b. sum_of g (cond b (n ∷ []) []) ≡ cond b (g n) 0) (f n) (λ _. omega arith) (λ _. refl) in
    sum_append g (list_below n f) (cond (f n) (n ∷ []) []) ∙ omega (arith, list_sum g n f)

-- a sum of ones is a length
pub sum_ones : (us : List ℕ) → sum_of (λ u. 1) us ≡ length us
sum_ones [] = refl
sum_ones (u ∷ us) = omega (arith, sum_ones us)

pub list_length : (n : ℕ) (f : ℕ → Bool) → length (list_below n f) ≡ count_below n f
list_length n f = sym (sum_ones (list_below n f)) ∙ list_sum (λ u. 1) n f ∙ sum_count n f
