-- Rows of a figure of each resource.
use Rattle.analysis_sections.proofs.Ground.{ℕ, ◌+◌, ◌<◌, ◌≤◌, Bool, true, false, ◌≡◌, refl, ◌∙◌, List, ltb, replicate}
use Rattle.analysis_sections.proofs.Ground.{length-replicate, get_or-replicate, arith, ltb-true, ltb-false, lt-ltb, same_test}
use Rattle.analysis_sections.proofs.Ground.{ResourceRow}

-- the tests of a number below k + 1 and below k agree for all but k
pub ltb_more : (x k : ℕ) → (x ≡ k → ⊥) → ltb x (k + 1) ≡ ltb x k
ltb_more x k d =
    same_test (ltb x (k + 1)) (ltb x k)
    (λ a. lt-ltb x k (omega (arith, ltb-true x (k + 1) a, d)))
    (λ a. lt-ltb x (k + 1) (omega (arith, ltb-true x k a)))

-- by whether m is below n
pub by_lt : (P : Bool → Type 0) (m n : ℕ) → (m < n → P true) → (n ≤ m → P false) → P (ltb m n)
by_lt P m n f g = go (ltb m n) refl
  where
    go : (b : Bool) → ltb m n ≡ b → P b
    go true e = f (ltb-true m n e)
    go false e = g (ltb-false m n e)

-- a row of zeros, and two figures that agree
pub row_zeros : (f : ℕ → ℕ) → ((q : ℕ) → q < 16 → f q ≡ 0) → ResourceRow f (replicate 16 0)
row_zeros f h = record { long = length-replicate {A = ℕ} 16 0; at = λ q l. rw (h q l) (get_or-replicate {A = ℕ} 16 q 0 0 l) }

pub row_same : (f g : ℕ → ℕ) {t : List ℕ} → ResourceRow f t → ((q : ℕ) → q < 16 → f q ≡ g q) → ResourceRow g t
row_same f g r h = record { long = r.long; at = λ q l. r.at q l ∙ h q l }
