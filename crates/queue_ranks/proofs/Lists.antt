-- Laws of list_from.
use Rattle.queue_ranks.proofs.Ground.{ℕ, zero, suc, ◌+◌, ◌-◌, ◌<◌, ◌≤◌, ◌≡◌, refl, ap, ap₂, ◌∙◌, List, [], ◌∷◌, ◌++◌, arith}
use Rattle.queue_ranks.proofs.Ground.{list_from, on_eq}
use Rattle.folds.proofs.Ground.{length, get_or}

module _ {A : Type 0} where
  -- functions that agree on the numbers of a list give one list
  pub list_same : (n i : ℕ) (f g : ℕ → A) → ((k : ℕ) → i ≤ k → k < i + n → f k ≡ g k) → list_from n i f ≡ list_from n i g
  unfolding list_from
  list_same zero i f g h = refl
  list_same (suc n) i f g h =
      ap₂ (λ (x : A) (l : List A). x ∷ l) (h i (omega arith) (omega arith)) (list_same n (suc i) f g (λ k a b. h k (omega arith) (omega arith)))

  -- the first of a list
  pub list_first : (n i : ℕ) (f : ℕ → A) → 1 ≤ n → list_from n i f ≡ f i ∷ list_from (n - 1) (suc i) f
  unfolding list_from
  list_first n i f a = let e : n ≡ suc (n - 1) = omega arith in ap (λ (m : ℕ). list_from m i f) e

  -- from one number later on
  pub list_shift : (n i : ℕ) (f : ℕ → A) → list_from n (suc i) f ≡ list_from n i (λ k. f (suc k))
  unfolding list_from
  list_shift zero i f = refl
  list_shift (suc n) i f = ap (λ (l : List A). f (suc i) ∷ l) (list_shift n (suc i) f)

  -- the last of a list
  pub list_snoc : (n i k : ℕ) (f : ℕ → A) → k ≡ i + n → list_from (suc n) i f ≡ list_from n i f ++ (f k ∷ [])
  unfolding list_from
  list_snoc zero i k f e = let d : k ≡ i = omega arith in rw d
  list_snoc (suc n) i k f e = ap (λ (l : List A). f i ∷ l) (list_snoc n (suc i) k f (omega arith))

  pub list_length : (n i : ℕ) (f : ℕ → A) → length (list_from n i f) ≡ n
  unfolding list_from
  list_length zero i f = refl
  list_length (suc n) i f = ap suc (list_length n (suc i) f)

  -- the one at k
  pub list_get : (n i j k : ℕ) (f : ℕ → A) (d : A) → j ≡ i + k → k < n → get_or (list_from n i f) k d ≡ f j
  unfolding list_from
  list_get zero i j k f d e l = let bad : ⊥ = omega arith in absurd bad
  list_get (suc n) i j zero f d e l = let same : i ≡ j = omega arith in ap f same
  list_get (suc n) i j (suc k) f d e l = list_get n (suc i) j k f d (omega arith) (omega arith)

-- F makes of each of a list one or none, as h says
module _ {A : Type 0} (F : List A → List A) (h : A → List A) (none : F [] ≡ []) (more : (x : A) (l : List A) → F (x ∷ l) ≡ h x ++ F l) where
  -- one of each
  pub each_stays : (n i : ℕ) (f g : ℕ → A) → ((j : ℕ) → i ≤ j → j < i + n → h (f j) ≡ g j ∷ []) → F (list_from n i f) ≡ list_from n i g
  unfolding list_from
  each_stays zero i f g s = none
  each_stays (suc n) i f g s =
      more (f i) (list_from n (suc i) f)
      ∙ ap₂ ◌++◌ (s i (omega arith) (omega arith)) (each_stays n (suc i) f g (λ j a b. s j (omega arith) (omega arith)))

  -- none of the first, one of each other
  first_goes : (n i : ℕ) (f g : ℕ → A) → h (f i) ≡ [] → ((j : ℕ) → i ≤ j → j < i + n → h (f (suc j)) ≡ g j ∷ [])
      → F (list_from (suc n) i f) ≡ list_from n i g
  unfolding list_from
  first_goes n i f g z s =
      more (f i) (list_from n (suc i) f) ∙ ap₂ ◌++◌ z (ap F (list_shift n i f) ∙ each_stays n i (λ j. f (suc j)) g s)

  -- none of that at x, one of each other: those behind it move up
  pub one_goes : (n i x : ℕ) (f g : ℕ → A) → i ≤ x → x < i + suc n → h (f x) ≡ [] → ((j : ℕ) → i ≤ j → j < x → h (f j) ≡ g j ∷ [])
      → ((j : ℕ) → x ≤ j → j < i + n → h (f (suc j)) ≡ g j ∷ []) → F (list_from (suc n) i f) ≡ list_from n i g
  unfolding list_from
  one_goes zero i x f g a b z before after =
      let e : x ≡ i = omega arith in first_goes zero i f g (rw e at z) (λ j c d. after j (omega arith) d)
  one_goes (suc n) i x f g a b z before after =
      on_eq (F (list_from (suc (suc n)) i f) ≡ list_from (suc n) i g) x i
      (λ e. first_goes (suc n) i f g (rw e at z) (λ j c d. after j (omega arith) d))
      (λ ne. more (f i) (list_from (suc n) (suc i) f) ∙ ap₂ ◌++◌ (before i (omega arith) (omega arith))
      (one_goes n (suc i) x f g (omega arith) (omega arith) z (λ j c d. before j (omega arith) d) (λ j c d. after j c (omega arith))))
