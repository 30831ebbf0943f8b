-- The two greatest of a figure over a range, and what they tell of the greatest of the others; what the table of the two longest tells.
use Rattle.analysis_hold_times.proofs.Ground.{ℕ, zero, suc, ◌+◌, ◌-◌, ◌<◌, ◌≤◌, true, cond, ◌&&◌, ◌≡◌, List, eqb, get_or}
use Rattle.analysis_hold_times.proofs.Ground.{not-suc-le-zero, arith, ne_eqb, Plan, Valid, section_on, global, longest_on}
use Rattle.analysis_hold_times.proofs.Ground.{longest_off, shared_on, Tops}
use Rattle.folds.proofs.Ground.{not, le_antisymm}
use Rattle.folds.specs.Below.{max_below}
use Rattle.folds.proofs.Figures.{max_bound, max_same, max_at}
use Rattle.analysis_equations.proofs.Laws.{longest_high, past_global}
use borrow.Author.Tests as Author
use Rattle.std.proofs.lemmas.Bool.Decides.{nat_tests}
use Rattle.folds.proofs.Ranges.{cond_bound, max_where_bound, max_where_at}
use Rattle.analysis_equations.specs.Sharing.{global_by}
use Rattle.analysis_sections.specs.Inner.{second, Two}

-- ── the two greatest ──

module _ (g : ℕ → ℕ) where
  -- the greatest of the figures below n other than that at q
  abbrev others : ℕ → ℕ → ℕ
  others n q = max_below n (λ x. cond (eqb x q) 0 (g x))

  second_le : (n : ℕ) → second g n ≤ max_below n g
  unfolding max_below
  second_le zero = omega arith
  second_le (suc n) = omega (arith, second_le n)

  -- without one of the range, and without none
  others_past : (n q : ℕ) → n ≤ q → others n q ≡ max_below n g
  others_past n q l = max_same n _ _ (λ x lx. rw (ne_eqb x q (λ e. omega arith)))

  -- a figure that is not the greatest is no more than the second
  not_top : (n q : ℕ) → q < n → (g q ≡ max_below n g → ⊥) → g q ≤ second g n
  unfolding max_below
  not_top zero q l d = absurd (not-suc-le-zero l)
  not_top (suc n) q l d =
      let h = not_top n q in grind (arith, nat_tests)

  -- what the greatest of the others is: the greatest, less what the figure left out has above the second
  others_is : (n q : ℕ) → q < n → others n q ≡ max_below n g - (g q - second g n)
  unfolding max_below
  others_is zero q l = absurd (not-suc-le-zero l)
  others_is (suc n) q l =
      let h = others_is n q in let t = not_top n q in let s = second_le n in let o = others_past n q in grind (arith, nat_tests)

-- ── what the table tells ──

module _ (p : Plan) (v : Valid p) where
  -- the longest section off q, by resources
  off_others : (j q : ℕ) → others (shared_on p j) p.resources q ≡ longest_off p j q
  unfolding longest_off longest_on
  off_others j q =
      le_antisymm
      (max_bound p.resources (longest_off p j q) _ (λ x l. let e = part x in grind (arith, nat_tests)))
      (max_where_bound p.sections _ _ (λ s. (p.section s).length) whole)
    where
      part : (x : ℕ) → global p x ≡ true → (x ≡ q → ⊥) → longest_on p j x ≤ longest_off p j q
      part x e d =
          max_where_bound p.sections (longest_off p j q) (section_on p j x) (λ s. (p.section s).length)
          (λ s l t.
          let own = max_where_at p.sections s (λ y. global_by p j y && not (eqb (p.section y).resource q)) (λ y. (p.section y).length) l in
          grind (arith, nat_tests))

      whole : (s : ℕ) → s < p.sections → (global_by p j s && not (eqb (p.section s).resource q)) ≡ true
          → (p.section s).length ≤ others (shared_on p j) p.resources q
      whole s l t =
          let r : ℕ = (p.section s).resource in
          let low = (v.section_fits s l).resource in
          let longest = max_where_at p.sections s (section_on p j r) (λ y. (p.section y).length) l in
          let at = max_at p.resources r (λ x. cond (eqb x q) 0 (shared_on p j x)) low in
          grind (arith, nat_tests)

  pub shared_high : (j q : ℕ) → shared_on p j q ≤ 1000
  shared_high j q = cond_bound (global p q) (longest_on p j q) 1000 (λ g. longest_high p v j q)

  module _ (t : List ℕ) (j : ℕ) (w : Tops p 64 t) (l : j < 64) where
    two : Two p j p.resources (get_or t j 0) (get_or t (64 + j) 0)
    two = rw (Author.lt-ltb j 64 l) at (w.two j l)

    pub top_high : get_or t j 0 ≤ 1000
    top_high = omega (arith, two.first, max_bound p.resources 1000 (shared_on p j) (λ q lq. shared_high j q))

    -- no section of the task is longer than the first, and what one has above the second tells the longest off its resource
    pub top_own : (q : ℕ) → shared_on p j q ≤ get_or t j 0
    top_own q = let a = max_at p.resources q (shared_on p j) in let n = past_global p v q in let f = two.first in grind (arith)

    pub top_off : (q : ℕ) → get_or t j 0 - (shared_on p j q - get_or t (64 + j) 0) ≡ longest_off p j q
    top_off q =
        let a = two in let o = off_others j q in let n = past_global p v q in
        let is = others_is (shared_on p j) p.resources q in
        let past = others_past (shared_on p j) p.resources q in
        grind (arith)
