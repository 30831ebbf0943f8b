-- The table of terms as it is filled: none yet, and a turn of the loop over the sections.
use Rattle.analysis_terms.proofs.Ground.{ℕ, ◌+◌, ◌%◌, ◌<◌, ◌≤◌, max, Bool, cond, ◌≡◌, List, eqb, get_or, set, replicate}
use Rattle.analysis_terms.proofs.Ground.{length-replicate, get_or-replicate, arith, max_below, count_below, count_bound}
use Rattle.analysis_terms.proofs.Ground.{most_resources, most_sections, SectionRow, Plan, Valid, global_by, longest_cell}
use Rattle.analysis_terms.proofs.Ground.{precedence_cell, count_cell, ceiling_cell, shared_cell, term_count, TermsBelow}
use Rattle.std.proofs.lemmas.Grind.{common_steps}
use Rattle.std.proofs.lemmas.Bool.Decides.{nat_tests}
use Rattle.folds.proofs.Ground.{add-one}
use Rattle.folds.proofs.Figures.{max_more}
use Rattle.analysis_terms.proofs.Precedences.{precedence_priority}
use Rattle.analysis_equations.proofs.Rows.{Names, names}

pub terms_none : (p : Plan) (m : ℕ) {t : List ℕ} → m ≡ term_count → t ≡ replicate m 0 → TermsBelow p 0 0 0 0 t
unfolding max_below count_below
terms_none p m l e = rw e (grind (arith, get_or-replicate, length-replicate))

count_more : (n : ℕ) (f : ℕ → Bool) → count_below (n + 1) f ≡ count_below n f + cond (f n) 1 0
unfolding count_below
count_more n f = rw add-one

-- a turn of the loop over the sections: section s is of task j, on q
module _ {p : Plan} (v : Valid p) {s j q : ℕ} {row : SectionRow} (told : row ≡ p.section s) (task : j ≡ row.task) (resource : q ≡ row.resource)
    (below : s < p.sections) {t : List ℕ} (h : TermsBelow p most_resources p.tasks s 0 t) where
  there : Names p j q
  there = names v (record { below = below; told = told; task = task; resource = resource })

  pub count_low : get_or t (count_cell j) 0 + get_or t (shared_cell q) 0 ≤ most_sections
  count_low =
      let n = there in
      let b = count_bound s (global_by p j) in
      grind (arith, v.sections)

  pub terms_section : {y a c : ℕ} → y ≡ cond (eqb (get_or t (shared_cell q) 0) 1) row.length 0 → a ≡ max (get_or t (longest_cell j) 0) y
      → c ≡ max (get_or t (ceiling_cell q) 0) (get_or t (precedence_cell j) 0 % 256)
      → TermsBelow p most_resources p.tasks (s + 1) 0
      (set (set (set t (longest_cell j) a) (count_cell j) (get_or t (count_cell j) 0 + get_or t (shared_cell q) 0)) (ceiling_cell q) c)
  terms_section ey ea ec =
      let n = there in
      let low = precedence_priority p v j n.task in
      grind (arith, common_steps, nat_tests, max_more, count_more)
