-- What blocks each task, gathered section by section: a turn of the loop over the sections.
use Rattle.analysis_terms.proofs.Ground.{ℕ, ◌+◌, ◌*◌, ◌/◌, ◌<◌, ◌≤◌, ◌&&◌, ◌≡◌, List, eqb, get_or, arith, most_tasks}
use Rattle.analysis_terms.proofs.Ground.{most_resources, SectionRow, Plan, Valid, priority_of, processor_of, lower, ceiling}
use Rattle.analysis_terms.proofs.Ground.{precedence_cell, ceiling_cell, shared_cell, precedence_of, TermsBelow, TasksRaised}
use Rattle.analysis_terms.proofs.Ground.{between}
use lib.Dec.{leb}
use Rattle.folds.proofs.Ranges.{max_where_bound}
use Rattle.folds.proofs.Figures.{max_more}
use Rattle.std.proofs.lemmas.Grind.{common_steps}
use Rattle.std.proofs.lemmas.Bool.Decides.{nat_tests}
use Rattle.analysis_equations.proofs.Laws.{ceiling_section}
use Rattle.analysis_equations.proofs.Rows.{Names, names}

module _ {p : Plan} (v : Valid p) where
  pub ceiling_high : (q : ℕ) → ceiling p q ≤ 255
  ceiling_high q =
      rw (ceiling_section p v q) (max_where_bound p.sections 255 (λ s. eqb (p.section s).resource q) (λ s. priority_of p (p.section s).task)
      (λ s l t. omega (arith, (v.every_task_fits (p.section s).task (v.section_fits s l).task).high)))

  -- a precedence above that of task j, and at most that of a priority c on its processor
  above_lower : (i j c : ℕ) → i < p.tasks → j < p.tasks → c ≤ 255
      → between (precedence_of p j) (precedence_of p j / 256 * 256 + c) (precedence_of p i) ≡ (lower p i j && leb (priority_of p i) c)
  above_lower i j c li lj lc =
      let mine = (v.every_task_fits i li).high in
      let theirs = (v.every_task_fits j lj).high in
      let top : precedence_of p j / 256 * 256 ≡ processor_of p j * 256 = omega (arith, theirs) in
      grind (arith, nat_tests)

  module _ {s j q : ℕ} {row : SectionRow} (told : row ≡ p.section s) (task : j ≡ row.task) (resource : q ≡ row.resource) (below : s < p.sections)
      {t : List ℕ} (h : TermsBelow p most_resources p.tasks p.sections s t) where
    pub there : Names p j q
    there = names v (record { below = below; told = told; task = task; resource = resource })

    pub top_low : get_or t (precedence_cell j) 0 / 256 * 256 + get_or t (ceiling_cell q) 0 < 65536
    top_low =
        let n = there in
        let k = v.every_task_fits j n.task in
        omega (arith, h.precedence j n.task n.low, h.ceiling q n.resource, ceiling_section p v q, ceiling_high q, v.processors)

    -- a section on a local resource
    pub blocked_more : {u : List ℕ} → get_or t (shared_cell q) 0 ≡ 0
        → TasksRaised (get_or t (precedence_cell j) 0) (get_or t (precedence_cell j) 0 / 256 * 256 + get_or t (ceiling_cell q) 0) row.length most_tasks t u
        → TermsBelow p most_resources p.tasks p.sections (s + 1) u
    blocked_more z r =
        let n = there in
        let c = ceiling_section p v q in
        grind (arith, common_steps, nat_tests, max_more, above_lower, ceiling_high)

    -- a section on a global one
    pub blocked_same : (get_or t (shared_cell q) 0 ≡ 0 → ⊥) → TermsBelow p most_resources p.tasks p.sections (s + 1) t
    blocked_same d = let n = there in grind (arith, common_steps, nat_tests, max_more)
