-- The table of hold times and budgets, processor by processor.
use Rattle.analysis_hold_times.proofs.Ground.{ℕ, ◌+◌, ◌<◌, ◌≤◌, Bool, false, cond, ◌&&◌, ◌≡◌, sym, ◌∙◌, List, ltb, length, get_or}
use Rattle.analysis_hold_times.proofs.Ground.{arith, ne_eqb, Plan, Valid, section_on, uses, longest_on, hold_at, budget}
use Rattle.analysis_hold_times.proofs.Ground.{figure_count, cell, Held, RowSet, ResourceRow}
use Rattle.folds.proofs.Ground.{and-false}
use Rattle.folds.specs.Below.{any_below}
use Rattle.analysis_equations.specs.Sharing.{processor_of, used_on}
use Rattle.std.proofs.lemmas.Bool.Decides.{nat_tests}
use Rattle.folds.proofs.Tests.{any_none}
use Rattle.folds.proofs.Ranges.{max_none}
use Rattle.analysis_equations.specs.HoldTimes.{user_on}
use Rattle.analysis_equations.proofs.Laws.{budget_unused}
use Rattle.analysis_figures.specs.Figures.{Figures}
use Rattle.analysis_sections.specs.Inner.{Sections}

module _ (p : Plan) where
  -- task j is one of a processor below k
  abbrev done : ℕ → ℕ → Bool
  done k j = ltb j p.tasks && ltb (processor_of p j) k

  -- the table once the processors below k are passed
  pub record TableBelow (k : ℕ) (t : List ℕ) : Type 0 where
    pub long : length t ≡ figure_count
    pub at : (j q : ℕ) → j < 64 → q < 16 → get_or t (cell j q) 0 ≡ cond (done k j) (hold_at p j q) (longest_on p j q)
    pub shares : (l q : ℕ) → l < 8 → q < 16 → get_or t (cell (64 + l) q) 0 ≡ cond (ltb l k) (budget p l q) 0

module _ (p : Plan) (v : Valid p) where
  -- past the tasks nothing is used
  past_idle : (j q : ℕ) → p.tasks ≤ j → any_below p.sections (section_on p j q) ≡ false
  past_idle j q l = any_none p.sections (section_on p j q) (λ s ls. rw (ne_eqb (p.section s).task j (λ e. omega (arith, (v.section_fits s ls).task))))

  past_longest : (j q : ℕ) → p.tasks ≤ j → longest_on p j q ≡ 0
  unfolding longest_on
  past_longest j q l = max_none p.sections (section_on p j q) (λ s. (p.section s).length) (past_idle j q l)

  past_tasks : (j q : ℕ) → p.tasks ≤ j → longest_on p j q ≡ hold_at p j q
  unfolding hold_at uses
  past_tasks j q l = past_longest j q l ∙ sym (rw (past_idle j q l, and-false))

  pub table_none : {t : List ℕ} → Sections p t → TableBelow p 0 t
  table_none c = grind (arith, nat_tests, past_longest, v.tasks)

  pub table_step : {k : ℕ} {old next most put : List ℕ} → TableBelow p k old → (ResourceRow (budget p k) most) × Held p k old next
      → RowSet most (64 + k) next put → k < 8 → TableBelow p (k + 1) put
  table_step h r b l = grind (arith, nat_tests, v.tasks)

  -- past the processors nothing is shared
  past_processors : (k q : ℕ) → p.processors ≤ k → 0 ≡ budget p k q
  unfolding used_on
  past_processors k q l =
      sym (budget_unused p k q (any_none p.tasks (user_on p k q)
      (λ i li. rw (ne_eqb (processor_of p i) k (λ e. omega (arith, (v.every_task_fits i li).processor))))))

  pub table_done : (k : ℕ) {t : List ℕ} → k ≡ p.processors → TableBelow p k t → Figures p t
  table_done k {t} e h = grind (arith, nat_tests, past_tasks, past_processors, v.every_task_fits)
