-- Equation 5 over the table of terms.
use Rattle.analysis_requirements.proofs.Ground.{ℕ, ◌+◌, ◌*◌, ◌<◌, ◌≤◌, min, Bool, true, false, cond, ◌≡◌, ap, ◌∙◌, List}
use Rattle.analysis_requirements.proofs.Ground.{get_or, mul-le-mul, arith, most_tasks, most_sections}
use Rattle.analysis_requirements.proofs.Ground.{most_section_ticks, Plan, plan_of, Valid, valid_plan, lower, global_count}
use Rattle.analysis_requirements.proofs.Ground.{longest_global, most_blocking1, longest_cell}
use Rattle.analysis_requirements.proofs.Ground.{precedence_cell, count_cell, under, TaskTerms, sum_step, sum_below}
use mir.Val.{bool_byte}
use Rattle.analysis_equations.proofs.Laws.{count_high, global_high}
use Rattle.analysis_requirements.proofs.Precedences.{table_under}

-- a term of Equation 5
abbrev pub term : Plan → ℕ → ℕ → ℕ
term p i j = cond (lower p i j) (min (global_count p i + 1) (global_count p j) * longest_global p j) 0

module _ {f t : List ℕ} {i : ℕ} (h : TaskTerms f t i) where
  abbrev plan : Plan
  plan = plan_of f

  valid : Valid plan
  valid = valid_plan f h.plan

  -- a turn of Equation 5's sum, for task j: what it adds, and that the sum stays small
  module _ (j : ℕ) (lj : j < plan.tasks) {s b x : ℕ} (es : s ≡ min (get_or t (count_cell i) 0 + 1) (get_or t (count_cell j) 0))
      (eb : b ≡ bool_byte (under (get_or t (precedence_cell i) 0) (get_or t (precedence_cell j) 0))) (ex : x ≡ get_or t (longest_cell j) 0) where
    low : j < most_tasks
    low = omega (arith, valid.tasks)

    shorter : s ≡ min (global_count plan i + 1) (global_count plan j)
    shorter = es ∙ rw (h.terms.count i h.low, h.terms.count j low)

    is_lower : b ≡ bool_byte (lower plan i j)
    is_lower = eb ∙ ap bool_byte (table_under plan valid t h.terms i j h.task lj)

    longest : x ≡ longest_global plan j
    longest = ex ∙ h.terms.longest j low

    pub blocking2_step : {sum : ℕ} → sum ≡ sum_below j (term plan i) → sum + s * (b * x) ≡ sum_below (j + 1) (term plan i)
    blocking2_step e = sum_step j _ e (rw (shorter, is_lower, longest) (go (lower plan i j)))
      where
        go : (t : Bool) → min (global_count plan i + 1) (global_count plan j) * (bool_byte t * longest_global plan j)
            ≡ cond t (min (global_count plan i + 1) (global_count plan j) * longest_global plan j) 0
        go true = grind arith
        go false = omega arith

    pub blocking2_low : {sum : ℕ} → sum ≤ j * most_blocking1 → sum + s * (b * x) ≤ (j + 1) * most_blocking1
    blocking2_low l =
        let few : s ≤ most_sections + 1 = omega (arith, shorter, count_high plan valid i) in
        let short : b * x ≤ most_section_ticks = rw (is_lower, longest) (one (lower plan i j)) in
        omega (arith, mul-le-mul few short)
      where
        one : (t : Bool) → bool_byte t * longest_global plan j ≤ most_section_ticks
        one true = omega (arith, global_high plan valid j)
        one false = omega arith
