-- A loop over the tasks of a plan, by their terms.
use Rattle.analysis_terms.proofs.Ground.{ℕ, ◌≤◌, ◌≡◌, List, length, arith, most_tasks, plan_of, valid_plan, term_count}
use Rattle.analysis_terms.specs.Terms.{TaskTerms}

-- for task i, a loop over the n tasks of the plan: what holds all along
pub record Over (f t : List ℕ) (i n : ℕ) : Type 0 where
  pub asked : TaskTerms f t i
  pub all : n ≡ (plan_of f).tasks
  pub few : n ≤ most_tasks
  pub long : length t ≡ term_count

pub over : {f t : List ℕ} {i n : ℕ} → TaskTerms f t i → n ≡ (plan_of f).tasks → Over f t i n
over {f} h e = record { asked = h; all = e; few = omega (arith, (valid_plan f h.plan).tasks); long = h.terms.long }
