-- Hold times, budgets and wait times: Equations 1, 2, 3 and 15, and Rule 4. "All "max" over nothing are 0": so `max_below` has it.
use Rattle.std.specs.Prelude.{ℕ, ◌+◌, Bool, cond, ◌&&◌, not, eqb}
use Rattle.folds.specs.Below.{max_below, sum_below}
use Rattle.plan_reading.specs.Plan.{Plan}
use Rattle.analysis_equations.specs.Sharing.{processor_of, section_on, global_by, uses, global, higher}

module _ (p : Plan) where
  -- "the longest of its sections on q": the greatest |Cs(i,q,s)|; 0 where there is none
  unfoldable pub longest_on : ℕ → ℕ → ℕ
  longest_on i q = max_below p.sections (λ s. cond (section_on p i q s) (p.section s).length 0)

  -- "the longest section of j on a global resource other than q"
  unfoldable pub longest_off : ℕ → ℕ → ℕ
  longest_off j q = max_below p.sections (λ s. cond (global_by p j s && not (eqb (p.section s).resource q)) (p.section s).length 0)

  -- H(i,q), above Equation 3: "for each higher-priority task j of k" that longest section
  unfoldable pub interference : ℕ → ℕ → ℕ
  interference i q = sum_below p.tasks (λ j. cond (higher p i j) (longest_off j q) 0)

  -- Equation 3: the hold time of global q by task i, "for a task with a section on q"
  unfoldable pub hold_time : ℕ → ℕ → ℕ
  hold_time i q = longest_on i q + interference i q

  -- the hold time of a user of a global resource, 0 for anyone else
  unfoldable pub hold_at : ℕ → ℕ → ℕ
  hold_at i q = cond (global p q && uses p i q) (hold_time i q) 0

  -- i is a task of processor k that uses q (the paper's τ(R_q, P_k))
  abbrev pub user_on : ℕ → ℕ → ℕ → Bool
  user_on k q i = eqb (processor_of p i) k && uses p i q

  -- j is a fellow of task i on q: "k's other tasks using q"
  abbrev pub fellow : ℕ → ℕ → ℕ → Bool
  fellow i q j = user_on (processor_of p i) q j && not (eqb j i)

  -- Equation 1 and Rule 4: "the greatest hold time of its tasks on q; 0 if none uses q or q is local"
  unfoldable pub budget : ℕ → ℕ → ℕ
  budget k q = cond (global p q) (max_below p.tasks (λ i. cond (user_on k q i) (hold_time i q) 0)) 0

  -- Equations 2 and 15: "the sum of the budgets of all other processors on q"
  unfoldable pub wait_time : ℕ → ℕ → ℕ
  wait_time k q = sum_below p.processors (λ l. cond (eqb l k) 0 (budget l q))
