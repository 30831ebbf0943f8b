-- Blocking: Equations 4, 5, 6 and 7, for a task i of processor k; Equation 6 as document 02 §2 has it.
use Rattle.std.specs.Prelude.{ℕ, ◌+◌, ◌*◌, ◌-◌, ◌/◌, min, Bool, cond, ◌&&◌, not, leb}
use Rattle.folds.specs.Below.{max_below, sum_below, count_below}
use Rattle.plan_reading.specs.Plan.{Plan}
use Rattle.analysis_equations.specs.Sharing.{processor_of, priority_of, section_on, global_by, uses, global, lower}
use Rattle.analysis_equations.specs.HoldTimes.{hold_time, fellow, budget, wait_time}

-- a / b rounded up, for b ≥ 1
abbrev pub ceil_div : ℕ → ℕ → ℕ
ceil_div a b = (a + (b - 1)) / b

module _ (p : Plan) where
  -- n: "counts i's sections on global resources"
  unfoldable pub global_count : ℕ → ℕ
  global_count i = count_below p.sections (global_by p i)

  -- n(i,q): i's sections on q
  unfoldable pub count_on : ℕ → ℕ → ℕ
  count_on i q = count_below p.sections (section_on p i q)

  -- below Equation 4, ceil(R_q): the highest priority among the users of q
  unfoldable pub ceiling : ℕ → ℕ
  ceiling q = max_below p.tasks (λ i. cond (uses p i q) (priority_of p i) 0)

  -- section s is "of a lower-priority task of k, on a local resource whose highest-priority user is i or higher"
  abbrev pub blocks : ℕ → ℕ → Bool
  blocks i s =
      lower p i (p.section s).task
      && (not (global p (p.section s).resource) && leb (priority_of p i) (ceiling (p.section s).resource))

  -- the longest of those
  unfoldable pub longest_local : ℕ → ℕ
  longest_local i = max_below p.sections (λ s. cond (blocks i s) (p.section s).length 0)

  -- Equation 4: B1
  unfoldable pub blocking1 : ℕ → ℕ
  blocking1 i = (global_count i + 1) * longest_local i

  -- "j's longest global section"
  unfoldable pub longest_global : ℕ → ℕ
  longest_global j = max_below p.sections (λ s. cond (global_by p j s) (p.section s).length 0)

  -- Equation 5: B2, "the sum, over lower-priority j of k, of the smaller of n + 1 and j's count of global sections, × j's
  -- longest global section"
  unfoldable pub blocking2 : ℕ → ℕ
  blocking2 i = sum_below p.tasks (λ j. cond (lower p i j) (min (global_count i + 1) (global_count j) * longest_global j) 0)

  -- "sum of the hold times on q of k's other tasks using q"
  unfoldable pub fellow_holds : ℕ → ℕ → ℕ
  fellow_holds i q = sum_below p.tasks (λ j. cond (fellow p i q j) (hold_time p j q) 0)

  -- Document 02 §2, one section of i on q: "per section, the factor before the wait time is ceil(..) + 1, and the sum of the fellow tasks'
  -- hold times is added to the product". Equation 6 as printed has ceil(2 × that sum, divided by k's budget on q) × wait time alone: it
  -- leaves out the first wait, and the time for which fellows hold
  unfoldable pub section_wait : ℕ → ℕ → ℕ
  section_wait i q =
      (ceil_div (2 * fellow_holds i q) (budget p (processor_of p i) q) + 1) * wait_time p (processor_of p i) q + fellow_holds i q

  -- Equation 6 with that: i's sections on q, each with its wait
  unfoldable pub waiting_on : ℕ → ℕ → ℕ
  waiting_on i q = count_on i q * section_wait i q

  -- Equation 7: the waiting side, "the sum, over each global q that i uses"
  unfoldable pub waiting_side : ℕ → ℕ
  waiting_side i = sum_below p.resources (λ q. cond (global p q && uses p i q) (waiting_on i q) 0)
