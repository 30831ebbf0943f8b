-- Users and sums as one task after the other is added, and how great they are.
use Rattle.std.proofs.Common.{ℕ, ◌+◌, ◌*◌, ◌<◌, ◌≤◌, ◌&&◌, not, eqb, ◌≡◌, List, replicate, arith}
use Rattle.std.proofs.lemmas.List.{length-replicate, get_or-replicate}
use Rattle.std.proofs.lemmas.Grind.{common_steps}
use Rattle.folds.specs.Below.{count_below, sum_below}
use Rattle.folds.proofs.Figures.{count_bound}
use Rattle.folds.proofs.Ranges.{cond_bound, sum_where_bound}
use Rattle.sizes.specs.Sizes.{most_resources}
use Rattle.plan_reading.specs.Plan.{Plan, Valid, plan_of}
use Rattle.plan_reading.proofs.Laws.{valid_plan}
use Rattle.analysis_equations.specs.Sharing.{processor_of, global, uses}
use Rattle.analysis_equations.specs.HoldTimes.{hold_time, hold_at}
use Rattle.analysis_equations.specs.Bounds.{most_hold}
use Rattle.analysis_equations.proofs.Laws.{hold_high}
use Rattle.analysis_figures.specs.Figures.{Known}
use Rattle.analysis_totals.specs.Totals.{users_below, holds_below, users_cell, sum_cell, total_count, SumsBelow}
use Rattle.analysis_totals.specs.Inner.{TaskAddable, TaskAdded}
use Rattle.analysis_figures.proofs.Cells.{told}

-- a table of nothing holds the sums of no task
pub sums_none : (p : Plan) (t : List ℕ) → t ≡ replicate total_count 0 → SumsBelow p 0 t
unfolding users_below holds_below count_below sum_below
sums_none p t e =
    rw e
    (record {
      long = length-replicate {A = ℕ} total_count 0;
      users = λ k q lk lq. get_or-replicate {A = ℕ} total_count (users_cell k q) 0 0 (omega arith);
      holds = λ k q lk lq. get_or-replicate {A = ℕ} total_count (sum_cell k q) 0 0 (omega arith);
    })

-- how great they are
module _ (p : Plan) (v : Valid p) where
  hold_most : (j q : ℕ) → hold_at p j q ≤ most_hold
  unfolding hold_at
  hold_most j q = cond_bound (global p q && uses p j q) (hold_time p j q) most_hold (λ _. hold_high p v j q)

  users_few : (n k q : ℕ) → users_below p n k q ≤ n
  unfolding users_below
  users_few n k q = count_bound n (λ j. eqb (processor_of p j) k && not (eqb (hold_at p j q) 0))

  holds_low : (n k q : ℕ) → holds_below p n k q ≤ n * most_hold
  unfolding holds_below
  holds_low n k q = sum_where_bound n most_hold (λ j. eqb (processor_of p j) k) (λ j. hold_at p j q) (λ j l t. hold_most j q)

-- task j, of processor k, once those before it are added
module _ {f figures t : List ℕ} {j k : ℕ}
    (known : Known f figures) (h : SumsBelow (plan_of f) j t) (l : j < (plan_of f).tasks) (e : k ≡ processor_of (plan_of f) j) where
  pub addable : TaskAddable figures t j k
  addable =
      let v = valid_plan f known.plan in
      record {
        figures_long = known.figures.long;
        long = h.long;
        task = grind (arith, told);
        processor = grind (arith, told);
        few = grind (arith, told, users_few (plan_of f) v);
        low = grind (arith, told, holds_low (plan_of f) v);
      }

  pub sums_step : {new : List ℕ} → TaskAdded figures j k most_resources t new → SumsBelow (plan_of f) (j + 1) new
  unfolding users_below holds_below count_below sum_below
  sums_step a =
      record {
        long = grind (arith, common_steps, told);
        users = grind (arith, told);
        holds = grind (arith, told);
      }
