-- Document 01, "The machine": "A state is sound when each task in line is so once, in its own processor's queue, for a global
-- resource it declares, each processor with a task in line and no other is queued, just once, the head's first task holds, and
-- 1 ≤ hold left ≤ its hold time, hold left ≤ budget left ≤ the budget."
-- A row of a task names one resource, and its processor's queue for it is meant; so a task cannot stand in two queues, nor in
-- another processor's. What is absent has its one filling: 255, and 0 for the hold left and budget left of a free resource.
use Rattle.std.specs.Prelude.{ℕ, Bool, cond, ◌&&◌, ◌||◌, not, List, eqb, leb, ltb}
use Rattle.sizes.specs.Sizes.{most_processors, most_tasks, most_resources, absent}
use Rattle.folds.specs.Below.{all_below, any_below}
use Rattle.plan_reading.specs.Plan.{Plan}
use Rattle.analysis_equations.specs.Sharing.{processor_of, uses, global}
use Rattle.analysis_equations.specs.HoldTimes.{hold_at, budget}
use Rattle.queue_ranks.specs.Ranks.{task_ranked}
use Rattle.machine_state.specs.declared.Standing.{Standing}
use Rattle.machine_state.specs.declared.LineRow.{LineRow}
use Rattle.machine_state.specs.declared.State.{State}
use Rattle.machine_state.specs.Shows.{standing, line_at, slot, rank, is_idle}

module _ (p : Plan) (ts : List Standing) where
  -- task u is in line for nothing
  abbrev pub idle : ℕ → Bool
  idle u = is_idle (standing ts u)

  -- the rank of task v in the queue in which u stands
  abbrev pub beside : ℕ → ℕ → ℕ
  beside u v = rank p ts (standing ts u).resource (processor_of p u) v

  -- no other task stands in u's place
  abbrev pub alone : ℕ → Bool
  alone u = all_below p.tasks (λ v. eqb v u || not (eqb (beside u v) (beside u u)))

  -- and the place before it, where there is one, is taken
  abbrev pub backed : ℕ → Bool
  backed u = eqb (standing ts u).place 0 || any_below p.tasks (λ v. eqb (beside u v) (standing ts u).place)

  -- "each task in line is so once, in its own processor's queue, for a global resource it declares"
  unfoldable pub task_fits : ℕ → Bool
  task_fits u = idle u || (global p (standing ts u).resource && uses p u (standing ts u).resource && (alone u && backed u))

  -- processor k has a task in line for q
  abbrev pub serves : ℕ → ℕ → Bool
  serves q k = any_below p.tasks (λ u. leb 1 (rank p ts q k u))

  -- slot i of the queue of q: below the count a processor "with a task in line", "just once"; from there on the filling
  unfoldable pub slot_fits : ℕ → LineRow → ℕ → Bool
  slot_fits q l i =
      cond (ltb i l.queued) (serves q (slot l i) && all_below i (λ j. not (eqb (slot l j) (slot l i)))) (eqb (slot l i) absent)

  -- "each processor with a task in line" is queued
  unfoldable pub core_fits : ℕ → LineRow → ℕ → Bool
  core_fits q l k = not (serves q k) || any_below l.queued (λ i. eqb (slot l i) k)

  -- the head's first task
  abbrev pub holder_of : ℕ → LineRow → ℕ
  holder_of q l = task_ranked p.tasks (rank p ts q (slot l 0)) 1

  -- "the head's first task holds, and 1 ≤ hold left ≤ its hold time, hold left ≤ budget left ≤ the budget"
  unfoldable pub clock_fits : ℕ → LineRow → Bool
  clock_fits q l =
      cond (eqb l.queued 0) (eqb l.hold_left 0 && eqb l.budget_left 0)
      (leb 1 l.hold_left && leb l.hold_left (hold_at p (holder_of q l) q)
      && (leb l.hold_left l.budget_left && leb l.budget_left (budget p (slot l 0) q)))

  -- the row of resource q
  unfoldable pub line_fits : ℕ → LineRow → Bool
  line_fits q l =
      leb l.queued most_processors && all_below most_processors (slot_fits q l) && (all_below p.processors (core_fits q l) && clock_fits q l)

-- the state is sound
unfoldable pub sound : Plan → State → Bool
sound p s = all_below most_tasks (task_fits p s.tasks) && all_below most_resources (λ q. line_fits p s.tasks q (line_at s q))
