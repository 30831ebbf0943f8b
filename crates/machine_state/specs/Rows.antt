-- The state by value, told by the lines alone: each row by its sentence of document 01, "The machine". A sound state is told so by
-- what it shows.
use Rattle.std.specs.Prelude.{ℕ, zero, suc, cond, List, [], ◌∷◌, ltb, length}
use Rattle.sizes.specs.Sizes.{most_processors, most_tasks, most_resources, absent}
use Rattle.folds.specs.Below.{find_below}
use Rattle.plan_reading.specs.Plan.{Plan}
use Rattle.queue_rules.specs.Rules as Rules
use Rattle.queue_rules.specs.Rules.{Turn, turn, in_line, ahead_in}
use Rattle.machine_rules.specs.Machine.{View, terms}
use Rattle.queue_ranks.specs.Ranks.{list_from}
use Rattle.machine_state.specs.declared.Standing.{Standing}
use Rattle.machine_state.specs.declared.LineRow.{LineRow}
use Rattle.machine_state.specs.declared.State.{State}
use Rattle.machine_state.specs.Shows.{none_in_line, in_line_at}

-- "Each global resource has a queue of processors": the j-th of them, absent where there is none
abbrev pub slot_of : List Turn → ℕ → ℕ
slot_of [] j = absent
slot_of (turn k u us ∷ rest) zero = k
slot_of (turn k u us ∷ rest) (suc j) = slot_of rest j

-- the row of a resource with this line: how many processors are queued, which, and the "hold left" and "budget left"
abbrev pub line_of : Rules.Line → LineRow
line_of (Rules.line h b queue) =
    record { queued = length queue; queue = list_from most_processors 0 (slot_of queue); hold_left = h; budget_left = b }

module _ (p : Plan) (s : View) where
  -- "A task holds or waits for (is in line for) at most one resource": the one that task i is in line for, R where there is none
  unfoldable pub resource_of : ℕ → ℕ
  resource_of i = find_below p.resources (λ q. in_line i (s.lines q))

  -- "Each processor has, for each resource, a queue of tasks, first come first served": the place of task i in its processor's
  -- queue for q is the number of tasks ahead of it there
  abbrev pub place_of : ℕ → ℕ → ℕ
  place_of i q = length (ahead_in (terms p q) i (s.lines q))

  -- the row of task i
  unfoldable pub standing_of : ℕ → Standing
  standing_of i =
      cond (ltb (resource_of i) p.resources) (in_line_at (resource_of i) (place_of i (resource_of i))) none_in_line

  -- the whole state
  abbrev pub state_of : State
  state_of = record { lines = list_from most_resources 0 (λ q. line_of (s.lines q)); tasks = list_from most_tasks 0 standing_of }
