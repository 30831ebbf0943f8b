-- How great the figures of a plan can be: names for bounds, which are no rules of document 01. The greatest hold time is in fact 64,000
-- and the greatest wait time 7 × 64,000; the bounds leave room.
use Rattle.std.specs.Prelude.{ℕ, ◌+◌, ◌*◌}
use Rattle.sizes.specs.Sizes.{most_processors, most_tasks, most_sections, most_section_ticks}

-- what the tasks above a task add to its hold time: a section of each
abbrev pub most_interference : ℕ
most_interference = most_tasks * most_section_ticks

-- a hold time
abbrev pub most_hold : ℕ
most_hold = most_interference + most_section_ticks

-- a budget: any number of 16 bits
abbrev pub most_budget : ℕ
most_budget = 65535

-- a wait time: the budgets of other processors
abbrev pub most_wait : ℕ
most_wait = most_processors * most_budget

-- the hold times of a task's fellows on a resource, and of those ahead of it
abbrev pub most_fellow_holds : ℕ
most_fellow_holds = most_tasks * most_hold

-- twice those by a budget, rounded up
abbrev pub most_turns : ℕ
most_turns = 2 * most_fellow_holds

-- the wait of one section: those and one more wait times, and the fellows' hold times
abbrev pub most_section_wait : ℕ
most_section_wait = (most_turns + 1) * most_wait + most_fellow_holds

-- a waiting side: that of each section
abbrev pub most_side : ℕ
most_side = most_sections * most_section_wait

-- Equation 4, and a term of Equation 5
abbrev pub most_blocking1 : ℕ
most_blocking1 = (most_sections + 1) * most_section_ticks

-- Equation 5
abbrev pub most_blocking2 : ℕ
most_blocking2 = most_tasks * most_blocking1

-- a period, and an execution time: a number of 16 bits
abbrev pub most_period : ℕ
most_period = 65535

-- the demand of one task up to such a time
abbrev pub most_demand_of_one : ℕ
most_demand_of_one = most_period * most_period

-- and of all
abbrev pub most_demand : ℕ
most_demand = most_tasks * most_demand_of_one
