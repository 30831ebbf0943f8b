-- The state by value, and what it shows: for each resource a line by the rules.
use Rattle.std.specs.Prelude.{ℕ, ◌+◌, ◌-◌, Bool, cond, ◌&&◌, List, [], eqb, get_or, replicate}
use Rattle.sizes.specs.Sizes.{most_processors, most_tasks, most_resources, absent}
use Rattle.plan_reading.specs.Plan.{Plan}
use Rattle.analysis_equations.specs.Sharing.{processor_of}
use Rattle.queue_rules.specs.Rules as Rules
use Rattle.machine_rules.specs.Machine.{View}
use Rattle.queue_ranks.specs.Ranks.{queue_from}
use Rattle.machine_state.specs.declared.Standing.{Standing}
use Rattle.machine_state.specs.declared.LineRow.{LineRow}
use Rattle.machine_state.specs.declared.State.{State}

-- what stands past the end of the tasks' rows
abbrev pub no_standing : Standing
no_standing = record { resource = 0; place = 0 }

-- and of the resources'
abbrev pub no_line : LineRow
no_line = record { queued = 0; queue = []; hold_left = 0; budget_left = 0 }

-- the row of task u
abbrev pub standing : List Standing → ℕ → Standing
standing ts u = get_or ts u no_standing

-- the row of resource q
abbrev pub line_at : State → ℕ → LineRow
line_at s q = get_or s.lines q no_line

-- the processor in slot i of a queue
abbrev pub slot : LineRow → ℕ → ℕ
slot l i = get_or l.queue i 0

-- the rank of task u in the queue of processor k for resource q: its place and 1, or 0 where it is not in it
unfoldable pub rank : Plan → List Standing → ℕ → ℕ → ℕ → ℕ
rank p ts q k u = cond (eqb (processor_of p u) k && eqb (standing ts u).resource q) ((standing ts u).place + 1) 0

-- the line that a row shows, with the tasks' rows
abbrev pub shown_line : Plan → List Standing → ℕ → LineRow → Rules.Line
shown_line p ts q l =
    Rules.line l.hold_left l.budget_left (queue_from p.tasks (rank p ts q) l.queued (slot l))

-- what the state shows
unfoldable pub shows : Plan → State → View
shows p s = record { lines = λ q. shown_line p s.tasks q (line_at s q) }

-- the filling of the row of a task that is in line for nothing
abbrev pub none_in_line : Standing
none_in_line = record { resource = absent; place = absent }

-- a row with that filling
abbrev pub is_idle : Standing → Bool
is_idle s = eqb s.resource absent && eqb s.place absent

-- the row of a task in line for q, in this place of its processor's queue
abbrev pub in_line_at : ℕ → ℕ → Standing
in_line_at q place = record { resource = q; place = place }

-- and once the first of its queue left, who was another
abbrev pub moved_up : Standing → Standing
moved_up s = record { resource = s.resource; place = s.place - 1 }

-- the filling of the row of a free resource
abbrev pub free_line : LineRow
free_line = record { queued = 0; queue = replicate most_processors absent; hold_left = 0; budget_left = 0 }

-- "A fresh state has nobody in line."
abbrev pub fresh_state : State
fresh_state = record { lines = replicate most_resources free_line; tasks = replicate most_tasks none_in_line }
