-- What reading a plan gives, as one number.
use Rattle.std.specs.Prelude.{ℕ, ◌+◌, ◌-◌, ◌*◌, cond, List, eqb, ltb}
use Rattle.sizes.specs.Sizes.{most_tasks, most_resources, most_sections}
use Rattle.plan_rules.specs.Rules.{task_of, section_of, length_of}
use Rattle.plan_rules.specs.declared.TaskRow.{TaskRow}
use Rattle.plan_rules.specs.declared.SectionRow.{SectionRow}
use Rattle.plan_rules.specs.declared.Counts.{Counts}
use Rattle.plan_rules.specs.declared.Rows.{Rows}
use Rattle.plan_layout.specs.Layout.{counts_of, rows_of}
use Rattle.plan.specs.Acceptance.{refusal}

-- the index of the last of n rows in an array of so many; 0 where there is none
unfoldable pub last_of : ℕ → ℕ → ℕ
last_of n room = cond (eqb n 0) 0 (cond (ltb room n) 0 (n - 1))

-- the sum of a task row's numbers
abbrev pub task_sum : TaskRow → ℕ
task_sum t = t.processor + t.tag + t.priority + t.period + t.execution

-- the sum of a section row's numbers
abbrev pub section_total : SectionRow → ℕ
section_total s = s.task + s.resource + s.length

-- the sum of the numbers in the last task row, the last name's length and the last section row
unfoldable pub last_rows : Counts → Rows → ℕ
last_rows c rows =
    task_sum (task_of rows.tasks (last_of c.tasks most_tasks))
    + length_of rows.lengths (last_of c.resources most_resources)
    + section_total (section_of rows.sections (last_of c.sections most_sections))

-- the refusal in the low byte; above it, for a plan that is read, the sum of its last rows
unfoldable pub read_number : List ℕ → ℕ
read_number f = cond (eqb (refusal f) 0) (256 * last_rows (counts_of f) (rows_of f)) (refusal f)
