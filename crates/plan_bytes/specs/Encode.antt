-- Document 01, "The plan file": a plan's values as the bytes of its file.
use Rattle.std.specs.Prelude.{ℕ, ◌+◌, List, ◌++◌, length}
use Rattle.folds.specs.Bytes.{row_bytes, bytes_below}
use Rattle.plan_rules.specs.Rules.{task_of, section_of, length_of, start_of}
use Rattle.plan_rules.specs.declared.TaskRow.{TaskRow}
use Rattle.plan_rules.specs.declared.SectionRow.{SectionRow}
use Rattle.plan_rules.specs.declared.Counts.{Counts}
use Rattle.plan_rules.specs.declared.Rows.{Rows}
use Rattle.plan_layout.specs.Editions.{Edition, format_of}
use Rattle.plan_layout.specs.Layout.{laid, names_at, header_numbers, resource_numbers, section_numbers}

-- the header's bytes
unfoldable pub header_bytes : Counts → ℕ → List ℕ
header_bytes c len = row_bytes (format_of (laid c)).header (header_numbers c len)

-- in a file of an edition
module _ (e : Edition) where
  -- the bytes of task i's row
  unfoldable pub task_bytes : List TaskRow → ℕ → List ℕ
  task_bytes tasks i = row_bytes (format_of e).task ((format_of e).task_numbers (task_of tasks i))

  -- the bytes of resource i's row
  unfoldable pub resource_bytes : List ℕ → ℕ → List ℕ
  resource_bytes lengths i = row_bytes (format_of e).resource (resource_numbers (start_of lengths i) (length_of lengths i))

  -- the bytes of section i's row
  unfoldable pub section_bytes : List SectionRow → ℕ → List ℕ
  section_bytes sections i = row_bytes (format_of e).section (section_numbers (section_of sections i))

-- the length of the file
abbrev pub file_length : Counts → List ℕ → ℕ
file_length c names = names_at c + length names

-- the file: header, task rows, resource rows, section rows, names
unfoldable pub file_of : Counts → Rows → List ℕ → List ℕ
file_of c rows names =
    (((header_bytes c (file_length c names) ++ bytes_below c.tasks (task_bytes (laid c) rows.tasks))
    ++ bytes_below c.resources (resource_bytes (laid c) rows.lengths))
    ++ bytes_below c.sections (section_bytes (laid c) rows.sections))
    ++ names
