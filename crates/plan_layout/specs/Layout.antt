-- Document 01, "The plan file": where each thing stands in a file, and what the checks of rows look at, in files and in values.
use Rattle.std.specs.Prelude.{ℕ, ◌+◌, ◌*◌, Bool, cond, ◌&&◌, List, [], ◌∷◌, leb, eqb, length, get_or, drop, replicate}
use Rattle.refusals.specs.Numbers.{wrong_edition, wrong_count}
use Rattle.sizes.specs.Sizes.{most_tasks, most_resources, most_sections}
use Rattle.folds.specs.Below.{all_below, sum_below}
use Rattle.folds.specs.Bytes.{width, fields, row_at, placed_below}
use Rattle.plan_rules.specs.Rules.{no_task, no_section, counts_ok, task_ok, tasks_ok, unique_ok, names_ok, section_ok, sections_ok, sums_ok, Tests, tests_code}
use Rattle.plan_rules.specs.declared.TaskRow.{TaskRow}
use Rattle.plan_rules.specs.declared.SectionRow.{SectionRow}
use Rattle.plan_rules.specs.declared.Counts.{Counts}
use Rattle.plan_rules.specs.declared.Rows.{Rows}
use Rattle.plan_layout.specs.Editions.{Edition, format_of, known, edition_of}

-- ── The header and the offsets ──

-- the edition of a plan of these counts
abbrev pub laid : Counts → Edition
laid c = edition_of c.edition

-- the task rows begin behind the header
abbrev pub tasks_at : Counts → ℕ
tasks_at c = width (format_of (laid c)).header

-- the resource rows begin behind the task rows: 16 + 8N
abbrev pub resources_at : Counts → ℕ
resources_at c = tasks_at c + width (format_of (laid c)).task * c.tasks

-- the section rows: that plus 4R
abbrev pub sections_at : Counts → ℕ
sections_at c = resources_at c + width (format_of (laid c)).resource * c.resources

-- the names: that plus 4S
abbrev pub names_at : Counts → ℕ
names_at c = sections_at c + width (format_of (laid c)).section * c.sections

-- the numbers in the header of a file of len bytes: edition, P, N, R, S, the four offsets, the length
abbrev pub header_numbers : Counts → ℕ → List ℕ
header_numbers c len =
    c.edition ∷ c.processors ∷ c.tasks ∷ c.resources ∷ c.sections ∷ tasks_at c ∷ resources_at c ∷ sections_at c ∷ names_at c ∷ len ∷ []

-- the counts in such numbers
abbrev pub counts_in : List ℕ → Counts
counts_in v =
    record { edition = get_or v 0 0; processors = get_or v 1 0; tasks = get_or v 2 0; resources = get_or v 3 0; sections = get_or v 4 0 }

-- the numbers in the header of a file
unfoldable pub header_in : List ℕ → List ℕ
header_in f = fields (format_of (edition_of (get_or f 0 0))).header f 0

-- the counts of a file
unfoldable pub counts_of : List ℕ → Counts
counts_of f = counts_in (header_in f)

-- the length that a file's header says
unfoldable pub length_said : List ℕ → ℕ
length_said f = get_or (header_in f) 9 0

-- 4. The four offsets in the header are those, and the names begin in the file
unfoldable pub offsets_ok : Counts → List ℕ → Bool
offsets_ok c f =
    eqb (get_or (header_in f) 5 0) (tasks_at c)
    && eqb (get_or (header_in f) 6 0) (resources_at c)
    && eqb (get_or (header_in f) 7 0) (sections_at c)
    && eqb (get_or (header_in f) 8 0) (names_at c)
    && leb (names_at c) (length f)

-- ── Rows ──

-- the section in the numbers of a row
abbrev pub section_in : List ℕ → SectionRow
section_in v = record { task = get_or v 0 0; resource = get_or v 1 0; length = get_or v 2 0 }

-- the numbers of a section's row
abbrev pub section_numbers : SectionRow → List ℕ
section_numbers s = s.task ∷ s.resource ∷ s.length ∷ []

-- the numbers of a resource's row: where its name starts within the names, how long it is, a zero
abbrev pub resource_numbers : ℕ → ℕ → List ℕ
resource_numbers start len = start ∷ len ∷ 0 ∷ []

-- of a file of an edition
module _ (e : Edition) where
  -- task row i of the part that begins at the task rows
  unfoldable pub task_at : List ℕ → ℕ → TaskRow
  task_at part i = (format_of e).task_in (row_at (format_of e).task part i)

  -- its spare number
  unfoldable pub task_spare : List ℕ → ℕ → ℕ
  task_spare part i = (format_of e).spare_in (row_at (format_of e).task part i)

  -- the start in resource row i of the part that begins at the resource rows
  unfoldable pub start_at : List ℕ → ℕ → ℕ
  start_at part i = get_or (row_at (format_of e).resource part i) 0 0

  -- the length in it
  unfoldable pub length_at : List ℕ → ℕ → ℕ
  length_at part i = get_or (row_at (format_of e).resource part i) 1 0

  -- its spare number
  unfoldable pub resource_spare : List ℕ → ℕ → ℕ
  resource_spare part i = get_or (row_at (format_of e).resource part i) 2 0

  -- section row i of the part that begins at the section rows
  unfoldable pub section_at : List ℕ → ℕ → SectionRow
  section_at part i = section_in (row_at (format_of e).section part i)

  -- the first n task rows of a part, in the array of 64
  unfoldable pub task_rows : ℕ → List ℕ → List TaskRow
  task_rows n part = placed_below n (task_at part) (replicate most_tasks no_task)

  -- the first r name lengths of a part, in the array of 16
  unfoldable pub length_rows : ℕ → List ℕ → List ℕ
  length_rows r part = placed_below r (length_at part) (replicate most_resources 0)

  -- the first s section rows of a part, in the array of 255
  unfoldable pub section_rows : ℕ → List ℕ → List SectionRow
  section_rows s part = placed_below s (section_at part) (replicate most_sections no_section)

  -- 5. Each task row keeps its rule, and its spare number is 0
  unfoldable pub task_rows_ok : ℕ → ℕ → List ℕ → Bool
  task_rows_ok n p part = all_below n (λ i. task_ok (format_of e).most_tag p (task_at part i) && eqb (task_spare part i) 0)

  -- 7. The first name starts at 0, each next one where the last ended, and each spare number is 0
  unfoldable pub length_rows_ok : ℕ → List ℕ → Bool
  length_rows_ok r part = all_below r (λ i. eqb (start_at part i) (sum_below i (length_at part)) && eqb (resource_spare part i) 0)

  -- 8. Each section row keeps its rule
  unfoldable pub section_rows_ok : ℕ → ℕ → ℕ → List ℕ → Bool
  section_rows_ok s n r part = all_below s (λ i. section_ok n r (section_at part i))

-- ── Checks 5 to 9 ──

-- what they ask of rows in parts of a file, each of which begins at its offset, and of the names
abbrev pub parts_tests : Counts → List ℕ → List ℕ → List ℕ → List ℕ → Tests
parts_tests c tasks resources sections names =
    record {
      tasks = task_rows_ok (laid c) c.tasks c.processors tasks;
      unique = unique_ok c.tasks (task_rows (laid c) c.tasks tasks);
      names = length_rows_ok (laid c) c.resources resources && names_ok c.resources (length_rows (laid c) c.resources resources) names;
      sections = section_rows_ok (laid c) c.sections c.tasks c.resources sections;
      sums = sums_ok c.tasks c.sections (task_rows (laid c) c.tasks tasks) (section_rows (laid c) c.sections sections);
    }

-- the first that the parts fail, 0 for none
unfoldable pub parts_code : Counts → List ℕ → List ℕ → List ℕ → List ℕ → ℕ
parts_code c tasks resources sections names = tests_code (parts_tests c tasks resources sections names)

-- the same of rows that stand in a file at their offsets: each group is the part of the file that begins at its offset
abbrev pub file_code : Counts → List ℕ → List ℕ → ℕ
file_code c f names = parts_code c (drop (tasks_at c) f) (drop (resources_at c) f) (drop (sections_at c) f) names

-- what they ask of rows and names by value
abbrev pub values_tests : Counts → Rows → List ℕ → Tests
values_tests c rows names =
    record {
      tasks = tasks_ok c.tasks (format_of (laid c)).most_tag c.processors rows.tasks;
      unique = unique_ok c.tasks rows.tasks;
      names = names_ok c.resources rows.lengths names;
      sections = sections_ok c.sections c.tasks c.resources rows.sections;
      sums = sums_ok c.tasks c.sections rows.tasks rows.sections;
    }

-- the first of 2, 3 and 5 to 9 that values break, 0 for none: the edition comes first, and counts beyond their range before any row
unfoldable pub values_code : Counts → Rows → List ℕ → ℕ
values_code c rows names =
    cond (known c.edition) (cond (counts_ok c) (tests_code (values_tests c rows names)) wrong_count) wrong_edition

-- ── What a file holds ──

-- the edition of a file
abbrev pub edition_in : List ℕ → Edition
edition_in f = laid (counts_of f)

-- a file's task rows
abbrev pub task_rows_of : List ℕ → List TaskRow
task_rows_of f = task_rows (edition_in f) (counts_of f).tasks (drop (tasks_at (counts_of f)) f)

-- a file's name lengths
abbrev pub lengths_of : List ℕ → List ℕ
lengths_of f = length_rows (edition_in f) (counts_of f).resources (drop (resources_at (counts_of f)) f)

-- a file's section rows
abbrev pub sections_of : List ℕ → List SectionRow
sections_of f = section_rows (edition_in f) (counts_of f).sections (drop (sections_at (counts_of f)) f)

-- all rows of a file
abbrev pub rows_of : List ℕ → Rows
rows_of f = record { tasks = task_rows_of f; lengths = lengths_of f; sections = sections_of f }

-- a file's names: its last part
abbrev pub names_of : List ℕ → List ℕ
names_of f = drop (names_at (counts_of f)) f
