-- What the private functions of this crate give and ask. None of this is a rule of document 01.
use Rattle.std.specs.Prelude.{ℕ, ◌*◌, ◌^◌, ◌≤◌, ◌<◌, Bool, true, List, ◌≡◌, leb, length, get_or}
use Rattle.sizes.specs.Sizes.{most_processors, most_tasks, most_sections}
use Rattle.folds.specs.Below.{all_below}
use Rattle.folds.specs.Bytes.{width, number}
use Rattle.plan_rules.specs.Rules.{counts_ok, unique_ok, sums_ok, tests_code}
use Rattle.plan_rules.specs.declared.Counts.{Counts}
use Rattle.plan_rules.specs.declared.TaskRow.{TaskRow}
use Rattle.plan_layout.specs.Editions.{Edition, edition1, format_of}
use Rattle.plan_layout.specs.Layout.{task_at, start_at, length_at, resource_spare, task_rows, length_rows, section_rows, task_rows_ok, length_rows_ok, section_rows_ok, parts_tests}
use Rattle.plan_layout.specs.declared.ResourceRow.{ResourceRow}
use Rattle.plan_layout.specs.declared.LoadedLengths.{LoadedLengths}

-- the bytes of a task's row
abbrev pub task_width : ℕ
task_width = width (format_of edition1).task

-- of a resource's
abbrev pub resource_width : ℕ
resource_width = width (format_of edition1).resource

-- of a section's
abbrev pub section_width : ℕ
section_width = width (format_of edition1).section

-- 5, then 6, of the part that begins at the task rows: nothing else is asked
unfoldable pub task_code : Edition → ℕ → ℕ → List ℕ → ℕ
task_code e n p part =
    tests_code (record { tasks = task_rows_ok e n p part; unique = unique_ok n (task_rows e n part); names = true; sections = true; sums = true })

-- 9, with the sum of each task's sections in a list
unfoldable pub sums_fit : Edition → ℕ → List ℕ → List ℕ → Bool
sums_fit e n sums tasks = all_below n (λ t. leb (get_or sums t 0) (task_at e tasks t).execution)

-- 8, then 9, of the parts that begin at the task rows and at the section rows
unfoldable pub section_code : Edition → ℕ → ℕ → ℕ → List ℕ → List ℕ → ℕ
section_code e n s r tasks part =
    tests_code (record { tasks = true; unique = true; names = true; sections = section_rows_ok e s n r part; sums = sums_ok n s (task_rows e n tasks) (section_rows e s part) })

-- 7, then 8 and 9
unfoldable pub rest_code : Counts → List ℕ → List ℕ → List ℕ → List ℕ → ℕ
rest_code c tasks resources sections names =
    let t = parts_tests c tasks resources sections names in
    tests_code (record { tasks = true; unique = true; names = t.names; sections = t.sections; sums = t.sums })

-- r is the number that two bytes at `at` make
pub record WordRead (s : List ℕ) (at r : ℕ) : Type 0 where
  pub read : r ≡ number 2 s at
  pub small : r < 2 ^ 16

-- what is read of task row i: a tag is no greater than a row has room for
pub record TaskRead (e : Edition) (part : List ℕ) (i : ℕ) (row : TaskRow) : Type 0 where
  pub read : row ≡ task_at e part i
  pub tag : row.tag ≤ (format_of e).most_tag

-- what is read of r resource rows
pub record LengthsRead (e : Edition) (part : List ℕ) (r : ℕ) (l : LoadedLengths) : Type 0 where
  pub ok : l.ok ≡ length_rows_ok e r part
  pub lengths : l.lengths ≡ length_rows e r part

-- what is read of resource row i
pub record ResourceRead (e : Edition) (part : List ℕ) (i : ℕ) (row : ResourceRow) : Type 0 where
  pub start : row.start ≡ start_at e part i
  pub small : row.start < 2 ^ 16
  pub length : row.length ≡ length_at e part i
  pub spare : row.spare ≡ resource_spare e part i

-- n task rows, of a plan of p processors, lie in their part
pub record TasksFit (n p : ℕ) (part : List ℕ) : Type 0 where
  pub tasks : n ≤ most_tasks
  pub processors : p ≤ most_processors
  pub inside : n * task_width ≤ length part

-- n task rows and s section rows lie in their parts
pub record SectionsFit (n s : ℕ) (rows part : List ℕ) : Type 0 where
  pub tasks : n ≤ most_tasks
  pub sections : s ≤ most_sections
  pub tasks_inside : n * task_width ≤ length rows
  pub sections_inside : s * section_width ≤ length part

-- the rows of a plan of these counts lie in the parts for tasks, resources and sections
pub record PartsFit (c : Counts) (x y z : List ℕ) : Type 0 where
  pub counts : counts_ok c ≡ true
  pub tasks : c.tasks * task_width ≤ length x
  pub resources : c.resources * resource_width ≤ length y
  pub sections : c.sections * section_width ≤ length z
