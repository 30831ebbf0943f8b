-- Laws of the writer: the lengths of the parts that are put, and the file of them.
use Rattle.plan_bytes.proofs.Ground.{ℕ, ◌<◌, ◌≤◌, ◌≡◌, List, ◌++◌, length, drop, length_of, edition1, tasks_at, task_width}
use Rattle.plan_bytes.proofs.Ground.{resource_width, section_width, header_bytes, task_bytes, resource_bytes, section_bytes}
use Rattle.folds.proofs.Ground.{true, leb, leb-true}
use Rattle.folds.specs.Bytes.{bytes_below}
use Rattle.folds.proofs.Tests.{all_at}
use Rattle.folds.proofs.RowLaws.{row_length}
use Rattle.plan_rules.specs.Rules.{task_of, section_of, start_of, tags_ok}
use Rattle.plan_rules.specs.declared.TaskRow.{TaskRow}
use Rattle.plan_rules.specs.declared.SectionRow.{SectionRow}
use Rattle.plan_rules.specs.declared.Counts.{Counts}
use Rattle.plan_rules.specs.declared.Rows.{Rows}
use Rattle.plan_layout.specs.Editions.{format_of}
use Rattle.plan_layout.specs.Layout.{laid, header_numbers, resource_numbers, section_numbers}
use Rattle.plan_bytes.specs.Encode.{file_length, file_of}

-- a header is as long as its edition says
pub header_length_lem : (c : Counts) (len : ℕ) → length (header_bytes c len) ≡ tasks_at c
unfolding header_bytes
header_length_lem c len = row_length (format_of (laid c)).header (header_numbers c len)

-- how long the rows are
pub task_length : (tasks : List TaskRow) (i : ℕ) → length (task_bytes edition1 tasks i) ≡ task_width
unfolding task_bytes
task_length tasks i = row_length (format_of edition1).task ((format_of edition1).task_numbers (task_of tasks i))

pub resource_length : (lengths : List ℕ) (i : ℕ) → length (resource_bytes edition1 lengths i) ≡ resource_width
unfolding resource_bytes
resource_length lengths i = row_length (format_of edition1).resource (resource_numbers (start_of lengths i) (length_of lengths i))

pub section_length : (sections : List SectionRow) (i : ℕ) → length (section_bytes edition1 sections i) ≡ section_width
unfolding section_bytes
section_length sections i = row_length (format_of edition1).section (section_numbers (section_of sections i))

-- the parts of a file one after the other, by the numbers that were worked out
pub file_same : {n r end : ℕ} (c : Counts) (rows : Rows) (names buf : List ℕ) → n ≡ c.tasks → r ≡ c.resources → end ≡ file_length c names
    → ((((header_bytes c end ++ bytes_below n (task_bytes (laid c) rows.tasks))
    ++ bytes_below r (resource_bytes (laid c) rows.lengths))
    ++ bytes_below c.sections (section_bytes (laid c) rows.sections))
    ++ names) ++ drop end buf
    ≡ file_of c rows names ++ drop (file_length c names) buf
unfolding file_of
file_same c rows names buf e d h = rw (e, d, h)

-- a row has room for the tag of a task
pub tag_at : (n most i : ℕ) (tasks : List TaskRow) → tags_ok n most tasks ≡ true → i < n → (task_of tasks i).tag ≤ most
unfolding tags_ok
tag_at n most i tasks h l = leb-true _ _ (all_at n i (λ k. leb (task_of tasks k).tag most) h l)
