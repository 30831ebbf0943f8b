-- Demand 2: written and then read is the same plan; read and then written is the same file.
use Rattle.std.specs.Prelude.{ℕ, ◌<◌, cond, List, [], ◌∷◌, ◌++◌, ◌≡◌, leb, eqb, length, get_or, take, drop, replicate}
use Rattle.refusals.specs.Numbers.{no_room}
use Rattle.sizes.specs.Sizes.{most_tasks, most_resources, most_sections}
use Rattle.folds.specs.Bytes.{placed_below}
use Rattle.plan_rules.specs.Rules.{no_task, no_section, task_of, section_of, length_of, start_of}
use Rattle.plan_rules.specs.declared.Counts.{Counts}
use Rattle.plan_rules.specs.declared.Rows.{Rows}
use Rattle.plan_layout.specs.Layout.{counts_of, rows_of, names_of, values_code}
use Rattle.plan_bytes.specs.Encode.{file_of}
use Rattle.plan.specs.declared.Reading.{Reading}
use Rattle.refusals.specs.Outcomes.{Outcome, outcome}
use Rattle.plan.specs.Acceptance.{refusal}
use Rattle.plan.specs.Reading.{count_values, name_refusal, name_of}
use Rattle.plan_writing.specs.Writing.{write_code}

-- the rows of a plan, with whatever stands past the counts made zero, as a reader gives them
unfoldable pub trimmed : Counts → Rows → Rows
trimmed c rows =
    record {
      tasks = placed_below c.tasks (task_of rows.tasks) (replicate most_tasks no_task);
      lengths = placed_below c.resources (length_of rows.lengths) (replicate most_resources 0);
      sections = placed_below c.sections (section_of rows.sections) (replicate most_sections no_section);
    }

-- name r of values: of the names' bytes, as many as its length says, behind those of the names before it
abbrev pub name_in : List ℕ → List ℕ → ℕ → List ℕ
name_in lengths names r = take (length_of lengths r) (drop (start_of lengths r) names)

-- the file of these values is read as the same plan; the question for each name is answered, by that name of the values
pub record SamePlan (c : Counts) (rows : Rows) (names : List ℕ) : Type 0 where
  pub accepted : refusal (file_of c rows names) ≡ 0
  pub counts : counts_of (file_of c rows names) ≡ c
  pub rows_read : rows_of (file_of c rows names) ≡ trimmed c rows
  pub names_read : names_of (file_of c rows names) ≡ names
  pub name_answered : (r : ℕ) → r < c.resources → name_refusal (file_of c rows names) r ≡ 0
  pub name_read : (r : ℕ) → r < c.resources → name_of (file_of c rows names) r ≡ name_in rows.lengths names r

-- written and then read is the same plan
abbrev pub WrittenThenRead : Type 0
WrittenThenRead = (c : Counts) (rows : Rows) (names : List ℕ) → values_code c rows names ≡ 0 → SamePlan c rows names

-- the plan of this file is written as the same file
pub record SameFile (f : List ℕ) : Type 0 where
  pub accepted : values_code (counts_of f) (rows_of f) (names_of f) ≡ 0
  pub file : file_of (counts_of f) (rows_of f) (names_of f) ≡ f

-- read and then written is the same file
abbrev pub ReadThenWritten : Type 0
ReadThenWritten = (f : List ℕ) → ((i : ℕ) → get_or f i 0 < 256) → refusal f ≡ 0 → SameFile f

-- what is read back where it was written: the same plan
abbrev pub read_back : Counts → Rows → Reading
read_back c rows = record { counts = c; rows = trimmed c rows }

-- what that tells
abbrev pub read_back_outcome : Counts → Rows → List ℕ → ℕ → Outcome
read_back_outcome c rows names room =
    outcome (write_code c rows names room) (count_values c)

-- copying a file by reading and writing it: 1 to 9 as reading does, then 10
unfoldable pub copy_refusal : List ℕ → ℕ → ℕ
copy_refusal f room = cond (eqb (refusal f) 0) (cond (leb (length f) room) 0 no_room) (refusal f)

-- what that tells
abbrev pub copy_outcome : List ℕ → ℕ → Outcome
copy_outcome f room = outcome (copy_refusal f room) (length f ∷ [])

-- the buffer after it: the same file, then what was behind; unchanged after a refusal
unfoldable pub copied : List ℕ → List ℕ → List ℕ
copied f buf = cond (eqb (copy_refusal f (length buf)) 0) (f ++ drop (length f) buf) buf
