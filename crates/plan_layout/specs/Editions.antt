-- Document 01, "The plan file": the editions of it, and the format of a file of each.
use Rattle.std.specs.Prelude.{ℕ, Bool, List, [], ◌∷◌, eqb, get_or}
use Rattle.folds.specs.Bytes.{width}
use Rattle.plan_rules.specs.declared.TaskRow.{TaskRow}

-- which editions there are
pub data Edition : Type 0 where
  edition1 : Edition

-- what a file of an edition looks like
pub record Format : Type 0 where
  -- the edition's number, which is the file's first byte
  pub number : ℕ
  -- the widths in bytes of the numbers in the header, and of those in the row of a task, of a resource and of a section
  pub header : List ℕ
  pub task : List ℕ
  pub resource : List ℕ
  pub section : List ℕ
  -- the task in the numbers of a row, the spare one among them, which must be 0 (and is 0 where there is none), and the numbers of a
  -- task's row
  pub task_in : List ℕ → TaskRow
  pub spare_in : List ℕ → ℕ
  pub task_numbers : TaskRow → List ℕ
  -- the greatest tag that a row has room for
  pub most_tag : ℕ

-- the format of each edition
abbrev pub format_of : Edition → Format
format_of edition1 =
    record {
      number = 1;
      -- Header, 16 bytes: edition, P, N, R, then in 2 bytes each S, the four offsets and the length of the file
      header = 1 ∷ 1 ∷ 1 ∷ 1 ∷ 2 ∷ 2 ∷ 2 ∷ 2 ∷ 2 ∷ 2 ∷ [];
      -- Task row, 8 bytes: processor, tag, priority, a zero, period T (2 bytes), execution time C (2 bytes)
      task = 1 ∷ 1 ∷ 1 ∷ 1 ∷ 2 ∷ 2 ∷ [];
      -- Resource row, 4 bytes: start of the name within the names (2 bytes), its length, a zero
      resource = 2 ∷ 1 ∷ 1 ∷ [];
      -- Section row, 4 bytes: task, resource, length (2 bytes)
      section = 1 ∷ 1 ∷ 2 ∷ [];
      task_in = λ v. record { processor = get_or v 0 0; tag = get_or v 1 0; priority = get_or v 2 0; period = get_or v 4 0; execution = get_or v 5 0 };
      spare_in = λ v. get_or v 3 0;
      task_numbers = λ t. t.processor ∷ t.tag ∷ t.priority ∷ 0 ∷ t.period ∷ t.execution ∷ [];
      most_tag = 255;
    }

-- whether a number is that of an edition
abbrev pub known : ℕ → Bool
known n = eqb n (format_of edition1).number

-- the edition with a number; which one for any other number is of no account, since a plan with such a number is refused 2
abbrev pub edition_of : ℕ → Edition
edition_of n = edition1

-- the bytes that every header begins with: the last number in them is the length of the file
abbrev pub header_length : ℕ
header_length = width (format_of edition1).header
