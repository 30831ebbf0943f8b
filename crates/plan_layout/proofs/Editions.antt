-- What the format of each edition keeps: rows written and then read are the same rows, and rows read and then written too.
use Rattle.plan_layout.proofs.Ground.{ℕ, true, ◌≡◌, refl, List, length, get_or, fields, row_at, TaskRow, Edition, edition1, format_of}
use Rattle.folds.proofs.RowLaws.{solid}
use Rattle.plan_layout.specs.Layout.{section_in, section_numbers, resource_numbers}

-- the numbers of row i
abbrev task_in : Edition → List ℕ → ℕ → List ℕ
task_in e s i = row_at (format_of e).task s i

abbrev resource_in : Edition → List ℕ → ℕ → List ℕ
resource_in e s i = row_at (format_of e).resource s i

abbrev section_row_in : Edition → List ℕ → ℕ → List ℕ
section_row_in e s i = row_at (format_of e).section s i

pub record Faithful (e : Edition) : Type 0 where
  -- no number has the width 0, and a row has as many numbers as its format
  pub task_solid : solid (format_of e).task ≡ true
  pub resource_solid : solid (format_of e).resource ≡ true
  pub section_solid : solid (format_of e).section ≡ true
  pub task_long : (t : TaskRow) → length ((format_of e).task_numbers t) ≡ length (format_of e).task
  pub resource_long : 3 ≡ length (format_of e).resource
  pub section_long : 3 ≡ length (format_of e).section
  -- a task's numbers hold that task, and 0 where they are spare
  pub task_back : (t : TaskRow) → (format_of e).task_in ((format_of e).task_numbers t) ≡ t
  pub spare_back : (t : TaskRow) → (format_of e).spare_in ((format_of e).task_numbers t) ≡ 0
  -- the numbers of a row whose spare one is 0 are those of what it holds
  pub task_forth : (s : List ℕ) (i : ℕ) → (format_of e).spare_in (task_in e s i) ≡ 0 → task_in e s i ≡ (format_of e).task_numbers ((format_of e).task_in (task_in e s i))
  pub resource_forth : (s : List ℕ) (i : ℕ) → get_or (resource_in e s i) 2 0 ≡ 0 → resource_in e s i ≡ resource_numbers (get_or (resource_in e s i) 0 0) (get_or (resource_in e s i) 1 0)
  pub section_forth : (s : List ℕ) (i : ℕ) → section_row_in e s i ≡ section_numbers (section_in (section_row_in e s i))

pub faithful : (e : Edition) → Faithful e
unfolding solid row_at fields
faithful edition1 =
    record {
      task_solid = refl;
      resource_solid = refl;
      section_solid = refl;
      task_long = λ t. refl;
      resource_long = refl;
      section_long = refl;
      task_back = λ t. refl;
      spare_back = λ t. refl;
      task_forth = λ s i z. rw z;
      resource_forth = λ s i z. rw z;
      section_forth = λ s i. refl;
    }
