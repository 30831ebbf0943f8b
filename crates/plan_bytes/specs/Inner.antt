-- What the functions of this crate ask. None of this is a rule of document 01.
use Rattle.std.specs.Prelude.{ℕ, ◌*◌, ◌≤◌, ◌<◌, true, List, ◌≡◌, length}
use Rattle.sizes.specs.Sizes.{most_tasks, most_resources, most_name_bytes}
use Rattle.plan_rules.specs.Rules.{counts_ok, tags_ok}
use Rattle.plan_rules.specs.declared.TaskRow.{TaskRow}
use Rattle.plan_rules.specs.declared.Counts.{Counts}
use Rattle.plan_rules.specs.declared.Rows.{Rows}
use Rattle.plan_layout.specs.Editions.{edition1, format_of}
use Rattle.plan_layout.specs.Layout.{tasks_at}
use Rattle.plan_layout.specs.Inner.{task_width}
use Rattle.plan_bytes.specs.Encode.{file_length}

-- a buffer has room for a header, whose numbers fit their fields
pub record HeaderRoom (c : Counts) (len : ℕ) (buf : List ℕ) : Type 0 where
  pub counts : counts_ok c ≡ true
  pub fits : len < 65536
  pub room : tasks_at c ≤ length buf

-- a buffer has room for n task rows, whose tags fit their fields
pub record TasksRoom (n : ℕ) (rows : List TaskRow) (buf : List ℕ) : Type 0 where
  pub few : n ≤ most_tasks
  pub tags : tags_ok n (format_of edition1).most_tag rows ≡ true
  pub room : n * task_width ≤ length buf

-- a buffer has room for a file, whose numbers fit their fields
pub record FileRoom (c : Counts) (rows : Rows) (names buf : List ℕ) : Type 0 where
  pub counts : counts_ok c ≡ true
  pub tags : tags_ok c.tasks (format_of edition1).most_tag rows.tasks ≡ true
  pub short : length names ≤ most_resources * most_name_bytes
  pub room : file_length c names ≤ length buf
