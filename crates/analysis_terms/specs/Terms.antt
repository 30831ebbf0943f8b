-- The terms of Equations 4 and 5 of all tasks, in one table. No rule of document 01 stands here, only where a figure stands in the table;
-- crates above lend the table, so it is not private.
use Rattle.std.specs.Prelude.{ℕ, ◌+◌, ◌*◌, ◌<◌, ◌≤◌, List, ◌≡◌, length, get_or}
use Rattle.sizes.specs.Sizes.{most_tasks, most_resources, most_sections}
use Rattle.plan_reading.specs.Plan.{Plan, plan_of, Checked}
use Rattle.analysis_equations.specs.Sharing.{processor_of, priority_of}
use Rattle.analysis_equations.specs.Blocking.{global_count, longest_local, longest_global}

-- where the longest global section of task j stands
abbrev pub longest_cell : ℕ → ℕ
longest_cell j = j

-- its precedence
abbrev pub precedence_cell : ℕ → ℕ
precedence_cell j = most_tasks + j

-- how many global sections it has
abbrev pub count_cell : ℕ → ℕ
count_cell j = 2 * most_tasks + j

-- the ceiling of resource q
abbrev pub ceiling_cell : ℕ → ℕ
ceiling_cell q = 3 * most_tasks + q

-- whether it is global
abbrev pub shared_cell : ℕ → ℕ
shared_cell q = 3 * most_tasks + most_resources + q

-- the longest section that blocks task i
abbrev pub blocked_cell : ℕ → ℕ
blocked_cell i = 3 * most_tasks + 2 * most_resources + i

-- how many there are
abbrev pub term_count : ℕ
term_count = 4 * most_tasks + 2 * most_resources

-- a task's precedence: its processor and its priority as one number
abbrev pub precedence_of : Plan → ℕ → ℕ
precedence_of p j = processor_of p j * 256 + priority_of p j

-- the table of terms
pub record TermTable (p : Plan) (t : List ℕ) : Type 0 where
  pub long : length t ≡ term_count
  pub longest : (j : ℕ) → j < most_tasks → get_or t (longest_cell j) 0 ≡ longest_global p j
  pub precedence : (j : ℕ) → j < p.tasks → get_or t (precedence_cell j) 0 ≡ precedence_of p j
  pub count : (j : ℕ) → j < most_tasks → get_or t (count_cell j) 0 ≡ global_count p j
  pub blocked : (i : ℕ) → i < p.tasks → get_or t (blocked_cell i) 0 ≡ longest_local p i

-- task i of the plan, by its terms; its cells are there, and its count is that of sections
pub record TaskTerms (f t : List ℕ) (i : ℕ) : Type 0 where
  pub plan : Checked f
  pub terms : TermTable (plan_of f) t
  pub task : i < (plan_of f).tasks
  pub low : i < most_tasks
  pub few : get_or t (count_cell i) 0 ≤ most_sections
