-- A plan as the analysis and the machine see it: its counts and its rows, whatever the file they came from.
use Rattle.std.specs.Prelude.{ℕ, ◌+◌, ◌<◌, ◌≤◌, List, ◌≡◌, length, get_or, take, drop}
use Rattle.sizes.specs.Sizes.{most_processors, most_tasks, most_resources, most_sections, most_section_ticks}
use Rattle.plan_rules.specs.declared.TaskRow.{TaskRow}
use Rattle.plan_rules.specs.declared.SectionRow.{SectionRow}
use Rattle.plan_layout.specs.Layout.{counts_of, edition_in, tasks_at, resources_at, sections_at, names_at, task_at, section_at, start_at, length_at}
use Rattle.plan_reading.specs.Checks.{check_code}

-- how many processors, tasks, resources and sections there are, and the rows by their numbers
pub record Plan : Type 0 where
  pub processors : ℕ
  pub tasks : ℕ
  pub resources : ℕ
  pub sections : ℕ
  pub task : ℕ → TaskRow
  pub section : ℕ → SectionRow

-- the plan in a file
unfoldable pub plan_of : List ℕ → Plan
plan_of f =
    record {
      processors = (counts_of f).processors;
      tasks = (counts_of f).tasks;
      resources = (counts_of f).resources;
      sections = (counts_of f).sections;
      task = task_at (edition_in f) (drop (tasks_at (counts_of f)) f);
      section = section_at (edition_in f) (drop (sections_at (counts_of f)) f);
    }

-- the part of a file that is the name of resource q
unfoldable pub name_part : List ℕ → ℕ → List ℕ
name_part f q =
    let part : List ℕ = drop (resources_at (counts_of f)) f in
    take (length_at (edition_in f) part q) (drop (names_at (counts_of f) + start_at (edition_in f) part q) f)

-- a file of bytes that passed checks 1 to 9
pub record Checked (f : List ℕ) : Type 0 where
  pub none : check_code f ≡ 0
  pub bytes : (k : ℕ) → k < length f → get_or f k 0 < 256

-- a task that keeps the rules of a plan of so many processors
pub record TaskFits (processors : ℕ) (t : TaskRow) : Type 0 where
  pub processor : t.processor < processors
  pub tag : t.tag < 65536
  pub low : 1 ≤ t.priority
  pub high : t.priority < 256
  pub execution : 1 ≤ t.execution
  pub within : t.execution ≤ t.period
  pub period : t.period < 65536

-- a section that keeps the rules of a plan of so many tasks and resources
pub record SectionFits (tasks resources : ℕ) (s : SectionRow) : Type 0 where
  pub task : s.task < tasks
  pub resource : s.resource < resources
  pub low : 1 ≤ s.length
  pub high : s.length ≤ most_section_ticks

-- a plan whose counts and rows keep these rules, as those of every checked file do; what is left out is that tags are unique and
-- what check 9 says
pub record Valid (p : Plan) : Type 0 where
  pub processor : 1 ≤ p.processors
  pub processors : p.processors ≤ most_processors
  pub task : 1 ≤ p.tasks
  pub tasks : p.tasks ≤ most_tasks
  pub resource : 1 ≤ p.resources
  pub resources : p.resources ≤ most_resources
  pub sections : p.sections ≤ most_sections
  pub every_task_fits : (i : ℕ) → i < p.tasks → TaskFits p.processors (p.task i)
  pub unique : (i j : ℕ) → i < p.tasks → j < p.tasks → (p.task i).processor ≡ (p.task j).processor → (p.task i).priority ≡ (p.task j).priority → i ≡ j
  pub section_fits : (s : ℕ) → s < p.sections → SectionFits p.tasks p.resources (p.section s)
