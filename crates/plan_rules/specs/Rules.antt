-- Document 01, "The plan file": the rules of a plan's counts, rows and names, by the number of the check that they belong to.
use Rattle.std.specs.Prelude.{ℕ, ◌+◌, Bool, cond, ◌&&◌, not, List, leb, ltb, eqb, length, get_or}
use Rattle.refusals.specs.Numbers.{wrong_task, repeated, wrong_name, wrong_section, sections_above}
use Rattle.sizes.specs.Sizes.{most_processors, most_tasks, most_resources, most_sections, most_name_bytes, most_section_ticks}
use Rattle.folds.specs.Below.{all_below, sum_below}
use Rattle.plan_rules.specs.declared.TaskRow.{TaskRow}
use Rattle.plan_rules.specs.declared.SectionRow.{SectionRow}
use Rattle.plan_rules.specs.declared.Counts.{Counts}

-- a row that is not there
abbrev pub no_task : TaskRow
no_task = record { processor = 0; tag = 0; priority = 0; period = 0; execution = 0 }

-- a section that is not there
abbrev pub no_section : SectionRow
no_section = record { task = 0; resource = 0; length = 0 }

-- task i
abbrev pub task_of : List TaskRow → ℕ → TaskRow
task_of tasks i = get_or tasks i no_task

-- section i
abbrev pub section_of : List SectionRow → ℕ → SectionRow
section_of sections i = get_or sections i no_section

-- the length of resource i's name
abbrev pub length_of : List ℕ → ℕ → ℕ
length_of lengths i = get_or lengths i 0

-- 3. Processors 1 to 8, tasks 1 to 64, resources 1 to 16, sections 0 to 255
abbrev pub counts_ok : Counts → Bool
counts_ok c =
    leb 1 c.processors
    && leb c.processors most_processors
    && leb 1 c.tasks
    && leb c.tasks most_tasks
    && leb 1 c.resources
    && leb c.resources most_resources
    && leb c.sections most_sections

-- 5. A task of a plan of p processors: processor below p, a tag that its row has room for (`most` is the greatest), priority at least
-- 1, 1 ≤ C ≤ T
abbrev pub task_ok : ℕ → ℕ → TaskRow → Bool
task_ok most p t =
    ltb t.processor p
    && leb t.tag most
    && leb 1 t.priority
    && leb 1 t.execution
    && leb t.execution t.period

-- 5. Each of n tasks
unfoldable pub tasks_ok : ℕ → ℕ → ℕ → List TaskRow → Bool
tasks_ok n most p tasks = all_below n (λ i. task_ok most p (task_of tasks i))

-- 5. A row has room for the tag of each of n tasks
unfoldable pub tags_ok : ℕ → ℕ → List TaskRow → Bool
tags_ok n most tasks = all_below n (λ i. leb (task_of tasks i).tag most)

-- 6. Task i's tag is that of no earlier task
unfoldable pub tag_new : List TaskRow → ℕ → Bool
tag_new tasks i = all_below i (λ j. not (eqb (task_of tasks i).tag (task_of tasks j).tag))

-- 6. No earlier task of its processor has task i's priority
unfoldable pub priority_new : List TaskRow → ℕ → Bool
priority_new tasks i =
    all_below i (λ j. not (eqb (task_of tasks i).processor (task_of tasks j).processor && eqb (task_of tasks i).priority (task_of tasks j).priority))

-- 6. A tag is unique in the plan, a priority on its processor
unfoldable pub unique_ok : ℕ → List TaskRow → Bool
unique_ok n tasks = all_below n (λ i. tag_new tasks i && priority_new tasks i)

-- 7. A name has 1 to 12 bytes
unfoldable pub lengths_ok : ℕ → List ℕ → Bool
lengths_ok r lengths = all_below r (λ i. leb 1 (length_of lengths i) && leb (length_of lengths i) most_name_bytes)

-- "Name bytes are 33 to 126": the first
abbrev pub first_byte : ℕ
first_byte = 33

-- and the last
abbrev pub last_byte : ℕ
last_byte = 126

-- 7. Each name byte is one of these
unfoldable pub bytes_ok : List ℕ → Bool
bytes_ok names = all_below (length names) (λ k. leb first_byte (get_or names k 0) && leb (get_or names k 0) last_byte)

-- the first name starts at 0, each next one where the last ended
abbrev pub start_of : List ℕ → ℕ → ℕ
start_of lengths i = sum_below i (length_of lengths)

-- the len bytes at a and those at b are the same
unfoldable pub same_bytes : List ℕ → ℕ → ℕ → ℕ → Bool
same_bytes names a b len = all_below len (λ k. eqb (get_or names (a + k) 0) (get_or names (b + k) 0))

-- the name of resource i, which begins at a, is not that of resource j, which begins at b
unfoldable pub differ : List ℕ → List ℕ → ℕ → ℕ → ℕ → ℕ → Bool
differ lengths names i j a b = not (eqb (length_of lengths i) (length_of lengths j) && same_bytes names a b (length_of lengths i))

-- 7. Resource i's name is that of no earlier resource
unfoldable pub name_new : List ℕ → List ℕ → ℕ → Bool
name_new lengths names i = all_below i (λ j. differ lengths names i j (start_of lengths i) (start_of lengths j))

-- 7. No two names are equal
unfoldable pub names_differ : ℕ → List ℕ → List ℕ → Bool
names_differ r lengths names = all_below r (name_new lengths names)

-- 7. The lengths add up to the names' bytes, and names keep their rules
unfoldable pub names_ok : ℕ → List ℕ → List ℕ → Bool
names_ok r lengths names =
    eqb (sum_below r (length_of lengths)) (length names)
    && (lengths_ok r lengths && (bytes_ok names && names_differ r lengths names))

-- 8. A section of a plan of n tasks and r resources: task below n, resource below r, length 1 to 1,000
abbrev pub section_ok : ℕ → ℕ → SectionRow → Bool
section_ok n r s = ltb s.task n && ltb s.resource r && leb 1 s.length && leb s.length most_section_ticks

-- 8. Each of s sections
unfoldable pub sections_ok : ℕ → ℕ → ℕ → List SectionRow → Bool
sections_ok s n r sections = all_below s (λ i. section_ok n r (section_of sections i))

-- 9. The sum of the lengths of task t's sections
unfoldable pub section_sum : ℕ → List SectionRow → ℕ → ℕ
section_sum s sections t = sum_below s (λ i. cond (eqb (section_of sections i).task t) (section_of sections i).length 0)

-- 9. The lengths of one task's sections sum to at most C
unfoldable pub sums_ok : ℕ → ℕ → List TaskRow → List SectionRow → Bool
sums_ok n s tasks sections = all_below n (λ t. leb (section_sum s sections t) (task_of tasks t).execution)

-- what checks 5 to 9 ask of a plan's rows and names: whether each holds
pub record Tests : Type 0 where
  pub tasks : Bool
  pub unique : Bool
  pub names : Bool
  pub sections : Bool
  pub sums : Bool

-- the first of 5 to 9 that fails, 0 for none: each is made over all rows before the next
abbrev pub tests_code : Tests → ℕ
tests_code t =
    cond t.tasks
    (cond t.unique
    (cond t.names (cond t.sections (cond t.sums 0 sections_above) wrong_section) wrong_name)
    repeated)
    wrong_task
