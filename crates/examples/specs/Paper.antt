-- The paper's example (section 5, Figure 2) as a plan. Its P1 and P2 are processors 0 and 1, its R1, R2 and R3 resources 0, 1 and 2,
-- its tasks τ1 to τ5 and τ'1 to τ'3 tasks 0 to 7. "A lower index of a task indicates a higher priority". The paper gives no C and T.
use Rattle.std.specs.Prelude.{ℕ, List, [], ◌∷◌, ◌++◌, get_or, length}
use Rattle.plan_rules.specs.Rules.{no_task, no_section}
use Rattle.plan_rules.specs.declared.TaskRow.{TaskRow}
use Rattle.plan_rules.specs.declared.SectionRow.{SectionRow}
use Rattle.plan_reading.specs.Plan.{Plan}
use Rattle.machine_rules.specs.declared.Call.{Call}
use Rattle.machine_rules.specs.declared.Call.TheVariants.{Request, Release, GiveUp, Tick}

-- a task of a processor, with its tag, priority, T and C
abbrev pub task_row : ℕ → ℕ → ℕ → ℕ → ℕ → TaskRow
task_row k tag x t c = record { processor = k; tag = tag; priority = x; period = t; execution = c }

-- a section of a task on a resource
abbrev pub section_row : ℕ → ℕ → ℕ → SectionRow
section_row i q l = record { task = i; resource = q; length = l }

-- a plan of these rows
abbrev pub plan_with : ℕ → ℕ → List TaskRow → List SectionRow → Plan
plan_with k r tasks sections =
    record {
      processors = k;
      tasks = length tasks;
      resources = r;
      sections = length sections;
      task = λ i. get_or tasks i no_task;
      section = λ s. get_or sections s no_section;
    }

-- P1's tasks, and P2's: C6 gives C and T of P2's first two, the others' do not matter to any row of the table
abbrev pub paper_tasks : ℕ → List TaskRow
paper_tasks t =
    task_row 0 1 5 100 10
    ∷ task_row 0 2 4 100 10
    ∷ task_row 0 3 3 100 10
    ∷ task_row 0 4 2 100 10
    ∷ task_row 0 5 1 100 10
    ∷ task_row 1 11 3 50 6
    ∷ task_row 1 12 2 t 5
    ∷ task_row 1 13 1 100 10
    ∷ []

-- Figure 2
abbrev pub paper_sections : List SectionRow
paper_sections =
    section_row 0 0 2
    ∷ section_row 0 2 3
    ∷ section_row 1 0 3
    ∷ section_row 2 1 5
    ∷ section_row 3 0 5
    ∷ section_row 3 2 2
    ∷ section_row 4 2 2
    ∷ section_row 5 0 3
    ∷ section_row 5 1 2
    ∷ section_row 6 0 2
    ∷ section_row 6 1 1
    ∷ section_row 7 0 4
    ∷ []

-- the example, with T of P2's second task
abbrev pub paper : ℕ → Plan
paper t = plan_with 2 3 (paper_tasks t) paper_sections

-- The paper's Figure 3 on R1, as calls. Instant 1: τ'2 asks, then τ2; two ticks to instant 3
abbrev pub to_three : List Call
to_three = Request 12 0 ∷ Request 2 0 ∷ Tick ∷ Tick ∷ []

-- instant 3, as the paper has it: τ'1 asks before τ'2 releases; τ1 asks too. τ4 asks at 4, and three ticks lead to instant 6
abbrev pub to_six : List Call
to_six = to_three ++ (Request 11 0 ∷ Release 12 0 ∷ Request 1 0 ∷ Tick ∷ Request 4 0 ∷ Tick ∷ Tick ∷ [])

-- τ'3 asks at 7, and ticks lead to instant 11
abbrev pub to_eleven : List Call
to_eleven = to_six ++ (Tick ∷ Request 13 0 ∷ Tick ∷ Tick ∷ Tick ∷ Tick ∷ [])

-- a plan for the waiting side: the first task has two sections on the resource, its fellows hold it for 6 and 4 ticks; the only user of
-- another processor holds it for 5
abbrev pub twice : Plan
twice =
    plan_with 2 1 (task_row 0 1 3 90 10 ∷ task_row 0 2 2 900 10 ∷ task_row 0 3 1 900 10 ∷ task_row 1 4 1 900 10 ∷ [])
    (section_row 0 0 3 ∷ section_row 1 0 6 ∷ section_row 0 0 2 ∷ section_row 2 0 4 ∷ section_row 3 0 5 ∷ [])

-- a plan for C5: two tasks of one processor with hold time 3, which is its budget; one of another
abbrev pub equal : Plan
equal =
    plan_with 2 1 (task_row 0 1 2 50 5 ∷ task_row 0 2 1 50 5 ∷ task_row 1 3 1 50 5 ∷ [])
    (section_row 0 0 3 ∷ section_row 1 0 3 ∷ section_row 2 0 2 ∷ [])

-- calls on it of which the second task waits as long as any task there can: the task of the other processor holds, the first task
-- asks, the second asks behind it; when the first is granted, the other processor asks again. Up to the tick before the last
abbrev pub to_last : List Call
to_last = Request 3 0 ∷ Request 1 0 ∷ Request 2 0 ∷ Tick ∷ Tick ∷ Request 3 0 ∷ Tick ∷ Tick ∷ Tick ∷ Tick ∷ []

-- and calls that begin in the same way, of which the first task then gives up, to the tick at which the second is granted
abbrev pub to_second : List Call
to_second = Request 3 0 ∷ Request 1 0 ∷ Request 2 0 ∷ Tick ∷ GiveUp 1 0 ∷ Tick ∷ []

-- the listing's plan: "2 processors, tasks of tag 10 (processor 0) and 20 (processor 1), resource "bus", sections of 2 and 3 ticks"
abbrev pub bus : Plan
bus = plan_with 2 1 (task_row 0 10 1 50 5 ∷ task_row 1 20 1 50 5 ∷ []) (section_row 0 0 2 ∷ section_row 1 0 3 ∷ [])

-- and its seven calls: "Q 20, Q 10, T, T, T, R 20, R 10 (all on resource 0)"
abbrev pub seven : List Call
seven = Request 20 0 ∷ Request 10 0 ∷ Tick ∷ Tick ∷ Tick ∷ Release 20 0 ∷ Release 10 0 ∷ []
