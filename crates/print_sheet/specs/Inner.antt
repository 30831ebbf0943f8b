-- How much room the lines of a sheet take, what the private functions of this crate are given, and what some of them give. None of this
-- is a rule.
use Rattle.std.specs.Prelude.{ℕ, ◌+◌, ◌*◌, ◌<◌, ◌≤◌, Bool, ◌||◌, not, List, ◌≡◌, Result, IfOk, length}
use Rattle.std.specs.Borrow.{MutBor}
use Rattle.sizes.specs.Sizes.{most_processors, most_tasks, most_resources}
use Rattle.refusals.specs.declared.Refusal.{Refusal}
use Rattle.refusals.specs.Refusals.{Told}
use Rattle.print_text.specs.Text.{PutIn}
use Rattle.print_text.specs.Buffers.{handed_code, buffer_with}
use Rattle.plan_reading.specs.Plan.{plan_of}
use Rattle.analysis_equations.specs.Requirement.{asks, met, admitted}
use Rattle.analysis_figures.specs.Figures.{Known}
use Rattle.analysis_totals.specs.Totals.{Added}
use Rattle.analysis_requirements.specs.Tables.{Prepared}
use Rattle.print_sheet.specs.declared.Entry.{Entry}
use Rattle.print_sheet.specs.declared.Required.{Required}
use Rattle.print_sheet.specs.Sheet.{requirement_at, requirement_lines, plan_sheet, most_sheet}

-- the most bytes of the line of a resource
abbrev pub resource_room : ℕ
resource_room = 32

-- of a processor and a resource
abbrev pub budget_room : ℕ
budget_room = 96

-- of a task and a resource
abbrev pub hold_room : ℕ
hold_room = 104

-- of a requirement
abbrev pub requirement_room : ℕ
requirement_room = 160

-- of the last line
abbrev pub admitted_room : ℕ
admitted_room = 16

-- the most bytes of the lines of all resources
abbrev pub resources_room : ℕ
resources_room = most_resources * resource_room

-- of the budgets of one processor
abbrev pub budgets_of_room : ℕ
budgets_of_room = most_resources * budget_room

-- of all budgets
abbrev pub budgets_room : ℕ
budgets_room = most_processors * budgets_of_room

-- of the hold times of one task
abbrev pub holds_of_room : ℕ
holds_of_room = most_resources * hold_room

-- of all hold times
abbrev pub holds_room : ℕ
holds_room = most_tasks * holds_of_room

-- of budgets and hold times
abbrev pub figures_room : ℕ
figures_room = budgets_room + holds_room

-- of all requirements
abbrev pub requirements_room : ℕ
requirements_room = most_tasks * requirement_room

-- of those and the last line
abbrev pub verdict_room : ℕ
verdict_room = requirements_room + admitted_room

-- a checked plan with the table of its figures, and so much room from `at` on
pub record Ready (f figures l : List ℕ) (at most : ℕ) : Type 0 where
  pub known : Known f figures
  pub room : at + most ≤ length l

-- and a resource of the plan
pub record Cell (f figures l : List ℕ) (at most q : ℕ) : Type 0 where
  pub known : Known f figures
  pub room : at + most ≤ length l
  pub resource : q < (plan_of f).resources

-- the first, with the table of totals
pub record Summed (f figures totals l : List ℕ) (at most : ℕ) : Type 0 where
  pub added : Added f figures totals
  pub room : at + most ≤ length l

-- that, and one of n processors or tasks
pub record ReadyOf (f figures totals l : List ℕ) (at most n i : ℕ) : Type 0 where
  pub added : Added f figures totals
  pub room : at + most ≤ length l
  pub row : i < n

-- that, and a resource of the plan
pub record EntryOf (f figures totals l : List ℕ) (at most n : ℕ) (e : Entry) : Type 0 where
  pub added : Added f figures totals
  pub room : at + most ≤ length l
  pub row : e.row < n
  pub resource : e.resource < (plan_of f).resources

-- a checked plan with the tables of its requirements, room for one of them, and a task of the plan
pub record RowReady (f terms sides l : List ℕ) (at i : ℕ) : Type 0 where
  pub prepared : Prepared f terms sides
  pub room : at + requirement_room ≤ length l
  pub task : i < (plan_of f).tasks

-- both tables, and room for all requirements
pub record Rows (f terms sides l : List ℕ) (at : ℕ) : Type 0 where
  pub prepared : Prepared f terms sides
  pub room : at + requirements_room ≤ length l

-- whether a task passes: it asks for nothing, or what it asks is met
abbrev pub passes : List ℕ → ℕ → Bool
passes f i = not (asks (plan_of f) i) || met (plan_of f) i

-- text put at `at`, which takes at most `room` bytes, and whether every requirement in it is met
pub record PutAll (before now : List ℕ) (at room : ℕ) (text : List ℕ) (ok : Bool) (r : Required) : Type 0 where
  pub put : PutIn before now at room text r.end
  pub all : r.all ≡ ok

-- that of task i
abbrev pub RowPut : List ℕ → ℕ → (before now : List ℕ) → ℕ → Required → Type 0
RowPut f i before now at r = PutAll before now at requirement_room (requirement_at f i) (passes f i) r

-- that of all tasks
abbrev pub RowsPut : List ℕ → (before now : List ℕ) → ℕ → Required → Type 0
RowsPut f before now at r = PutAll before now at requirements_room (requirement_lines f) (admitted (plan_of f)) r

-- a sheet that was put together aside and handed over
pub record AsideSheet (f before now : List ℕ) (r : Result ℕ Refusal) : Type 0 where
  pub line : Told (handed_code (plan_sheet f) (length before)) (length (plan_sheet f)) r
  pub buffer : now ≡ buffer_with (plan_sheet f) before
  pub within : IfOk r (λ n. n ≤ most_sheet)

-- texts by number, each of at most `width` bytes, of which there are at most `most`
pub record Texts : Type 0 where
  pub text : ℕ → List ℕ
  pub width : ℕ
  pub most : ℕ

-- what is asked of a closure that puts such a text at a place: that it may be called for each number below n where there is room
abbrev pub MayPut : Texts → ℕ → (MutBor (List ℕ) → ℕ → ℕ → Type 0) → Type 0
MayPut t n may = (b : MutBor (List ℕ)) (at k : ℕ) → k < n → at + t.width ≤ length b.now → may b at k

-- and that a call puts the text of its number there
abbrev pub Puts : Texts → ℕ → (MutBor (List ℕ) → ℕ → ℕ → ℕ → MutBor (List ℕ) → Type 0) → Type 0
Puts t n does = (b c : MutBor (List ℕ)) (at k end : ℕ) → k < n → does b at k end c → PutIn b.now c.now at t.width (t.text k) end
