-- What a checked file and the table of its figures tell.
use Rattle.std.proofs.Common.{ℕ, ◌<◌, ◌≤◌, ◌≡◌, sym, List, get_or, arith}
use Rattle.plan_reading.specs.Plan.{Plan, plan_of, Checked}
use Rattle.plan_reading.proofs.Laws.{valid_plan}
use Rattle.analysis_equations.specs.HoldTimes.{hold_at, budget}
use Rattle.analysis_equations.proofs.Laws.{use_asked, unknown_tag_lem, unknown_resource_lem, not_used, not_shared, shared_use, global_at, global_not}
use Rattle.analysis_figures.specs.Figures.{hold_cell, budget_cell, Figures, Known}

-- the plan has few processors, tasks and resources, and each task is of one of its processors
pub processors_few : (f : List ℕ) → Checked f → (plan_of f).processors ≤ 8
processors_few f h = (valid_plan f h).processors

pub tasks_few : (f : List ℕ) → Checked f → (plan_of f).tasks ≤ 64
tasks_few f h = (valid_plan f h).tasks

pub resources_few : (f : List ℕ) → Checked f → (plan_of f).resources ≤ 16
resources_few f h = (valid_plan f h).resources

pub processor_few : (f : List ℕ) (i : ℕ) → Checked f → i < (plan_of f).tasks → ((plan_of f).task i).processor < 8
processor_few f i h l = omega (arith, ((valid_plan f h).every_task_fits i l).processor, processors_few f h)

-- its figures are those of the table
pub hold_told : (f t : List ℕ) (i q : ℕ) → Known f t → i < 64 → q < 16 → hold_at (plan_of f) i q ≡ get_or t (hold_cell i q) 0
hold_told f t i q k l m = sym (k.figures.hold i q l m)

pub budget_told : (f t : List ℕ) (k q : ℕ) → Known f t → k < 8 → q < 16 → budget (plan_of f) k q ≡ get_or t (budget_cell k q) 0
budget_told f t k q known l m = sym (known.figures.budget k q l m)

-- all of this
pub ruleset told = (processors_few, tasks_few, resources_few, processor_few, hold_told, budget_told)

-- what follows of who shares a resource
pub ruleset sharing = (told, valid_plan, use_asked, unknown_tag_lem, unknown_resource_lem, not_used, not_shared, shared_use, global_at, global_not)

-- the same of numbers that equal the task's, the processor's or the resource's
pub hold_of_lem : (p : Plan) (t : List ℕ) {j q r : ℕ} → Figures p t → r ≡ q → j < 64 → q < 16 → get_or t (hold_cell j r) 0 ≡ hold_at p j q
hold_of_lem p t {j} {q} c e a b = rw e (c.hold j q a b)

pub budget_of_lem : (p : Plan) (t : List ℕ) {k l q r : ℕ} → Figures p t → l ≡ k → r ≡ q → k < 8 → q < 16 → get_or t (budget_cell l r) 0 ≡ budget p k q
budget_of_lem p t {k} {l} {q} c f e a b = rw (f, e) (c.budget k q a b)
