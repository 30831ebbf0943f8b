-- What each question about a plan file is answered: document 01's number and values for each case.
use Rattle.std.specs.Prelude.{ℕ, Bool, Result, Ok, Err, ◌*◌, ◌/◌, ◌%◌, cond, List, [], ◌∷◌, eqb, ℤ, pos, replicate}
use Rattle.folds.specs.Bytes.{placed_below}
use Rattle.sizes.specs.Sizes.{most_tasks, most_resources}
use Rattle.refusals.specs.Outcomes.{Outcome}
use Rattle.refusals.specs.Refusals.{number, outcome_by}
use Rattle.refusals.specs.declared.Refusal.{Refusal}
use Rattle.plan.specs.Acceptance.{refusal}
use Rattle.plan_reading.specs.Plan.{Plan, plan_of}
use Rattle.analysis_equations.specs.HoldTimes.{hold_time, hold_at, budget, wait_time}
use Rattle.analysis_equations.specs.Questions.{task_number, use_code, processor_code, requirement_code}
use Rattle.machine_rules.specs.Longest.{longest_wait}
use Rattle.analysis_requirements.specs.declared.Requirement.{Requirement}
use Rattle.analysis_requirements.specs.Figures.{requirement_of}

-- "Each operation given a plan file first gives 1 to 9 as reading does"; then the number of its own
unfoldable pub after_reading : List ℕ → ℕ → ℕ
after_reading f code = cond (eqb (refusal f) 0) code (refusal f)

-- what a figure's answer tells: its number and the figure, or the refusal: "No figure is given."
abbrev pub figure_outcome : Result ℕ Refusal → Outcome
figure_outcome = outcome_by (λ v. v ∷ [])

-- the hold time of a resource by the task with a tag
unfoldable pub hold_refusal : List ℕ → ℕ → ℕ → ℕ
hold_refusal f tag q = after_reading f (use_code (plan_of f) tag q)

-- and the figure where none is refused
abbrev pub hold_figure : List ℕ → ℕ → ℕ → ℕ
hold_figure f tag q = hold_time (plan_of f) (task_number (plan_of f) tag) q

-- the longest wait of the task with a tag for a resource: "Refusals as for a hold time"; and this is its figure
abbrev pub longest_figure : List ℕ → ℕ → ℕ → ℕ
longest_figure f tag q = longest_wait (plan_of f) (task_number (plan_of f) tag) q

-- the budget of a processor on a resource
abbrev pub budget_of : List ℕ → ℕ → ℕ → ℕ
budget_of f = budget (plan_of f)

-- and its wait time for it
abbrev pub wait_of : List ℕ → ℕ → ℕ → ℕ
wait_of f = wait_time (plan_of f)

-- and why neither is given
unfoldable pub share_refusal : List ℕ → ℕ → ℕ → ℕ
share_refusal f k q = after_reading f (processor_code (plan_of f) k q)

-- the requirement of the task with a tag
unfoldable pub requirement_refusal : List ℕ → ℕ → ℕ
requirement_refusal f tag = after_reading f (requirement_code (plan_of f) tag)

-- and its figures where none is refused
abbrev pub requirement_figures : List ℕ → ℕ → Requirement
requirement_figures f tag = requirement_of (plan_of f) (task_number (plan_of f) tag)

-- a number and values, some of which may be negative
pub record SignedOutcome : Type 0 where
  pub number : ℕ
  pub values : List ℤ

-- "The requirement's answer is B1, B2, tolerance, slack, waiting side and whether it is met", 1 for met
abbrev pub requirement_values : Requirement → List ℤ
requirement_values r =
    pos r.blocking1 ∷ pos r.blocking2 ∷ r.tolerance ∷ r.slack ∷ pos r.side ∷ pos (cond r.met 1 0) ∷ []

-- what a requirement's answer tells
abbrev pub requirement_outcome : Result Requirement Refusal → SignedOutcome
requirement_outcome (Ok r) = record { number = 0; values = requirement_values r }
requirement_outcome (Err e) = record { number = number e; values = [] }

-- the refusal with no values, or the values where it is 0
abbrev pub signed_answered : ℕ → List ℤ → SignedOutcome
signed_answered code values = record { number = code; values = cond (eqb code 0) values [] }

-- what the question for a requirement tells
abbrev pub requirement_says : List ℕ → ℕ → SignedOutcome
requirement_says f tag = signed_answered (requirement_refusal f tag) (requirement_values (requirement_figures f tag))

-- "the question of admission refuse[s] nothing further": 1 for admitted
abbrev pub admission_outcome : Result Bool Refusal → Outcome
admission_outcome = outcome_by (λ b. cond b 1 0 ∷ [])

-- how many hold times there are: one for each task and resource that a plan can have
abbrev pub hold_count : ℕ
hold_count = most_tasks * most_resources

-- all hold times of a plan at once: that of resource q by task i stands at i × 16 + q, 0 where the question for it would be
-- refused, or there is no such task
unfoldable pub hold_times : Plan → List ℕ
hold_times p = placed_below hold_count (λ x. hold_at p (x / most_resources) (x % most_resources)) (replicate hold_count 0)
