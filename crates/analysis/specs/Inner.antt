-- What the private functions of this crate give. None of this is a rule of document 01.
use Rattle.std.specs.Prelude.{ℕ, ◌<◌, true, List, ◌≡◌, replicate, Result, IfOk}
use Rattle.sizes.specs.Sizes.{most_processors, most_tasks, most_resources}
use Rattle.plan_reading.specs.Plan.{Plan, plan_of, Checked}
use Rattle.analysis_equations.specs.Sharing.{uses, global}
use Rattle.analysis_equations.specs.HoldTimes.{budget, wait_time}
use Rattle.analysis_equations.specs.Questions.{task_number}
use Rattle.analysis_figures.specs.Figures.{Known}
use Rattle.refusals.specs.Refusals.{code_of}
use Rattle.refusals.specs.declared.Refusal.{Refusal}
use Rattle.analysis_terms.specs.Terms.{term_count}
use Rattle.analysis_requirements.specs.Tables.{Prepared}
use Rattle.analysis.specs.Answers.{hold_refusal}

-- task i of a checked plan uses q, which is global; the table is that of the plan
pub record Uses (f : List ℕ) (tag q : ℕ) (figures : List ℕ) (i : ℕ) : Type 0 where
  pub known : Known f figures
  pub task : i ≡ task_number (plan_of f) tag
  pub below : i < (plan_of f).tasks
  pub low : i < most_tasks
  pub resource : q < most_resources
  pub used : uses (plan_of f) i q ≡ true
  pub shared : global (plan_of f) q ≡ true

-- a checked file, and a processor and a resource that a plan can have
pub record Share (f : List ℕ) (k q : ℕ) : Type 0 where
  pub plan : Checked f
  pub processor : k < most_processors
  pub resource : q < most_resources

-- their budget and their wait time
pub record Shares (p : Plan) (k q b w : ℕ) : Type 0 where
  pub budget : b ≡ budget p k q
  pub wait : w ≡ wait_time p k q

-- a checked file, and the tables of its requirements with nothing in them
pub record Blank (f t sides : List ℕ) : Type 0 where
  pub plan : Checked f
  pub terms : t ≡ replicate term_count 0
  pub zero : sides ≡ replicate most_tasks 0

-- task i of a checked plan whose tables are filled in
pub record TaskReady (f t sides : List ℕ) (i : ℕ) : Type 0 where
  pub prepared : Prepared f t sides
  pub task : i < (plan_of f).tasks

-- the refusal of a question about a task and a resource, or who is asked about
pub record Found (f : List ℕ) (tag q : ℕ) (figures : List ℕ) (r : Result ℕ Refusal) : Type 0 where
  pub code : code_of r ≡ hold_refusal f tag q
  pub user : IfOk r (Uses f tag q figures)
