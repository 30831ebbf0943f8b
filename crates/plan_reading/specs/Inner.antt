-- What the functions of this crate ask and give. No rule of document 01.
use Rattle.std.specs.Prelude.{ℕ, List, ◌≡◌}
use Rattle.plan_rules.specs.declared.Counts.{Counts}
use Rattle.plan_layout.specs.Layout.{counts_of}
use Rattle.plan_reading.specs.Checks.{header_code}
use Rattle.plan_reading.specs.Plan.{Plan}

-- a file that passed checks 1 to 4, and its counts
pub record HeaderPassed (f : List ℕ) (c : Counts) : Type 0 where
  pub none : header_code f ≡ 0
  pub counts : c ≡ counts_of f

-- these are the counts of a plan
pub record Counted (p : Plan) (c : Counts) : Type 0 where
  pub processors : c.processors ≡ p.processors
  pub tasks : c.tasks ≡ p.tasks
  pub resources : c.resources ≡ p.resources
  pub sections : c.sections ≡ p.sections
