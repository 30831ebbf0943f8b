-- The tables that requirements are worked out from. No rule of document 01 stands here; crates above lend the tables, so it is not private.
use Rattle.std.specs.Prelude.{List, ℕ}
use Rattle.plan_reading.specs.Plan.{plan_of, Checked}
use Rattle.analysis_sides.specs.Sides.{SideTable}
use Rattle.analysis_terms.specs.Terms.{TermTable}

-- a file that passed every check, the terms of its tasks, and their waiting sides
pub record Prepared (f t s : List ℕ) : Type 0 where
  pub plan : Checked f
  pub terms : TermTable (plan_of f) t
  pub sides : SideTable (plan_of f) s
