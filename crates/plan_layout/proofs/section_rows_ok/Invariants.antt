-- `ok` says whether the rows below `i` keep their rule.
use Rattle.std.proofs.Common.{◌≡◌}
use Rattle.plan_layout.specs.Editions.{edition1}
use Rattle.plan_layout.specs.Layout.{section_rows_ok}
use Rattle.plan_layout.proofs.section_rows_ok.Given as goal

abbrev pub invariant-loop-i : goal.invariant-loop-i
invariant-loop-i l = l.ok ≡ section_rows_ok edition1 l.i l.n l.r l.part
