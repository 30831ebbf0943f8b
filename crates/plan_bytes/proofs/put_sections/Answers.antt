-- A turn puts the next row behind the others.
use Rattle.std.proofs.Common.{arith}
use Rattle.folds.proofs.Fronts.{rows_none, rows_more}
use Rattle.plan_bytes.specs.Encode.{section_bytes}
use Rattle.plan_bytes.proofs.Put.{section_length}
use Rattle.plan_bytes.proofs.put_sections.Goals as goal

pub loop-i-init : goal.loop-i-init
loop-i-init c = rows_none

pub loop-i-preserved : goal.loop-i-preserved
unfolding section_bytes
loop-i-preserved c = rows_more (section_length c.args.sections) c.loop-i.invariant c.put_section.ensures c.loop-i-test.true (omega arith)
