use Rattle.analysis_hold_times.proofs.Ground.{arith, valid_plan}
use Rattle.analysis_hold_times.proofs.Tables.{table_none, table_step, table_done}
use Rattle.analysis_hold_times.proofs.hold_all.Goals as goal

pub loop-k-init : goal.loop-k-init
loop-k-init c = table_none _ (valid_plan _ c.requires.known.plan) c.requires.known.sections

pub loop-k-preserved : goal.loop-k-preserved
loop-k-preserved c =
    let v = valid_plan _ c.requires.known.plan in
    table_step _ v c.loop-k.invariant (c.hold_rows-most.ensures.resource_row, c.hold_rows-most.ensures.held) c.set_row.ensures (omega (arith, v.processors))

pub returns : goal.returns
returns c =
    let h = c.requires.known.plan in
    record { plan = h; figures = table_done _ (valid_plan _ h) c.loop-k.k (omega arith) c.loop-k.invariant }
