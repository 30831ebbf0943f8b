use Rattle.analysis_hold_times.proofs.Ground.{arith}
use Rattle.analysis_sections.proofs.Walks.{last_sits, all_above}
use Rattle.analysis_hold_times.proofs.Holding.{held_none, most_done, held_done, own_fits, held_fits, above_fits, held_step}
use Rattle.analysis_hold_times.proofs.hold_rows.Goals as goal

pub loop-x-init : goal.loop-x-init
loop-x-init c = held_none _ _ _ c.requires.long

pub returns-then-sits-eq0 : goal.returns-then-sits-eq0
returns-then-sits-eq0 c =
    let w = c.requires in
    let all = last_sits _ c.loop-x.x w.plan w.tasks w.processor (omega arith) c.from-sits.ensures c.if-sits-eq0.true in
    record { resource_row = most_done _ _ _ c.loop-x.invariant all; held = held_done _ _ _ c.loop-x.invariant all }

pub shared_row-own-requires : goal.shared_row-own-requires
shared_row-own-requires c = own_fits c.requires c.loop-x.invariant (omega arith) c.from-sits.ensures c.if-sits-eq0.false

pub held_row-requires : goal.held_row-requires
held_row-requires c =
    held_fits c.requires c.loop-x.invariant (omega arith) c.from-sits.ensures c.if-sits-eq0.false c.shared_row-own.ensures

pub above_row-next_above-requires : goal.above_row-next_above-requires
above_row-next_above-requires c =
    above_fits c.requires c.loop-x.invariant (omega arith) c.from-sits.ensures c.if-sits-eq0.false c.shared_row-own.ensures

pub loop-x-preserved : goal.loop-x-preserved
loop-x-preserved c =
    held_step c.requires c.loop-x.invariant (omega arith) c.from-sits.ensures c.if-sits-eq0.false c.shared_row-own.ensures
    c.held_row.ensures c.set_row.ensures c.above_row-next_above.ensures c.longer_row-next_most.ensures

pub returns : goal.returns
returns c =
    let all = all_above _ _ c.loop-x.x (omega arith) in
    record { resource_row = most_done _ _ _ c.loop-x.invariant all; held = held_done _ _ _ c.loop-x.invariant all }
