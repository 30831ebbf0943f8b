-- A slot that fails, one that passes, and the end of the queue.
use Rattle.std.proofs.lemmas.Grind.{common_steps}
use Rattle.std.proofs.lemmas.List.{length-take}
use Rattle.machine_state.proofs.Ground.{◌≡◌, get_or, arith, all_more, slot_test}
use Rattle.machine_state.proofs.Passing.{slot_passes, struck_more, slot_fails, slots_done}
use Rattle.machine_state.proofs.queue_ok.Goals as goal

pub returns-then-k-ge-PROCESSORS : goal.returns-then-k-ge-PROCESSORS
unfolding slot_test
returns-then-k-ge-PROCESSORS c =
    slot_fails _ _ _ _ c.loop-slot.slot-index (omega (arith, length-take c.from.result c.args.queue)) (grind (arith, common_steps))

pub loop-slot-preserved : goal.loop-slot-preserved
loop-slot-preserved c =
    let l = c.loop-slot in
    let own : c.from-k.result ≡ get_or c.args.queue l.slot-index 0 = grind (arith, common_steps) in
    record {
      long = grind (arith, common_steps);
      slots = all_more l.slot-index _ l.invariant.slots (slot_passes _ _ _ l.slot-index _ l.rest own (omega arith) c.if-rest-k-eq0.false l.invariant.struck);
      struck = struck_more _ _ _ l.slot-index _ l.rest l.invariant.long own l.invariant.struck;
    }

pub returns : goal.returns
returns c =
    let l = c.loop-slot in
    slots_done _ _ _ _ l.slot-index l.rest (omega (arith, length-take c.from.result c.args.queue)) l.invariant.struck l.invariant.slots
    c.tail_ok.ensures c.from_le_bytes.ensures
