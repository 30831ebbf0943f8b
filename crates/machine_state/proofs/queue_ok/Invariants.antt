-- The slots passed are as they must be, and their processors are struck off `rest`.
use Rattle.machine_state.proofs.Ground.{true, ◌≡◌, length, most_processors, all_below, slot_test}
use Rattle.machine_state.proofs.Passing.{Struck}
use Rattle.machine_state.proofs.queue_ok.Given as goal

abbrev pub invariant-loop-slot : goal.invariant-loop-slot
invariant-loop-slot l = record {
  long : length l.rest ≡ most_processors;
  slots : all_below l.slot-index (slot_test l.seats l.q l.fn.queue) ≡ true;
  struck : Struck l.seats l.q l.fn.queue l.slot-index l.rest;
}
