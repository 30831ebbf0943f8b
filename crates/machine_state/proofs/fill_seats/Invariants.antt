-- The tasks below `u` sit in `seats`.
use Rattle.machine_state.proofs.Ground.{◌≡◌}
use Rattle.machine_state.proofs.Tables.{seats_below}
use Rattle.machine_state.proofs.fill_seats.Given as goal

abbrev pub invariant-loop-u : goal.invariant-loop-u
invariant-loop-u l = l.seats ≡ seats_below l.keys l.u
