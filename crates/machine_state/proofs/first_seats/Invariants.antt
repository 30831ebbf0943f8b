use Rattle.machine_state.proofs.Ground.{ℕ, ◌<◌, ◌≡◌, get_or, first_seat}
use Rattle.machine_state.proofs.first_seats.Given as goal

abbrev pub invariant-loop-k : goal.invariant-loop-k
invariant-loop-k l = (i : ℕ) → i < l.k → get_or l.first i 0 ≡ first_seat l.seats l.q i
