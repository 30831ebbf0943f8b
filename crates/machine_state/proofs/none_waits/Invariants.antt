use Rattle.machine_state.proofs.Ground.{◌≡◌, eqb, all_below, first_seat}
use Rattle.machine_state.proofs.none_waits.Given as goal

abbrev pub invariant-loop-k : goal.invariant-loop-k
invariant-loop-k l = l.ok ≡ all_below l.k (λ i. eqb (first_seat l.seats l.q i) 0)
