-- The slots by their number, then the rest as it stands.
use Rattle.machine_state.proofs.Ground.{refl, arith, rules, free_test}
use Rattle.machine_state.proofs.Numbers.{le_bytes, whole_tail}
use Rattle.machine_state.proofs.free_ok.Goals as goal

pub returns : goal.returns
unfolding free_test
returns c =
    let queue = c.args.line.queue in
    rw (le_bytes queue c.from_le_bytes.ensures, c.none_waits.ensures, whole_tail queue (λ k l. search rules) 0 (omega arith) refl)
