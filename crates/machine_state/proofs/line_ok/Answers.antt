-- Where the queue has passed, the clock's test can read the head and its first task.
use Rattle.std.proofs.lemmas.Grind.{common_steps}
use Rattle.machine_state.proofs.Ground.{true, ◌≡◌, arith, queue_test}
use Rattle.machine_state.proofs.Passing.{head_passed}
use Rattle.machine_state.proofs.line_ok.Goals as goal

pub clock_ok-requires : goal.clock_ok-requires
clock_ok-requires c =
    let passed : queue_test c.args.seats.now c.args.q c.args.line.queue c.args.line.queued ≡ true = grind (arith, common_steps) in
    record { tables = c.requires; head = head_passed _ _ _ passed }
