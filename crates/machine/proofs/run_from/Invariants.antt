-- The state is what the operations return after the calls passed.
use Rattle.machine.proofs.Ground.{◌≡◌, length}
use Rattle.machine.proofs.Bytes.{Passed}
use Rattle.machine.proofs.run_from.Given as goal

abbrev pub invariant-loop-call : goal.invariant-loop-call
invariant-loop-call l = (l.call-iterator.size ≡ 3) × Passed l.file l.calls l.fn.start (length l.yielded) l.call-iterator.rest.now l.state
