-- The first `k` bytes of the text stand in the buffer at `at`, and the rest of it is as it was.
use Rattle.std.proofs.Common.{◌≡◌, length}
use Rattle.folds.proofs.Ground.{paste}
use Rattle.print_text.proofs.put.Given as goal

abbrev pub invariant-loop-k : goal.invariant-loop-k
invariant-loop-k l = (l.buf ≡ paste l.fn.buf l.at l.text l.k) × (length l.buf ≡ length l.fn.buf)
