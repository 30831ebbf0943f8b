-- The texts of the numbers below `k` stand in the buffer.
use Rattle.print_text.proofs.Turns.{PutBelow}
use Rattle.print_sheet.proofs.put_each.Given as goal

abbrev pub invariant-loop-k : goal.invariant-loop-k
invariant-loop-k g l = PutBelow l.fn.buf l.buf l.at g.texts.width g.texts.most l.n l.k g.texts.text l.end
