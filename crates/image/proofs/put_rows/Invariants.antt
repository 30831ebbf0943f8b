-- The first `i` rows stand at the front of the buffer, and what lies behind is as it was.
use Rattle.image.proofs.Ground.{ℕ, List, Rowed}
use Rattle.image.specs.Inner.{PutsRows}
use Rattle.image.proofs.put_rows.Given as goal

abbrev pub invariant-loop-i : goal.invariant-loop-i
invariant-loop-i g l = (f : ℕ → List ℕ) → PutsRows (goal.F-post g l.put) l.n l.width f → Rowed l.n l.width f l.initial.buf l.buf l.i
