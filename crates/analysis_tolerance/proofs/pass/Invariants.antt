-- The tasks below k are counted.
use Rattle.analysis_tolerance.proofs.Ground.{◌≡◌, added_at, ends_after}
use Rattle.analysis_tolerance.proofs.pass.Given as goal

abbrev pub invariant-loop-k : goal.invariant-loop-k
invariant-loop-k l = (l.ends ≡ ends_after l.periods l.initial.ends l.k l.t) × (l.added ≡ added_at l.times l.initial.ends l.k l.t)
