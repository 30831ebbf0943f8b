-- The sum over the tasks below `j`, each term in its range.
use Rattle.analysis_requirements.proofs.Ground.{◌*◌, ◌≤◌, ◌≡◌, sum_below, plan_of, most_blocking1}
use Rattle.analysis_requirements.proofs.Blocking.{term}
use Rattle.analysis_requirements.proofs.blocking2_of.Given as goal

abbrev pub invariant-loop-j : goal.invariant-loop-j
invariant-loop-j l = (l.sum ≤ l.j * most_blocking1) × (l.sum ≡ sum_below l.j (term (plan_of l.file) l.i))
