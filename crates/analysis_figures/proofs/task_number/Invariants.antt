-- No task passed has the tag.
use Rattle.std.proofs.Common.{◌≡◌, true, not, eqb}
use Rattle.folds.specs.Below.{all_below}
use Rattle.plan_reading.specs.Plan.{plan_of}
use Rattle.analysis_figures.proofs.task_number.Given as goal

abbrev pub invariant-loop-j : goal.invariant-loop-j
invariant-loop-j l = all_below l.j (λ k. not (eqb ((plan_of l.file).task k).tag l.tag)) ≡ true
