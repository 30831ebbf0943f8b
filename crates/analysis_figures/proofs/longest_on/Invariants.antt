-- `best` is the longest of the sections passed that are the task's on `q`.
use Rattle.std.proofs.Common.{◌≡◌, cond}
use Rattle.folds.specs.Below.{max_below}
use Rattle.plan_reading.specs.Plan.{plan_of}
use Rattle.analysis_equations.specs.Sharing.{section_on}
use Rattle.analysis_figures.proofs.longest_on.Given as goal

abbrev pub invariant-loop-s : goal.invariant-loop-s
invariant-loop-s l =
    l.best ≡ max_below l.s (λ k. cond (section_on (plan_of l.file) l.i l.q k) ((plan_of l.file).section k).length 0)
