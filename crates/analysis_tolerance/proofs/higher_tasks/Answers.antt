-- Task j is taken where it is above task i, by the precedences.
use Rattle.analysis_tolerance.proofs.Ground.{◌≡◌, arith, plan_of, valid_plan, processor_of}
use Rattle.analysis_tolerance.proofs.Precedences.{table_above}
use Rattle.analysis_tolerance.proofs.Demand.{higher_taken, higher_skipped}
use Rattle.analysis_tolerance.proofs.higher_tasks.Goals as goal
use Rattle.analysis_tolerance.proofs.higher_tasks.Goals.{then-mine-theirs, else-mine-theirs}

pub loop-j-preserved : goal.loop-j-preserved
loop-j-preserved c =
    let h = c.requires in
    let i = c.loop-j.invariant in
    let above = table_above _ (valid_plan _ h.plan) _ h.terms _ c.loop-j.j h.task (omega arith) in
    let same : c.from.result ≡ processor_of (plan_of c.args.file.now) c.args.i = cc in
    elim c.if-mine-theirs.branch [
      | then-mine-theirs w ↦ rw (w.count-is, w.periods-is, w.times-is) (higher_taken i (cc) (cc) (cc))
      | else-mine-theirs w ↦ rw (w.count-is, w.periods-is, w.times-is) (higher_skipped i (cc))
    ]
