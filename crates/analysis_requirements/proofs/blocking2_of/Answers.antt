-- A turn adds the term of task j.
use Rattle.analysis_requirements.proofs.Ground.{arith}
use Rattle.analysis_requirements.proofs.Blocking.{blocking2_low, blocking2_step}
use Rattle.analysis_requirements.proofs.blocking2_of.Goals as goal

pub loop-j-preserved : goal.loop-j-preserved
loop-j-preserved c =
    let h = c.requires in
    let j = c.loop-j.j in
    let i = c.loop-j.invariant in
    (blocking2_low h j (omega arith) (cc) (cc) (cc) i.0, blocking2_step h j (omega arith) (cc) (cc) (cc) i.1)
