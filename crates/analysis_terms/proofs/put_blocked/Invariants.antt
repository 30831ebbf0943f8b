-- What blocks each task is gathered of the sections below `s`.
use Rattle.sizes.specs.Sizes.{most_resources}
use Rattle.plan_reading.specs.Plan.{plan_of}
use Rattle.analysis_terms.specs.Inner.{TermsBelow}
use Rattle.analysis_terms.proofs.put_blocked.Given as goal

abbrev pub invariant-loop-s : goal.invariant-loop-s
invariant-loop-s l = TermsBelow (plan_of l.file) most_resources (plan_of l.file).tasks (plan_of l.file).sections l.s l.terms
