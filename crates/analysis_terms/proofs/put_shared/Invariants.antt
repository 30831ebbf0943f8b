-- The flags of the resources below `q` are in place.
use Rattle.plan_reading.specs.Plan.{plan_of}
use Rattle.analysis_terms.specs.Inner.{TermsBelow}
use Rattle.analysis_terms.proofs.put_shared.Given as goal

abbrev pub invariant-loop-q : goal.invariant-loop-q
invariant-loop-q l = TermsBelow (plan_of l.file) l.q 0 0 0 l.terms
