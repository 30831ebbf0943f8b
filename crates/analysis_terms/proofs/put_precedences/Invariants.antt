-- The precedences of the tasks below `j` are there.
use Rattle.sizes.specs.Sizes.{most_resources}
use Rattle.plan_reading.specs.Plan.{plan_of}
use Rattle.analysis_terms.specs.Inner.{TermsBelow}
use Rattle.analysis_terms.proofs.put_precedences.Given as goal

abbrev pub invariant-loop-j : goal.invariant-loop-j
invariant-loop-j l = TermsBelow (plan_of l.file) most_resources l.j 0 0 l.terms
