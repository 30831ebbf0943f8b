-- The line of a plan is short.
use Rattle.std.proofs.Common.{rules, of_calls}
use Rattle.print_lines.specs.Lines.{plan_line}
use Rattle.streams.proofs.Lines.{line_fits, line_wrote, plan_short}
use Rattle.mspis.proofs.print_plan.Goals as goal

pub print_line-requires-clause-fits : goal.print_line-requires-clause-fits
print_line-requires-clause-fits g c = line_fits (plan_line c.args.counts) (λ b d r p. search (rules, of_calls))

pub returns : goal.returns
returns g c = line_wrote (plan_line c.args.counts) (λ b d r p. search (rules, of_calls)) _ _ _ (plan_short c.args.counts) c.print_line.ensures
