-- The line of a refusal is short.
use Rattle.std.proofs.Common.{rules, of_calls}
use Rattle.print_lines.specs.Lines.{refused_line}
use Rattle.streams.proofs.Lines.{line_fits, line_wrote, refused_short}
use Rattle.streams.proofs.print_refused.Goals as goal

pub print_line-requires-clause-fits : goal.print_line-requires-clause-fits
print_line-requires-clause-fits g c = line_fits (refused_line c.args.number) (λ b d r p. search (rules, of_calls))

pub returns : goal.returns
returns g c = line_wrote (refused_line c.args.number) (λ b d r p. search (rules, of_calls)) _ _ _ (refused_short c.args.number) c.print_line.ensures
