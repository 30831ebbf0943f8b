-- The line of bytes left over is short.
use Rattle.std.proofs.Common.{rules, of_calls}
use Rattle.print_calls.specs.Output.{end_line}
use Rattle.streams.proofs.Lines.{line_fits, line_wrote}
use Rattle.mspis.proofs.Lines.{end_short}
use Rattle.mspis.proofs.print_end.Goals as goal

pub print_line-requires-clause-fits : goal.print_line-requires-clause-fits
print_line-requires-clause-fits g c = line_fits (end_line c.args.left) (λ b d r p. search (rules, of_calls))

pub returns : goal.returns
returns g c = line_wrote (end_line c.args.left) (λ b d r p. search (rules, of_calls)) _ _ _ (end_short c.args.left) c.print_line.ensures
