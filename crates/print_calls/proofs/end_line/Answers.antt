-- Where nothing is left over there is no line; else it is that of the refusal.
use Rattle.print_calls.proofs.Ground.{eq-eqb, ne_eqb}
use Rattle.print_calls.specs.Output.{end_line}
use Rattle.print_text.proofs.Lines.{no_line_lem}
use Rattle.print_calls.proofs.end_line.Goals as goal

pub returns-then-left-eq0 : goal.returns-then-left-eq0
unfolding end_line
returns-then-left-eq0 c = let h = no_line_lem _ (rw (eq-eqb _ 0 c.if-left-eq0.true)) in record { told = h.told; out_after = h.buffer }

pub returns : goal.returns
unfolding end_line
returns c = rw (ne_eqb _ 0 c.if-left-eq0.false) (rw c.number.ensures at c.refused_line.ensures)
