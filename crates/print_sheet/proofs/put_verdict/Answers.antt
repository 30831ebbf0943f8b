-- The requirements, and behind them whether all are met.
use Rattle.print_text.proofs.TextLaws.{put_in_then}
use Rattle.print_sheet.specs.Sheet.{verdict_lines}
use Rattle.print_sheet.proofs.put_verdict.Goals as goal

pub returns : goal.returns
unfolding verdict_lines
returns c =
    let p = c.put_requirements-required.ensures in
    put_in_then p.put (rw p.all at c.put_admitted.ensures)
