-- The budgets, and the hold times behind them.
use Rattle.print_text.proofs.TextLaws.{put_in_then}
use Rattle.print_sheet.specs.Sheet.{figure_lines}
use Rattle.print_sheet.proofs.put_figures.Goals as goal

pub returns : goal.returns
unfolding figure_lines
returns c = put_in_then c.put_budgets-a.ensures c.put_holds.ensures
