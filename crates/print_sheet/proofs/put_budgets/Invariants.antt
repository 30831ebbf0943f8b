-- The texts are the lines of the processors.
use Rattle.sizes.specs.Sizes.{most_processors}
use Rattle.print_sheet.specs.Inner.{budgets_of_room}
use Rattle.print_sheet.specs.Sheet.{budget_lines_of}
use Rattle.print_sheet.proofs.put_budgets.Given as goal

abbrev pub ghost-put_each : goal.ghost-put_each
ghost-put_each a = record { text = budget_lines_of a.put.0.now; width = budgets_of_room; most = most_processors }
