-- The texts are the lines of the resources, for one processor.
use Rattle.sizes.specs.Sizes.{most_resources}
use Rattle.print_sheet.specs.Inner.{budget_room}
use Rattle.print_sheet.specs.Sheet.{budget_at}
use Rattle.print_sheet.proofs.put_budgets_of.Given as goal

abbrev pub ghost-put_each : goal.ghost-put_each
ghost-put_each a = record { text = budget_at a.put.1.now a.put.0.now; width = budget_room; most = most_resources }
