-- The texts are the lines of the resources, for one task.
use Rattle.sizes.specs.Sizes.{most_resources}
use Rattle.print_sheet.specs.Inner.{hold_room}
use Rattle.print_sheet.specs.Sheet.{hold_line_at}
use Rattle.print_sheet.proofs.put_holds_of.Given as goal

abbrev pub ghost-put_each : goal.ghost-put_each
ghost-put_each a = record { text = hold_line_at a.put.1.now a.put.0.now; width = hold_room; most = most_resources }
