-- The texts are the lines of the tasks.
use Rattle.sizes.specs.Sizes.{most_tasks}
use Rattle.print_sheet.specs.Inner.{holds_of_room}
use Rattle.print_sheet.specs.Sheet.{hold_lines_of}
use Rattle.print_sheet.proofs.put_holds.Given as goal

abbrev pub ghost-put_each : goal.ghost-put_each
ghost-put_each a = record { text = hold_lines_of a.put.0.now; width = holds_of_room; most = most_tasks }
