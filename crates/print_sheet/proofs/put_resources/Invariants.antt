-- The texts are the lines of the resources.
use Rattle.sizes.specs.Sizes.{most_resources}
use Rattle.print_sheet.specs.Inner.{resource_room}
use Rattle.print_sheet.specs.Sheet.{resource_at}
use Rattle.print_sheet.proofs.put_resources.Given as goal

abbrev pub ghost-put_each : goal.ghost-put_each
ghost-put_each a = record { text = resource_at a.put.0.now; width = resource_room; most = most_resources }
