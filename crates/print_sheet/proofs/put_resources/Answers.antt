-- What is asked of the closure, its lifetimes first, and that the plan has no more of them.
use Rattle.std.proofs.Common.{rules, of_calls}
use Rattle.print_sheet.proofs.Laws.{few_resources}
use Rattle.print_sheet.proofs.put_resources.Goals as goal

pub put_each-requires : goal.put_each-requires
put_each-requires c κs within = search (rules, of_calls, few_resources)
