-- What is asked of the closure, its lifetimes first, and that the plan has no more of them.
use Rattle.std.proofs.Common.{rules, of_calls}
use Rattle.print_sheet.proofs.Laws.{few_tasks}
use Rattle.print_sheet.proofs.put_holds.Goals as goal

pub put_each-requires : goal.put_each-requires
put_each-requires c κs within =
    (search rules depth 9, (search rules, (λ b d e k r lk p. search (rules, of_calls), (search (rules, few_tasks), search rules))))
