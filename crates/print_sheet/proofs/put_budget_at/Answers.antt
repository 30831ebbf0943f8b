-- There is a line where the processor has users of the resource; budget and wait time are those of the tables.
use Rattle.std.proofs.Common.{arith}
use Rattle.print_text.proofs.TextLaws.{put_wider}
use Rattle.print_sheet.specs.Inner.{budget_room}
use Rattle.print_sheet.proofs.Laws.{budget_out, budget_in}
use Rattle.print_sheet.proofs.put_budget_at.Goals as goal

pub returns-then-users_at-eq0 : goal.returns-then-users_at-eq0
returns-then-users_at-eq0 c =
    let h = c.requires in
    budget_out h.added h.row h.resource c.users_at.ensures c.args.buf.now c.args.at c.if-users_at-eq0.true

pub returns : goal.returns
returns c =
    let h = c.requires in
    let line = put_wider budget_room (rw (c.four.ensures, c.from.ensures, c.from-2.ensures) at c.put_line.ensures) (omega arith) in
    budget_in h.added h.row h.resource c.users_at.ensures c.if-users_at-eq0.false c.budget_at.ensures c.wait_at.ensures line
