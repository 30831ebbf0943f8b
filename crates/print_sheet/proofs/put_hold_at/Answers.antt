-- The table has 0 exactly where there is no line.
use Rattle.std.proofs.Common.{arith}
use Rattle.print_text.proofs.TextLaws.{put_wider}
use Rattle.print_sheet.specs.Inner.{hold_room}
use Rattle.print_sheet.proofs.Laws.{hold_out, shares, hold_in}
use Rattle.print_sheet.proofs.put_hold_at.Goals as goal

pub returns-then-hold-eq0 : goal.returns-then-hold-eq0
returns-then-hold-eq0 c =
    let h = c.requires in
    hold_out h.added h.row h.resource c.hold_at-hold.ensures c.args.buf.now c.args.at c.if-hold-eq0.true

pub longest_of-longest-requires : goal.longest_of-longest-requires
longest_of-longest-requires c =
    let h = c.requires in
    shares h.added h.row h.resource c.hold_at-hold.ensures c.if-hold-eq0.false

pub returns : goal.returns
returns c =
    let h = c.requires in
    let o = c.longest_of-longest.ensures in
    let line = put_wider hold_room (rw (c.from.ensures, c.from-2.ensures, c.from-3.ensures) at c.put_line.ensures) (omega arith) in
    hold_in h.added h.row h.resource c.hold_at-hold.ensures c.if-hold-eq0.false c.task.ensures o.0 o.1 line
