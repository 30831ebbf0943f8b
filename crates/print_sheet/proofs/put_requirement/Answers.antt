-- The last field is one of two words.
use Rattle.std.proofs.Common.{arith, rules}
use Rattle.std.proofs.lemmas.Int.{to_z-of_z}
use mir.Syntax.{w64}
use mir.Val.{SFits}
use Rattle.print_lines.specs.declared.Word.TheVariants.{Met, Unmet}
use Rattle.print_text.proofs.TextLaws.{put_wider}
use Rattle.print_sheet.specs.Inner.{requirement_room}
use Rattle.print_sheet.proofs.Laws.{either_text}
use Rattle.print_sheet.proofs.put_requirement.Goals as goal

pub returns : goal.returns
returns c =
    let found = c.args.found in
    let s : SFits w64 found.tolerance = search rules in
    let t : SFits w64 found.slack = search rules in
    let numbers = rw (c.from.ensures, c.from-2.ensures, c.from-3.ensures, to_z-of_z w64 _ s, to_z-of_z w64 _ t) at c.put_line.ensures in
    put_wider requirement_room (rw (c.either-met.ensures, either_text found.met Met Unmet) at numbers) (omega arith)
