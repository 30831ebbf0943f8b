-- One part behind the other.
use Rattle.std.proofs.Common.{arith}
use Rattle.print_text.proofs.TextLaws.{put_in_then, put_wider}
use Rattle.print_sheet.specs.Sheet.{plan_sheet, most_sheet}
use Rattle.print_sheet.proofs.Laws.{plan_counts}
use Rattle.print_sheet.proofs.put_parts.Goals as goal

pub returns : goal.returns
unfolding plan_sheet
returns c =
    let plan = plan_counts _ c.counts.result c.counts.ensures c.put_plan-a.ensures in
    let figures = put_in_then (put_in_then plan c.put_resources-b.ensures) c.put_figures-c.ensures in
    put_wider most_sheet (put_in_then figures c.put_verdict.ensures) (omega arith)
