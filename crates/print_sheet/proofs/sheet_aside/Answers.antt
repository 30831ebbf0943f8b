-- The sheet is put at the front of a buffer of its own, and handed over from there.
use Rattle.std.proofs.Common.{ℕ, ◌≤◌, arith}
use Rattle.refusals.proofs.Laws.{told_ok}
use Rattle.print_text.proofs.TextLaws.{put_front}
use Rattle.print_sheet.specs.Sheet.{most_sheet}
use Rattle.print_sheet.proofs.sheet_aside.Goals as goal

pub returns : goal.returns
returns c =
    let p = c.put_plan_sheet-end.ensures in
    let h = rw (put_front p.put) at c.hand_over.ensures in
    record { line = h.told; buffer = h.out_after; within = told_ok (λ (n : ℕ). n ≤ most_sheet) _ h.told (λ e. omega (arith, p.put.ends, p.within)) }
