-- The plan's own number comes first. A buffer in which every sheet has room takes it as it is put together; another one by way of a
-- buffer of its own.
use Rattle.std.proofs.Common.{sym, arith, rules}
use Rattle.std.proofs.lemmas.Result.{err_from_is_err_and}
use Rattle.print_text.proofs.Lines.{long_line, refused_before, none_before}
use Rattle.plan.proofs.Laws.{accepted_checked}
use Rattle.print_sheet.specs.Sheet.{sheet_code, sheet_in}
use Rattle.print_sheet.proofs.sheet.Goals as goal

pub returns-in_err-check : goal.returns-in_err-check
unfolding sheet_code sheet_in
returns-in_err-check c =
    let p = err_from_is_err_and c.from_residual.result c.from_residual.ensures.1 in
    let h = refused_before _ _ c.in_err-check.field-0.0 c.in_err-check.ensures in
    rw (p.1, p.2) (record { told = h.told; out_after = h.buffer; length_le_most_sheet = tt })

pub sheet_aside-requires : goal.sheet_aside-requires
sheet_aside-requires c = accepted_checked (record { none = sym c.in_ok-check.ensures; bytes = λ k l. (c.type_inv.file k).fits })

pub returns-then-out-lt-SHEET : goal.returns-then-out-lt-SHEET
unfolding sheet_code sheet_in
returns-then-out-lt-SHEET c =
    let s = c.sheet_aside.ensures in
    let h = none_before _ _ (sym c.in_ok-check.ensures) (record { told = s.line; buffer = s.buffer }) in
    record { told = h.told; out_after = h.buffer; length_le_most_sheet = s.within }

pub put_plan_sheet-length-requires : goal.put_plan_sheet-length-requires
put_plan_sheet-length-requires c =
    (accepted_checked (record { none = sym c.in_ok-check.ensures; bytes = λ k l. (c.type_inv.file k).fits }), search rules)

pub returns : goal.returns
unfolding sheet_code sheet_in
returns c =
    let s = c.put_plan_sheet-length.ensures in
    let l = long_line _ _ (omega (arith, s.put.ends, s.within, c.if-out-lt-SHEET.false)) s.put in
    let h = none_before _ _ (sym c.in_ok-check.ensures) l in
    record { told = h.told; out_after = h.buffer; length_le_most_sheet = s.within }
