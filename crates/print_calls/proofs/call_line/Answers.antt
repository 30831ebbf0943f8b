-- The number of the plan or of the state comes first. The line is put at the front of a buffer of its own, and handed over from there.
use Rattle.std.proofs.Common.{sym, refl, rules}
use Rattle.std.proofs.lemmas.Result.{err_from_is_err_and}
use Rattle.print_text.proofs.TextLaws.{put_front}
use Rattle.print_text.proofs.Lines.{refused_before, none_before}
use Rattle.print_calls.specs.Calls.{call_line}
use Rattle.print_calls.proofs.call_line.Goals as goal

pub returns-in_err-look : goal.returns-in_err-look
returns-in_err-look c =
    let p = err_from_is_err_and c.from_residual.result c.from_residual.ensures.1 in
    let a = c.args in
    let h = refused_before (call_line a.file.now a.state a.bytes) a.out.now c.in_err-look.field-0.0 c.in_err-look.ensures.number in
    rw (p.1, p.2) (record { number = h.told.number; out_after = h.buffer; length = tt; after = tt })

pub put_call-step-requires : goal.put_call-step-requires
put_call-step-requires c = record { plan = c.in_ok-look.ensures.plan refl; room = search rules }

pub returns-in_err-length : goal.returns-in_err-length
returns-in_err-length c =
    let p = err_from_is_err_and c.from_residual-in_err-length.result c.from_residual-in_err-length.ensures.1 in
    let line = rw (put_front c.put_call-step.ensures.line.put) at c.in_err-length.ensures in
    let h = none_before _ _ (sym c.in_ok-look.ensures.number) (record { told = line.told; buffer = line.out_after }) in
    rw (p.1, p.2) (record { number = h.told.number; out_after = h.buffer; length = tt; after = tt })

pub returns : goal.returns
returns c =
    let line = rw (put_front c.put_call-step.ensures.line.put) at c.in_ok-length.ensures in
    let h = none_before _ _ (sym c.in_ok-look.ensures.number) (record { told = line.told; buffer = line.out_after }) in
    record { number = h.told.number; out_after = h.buffer; length = h.told.given; after = c.put_call-step.ensures.after }
