-- The front of the buffer is the file that was written, and reading it gives the same plan.
use Rattle.std.proofs.Common.{sym, ◌∙◌, length, length-take-le, arith}
use Rattle.refusals.specs.Refusals.{Told}
use Rattle.refusals.proofs.Laws.{outcome_told, told_as}
use Rattle.plan_writing.specs.Writing.{write_code}
use Rattle.plan_writing.specs.RoundTrip.{read_back}
use Rattle.plan_writing.proofs.Outcome.{code_clear, back_front, back_same}
use Rattle.plan_writing.proofs.read_back.Goals as goal

pub slice_bounds-read-end : goal.slice_bounds-read-end
slice_bounds-read-end c =
    let w = c.in_ok-len.ensures.value in
    omega (arith, c.from.ensures, w.given, (code_clear _ _ _ _ (sym w.number)).fits, c.write.auto.buf)

pub slice_bounds-read-end-2 : goal.slice_bounds-read-end-2
slice_bounds-read-end-2 c = sym (length-take-le _ _ (slice_bounds-read-end c))

pub returns : goal.returns
returns c =
    let a = c.args in
    let w = c.in_ok-len.ensures.value in
    let front = back_front _ _ _ _ (sym w.number) (c.from.ensures ∙ w.given) c.write.ensures.buf_after in
    let same = back_same _ _ _ _ (sym w.number) front in
    let t : Told (write_code a.c a.rows a.names.now (length a.buf.now)) (read_back a.c a.rows) c.read.result =
    told_as _ (same.0 ∙ w.number) same.1 c.read.ensures.value in
    record { value = t; buf_after = c.write.ensures.buf_after; answer_value = outcome_told _ _ t }
