-- The values that are written are those of the file that was read, so what is written is that file.
use Rattle.std.proofs.Common.{sym, ◌∙◌, length, arith}
use Rattle.refusals.specs.Refusals.{Told}
use Rattle.refusals.proofs.Laws.{outcome_told, told_as}
use Rattle.plan_writing.specs.RoundTrip.{copy_refusal}
use Rattle.plan_writing.proofs.Outcome.{names_start, names_inside, copy_so}
use Rattle.plan_writing.proofs.copy.Goals as goal

pub slice_bounds-write-count : goal.slice_bounds-write-count
slice_bounds-write-count c =
    let found = c.in_ok-found.ensures.value in
    omega (arith, names_start _ _ _ found.given c.names_at-names_at.ensures, names_inside _ (sym found.number))

pub slice_bounds-write-start : goal.slice_bounds-write-start
slice_bounds-write-start c =
    let found = c.in_ok-found.ensures.value in
    omega (arith, names_start _ _ _ found.given c.names_at-names_at.ensures, names_inside _ (sym found.number))

pub returns : goal.returns
returns c =
    let file = c.args.file.now in
    let found = c.in_ok-found.ensures.value in
    let same = copy_so file (λ i. (c.type_inv.file i).fits) (sym found.number) _ _ c.args.buf.now found.given c.names_at-names_at.ensures in
    let t : Told (copy_refusal file (length c.args.buf.now)) (length file) c.write.result = told_as _ same.code same.size c.write.ensures.value in
    record { value = t; buf_after = c.write.ensures.buf_after ∙ same.buffer; result_value = outcome_told _ _ t }
