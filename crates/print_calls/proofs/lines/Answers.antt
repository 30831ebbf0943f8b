-- The number told comes first. A turn of the loop makes one call more.
use Rattle.std.proofs.Common.{◌∙◌, refl, sym, inl, inr, arith, rules}
use Rattle.print_calls.proofs.Batches.{written_none, written_step, rest_step, plan_refused, lines_refused, told_lines}
use Rattle.std.proofs.lemmas.Result.{err_from_is_err_and}
use Rattle.print_calls.proofs.lines.Goals as goal

pub returns-in_err-look : goal.returns-in_err-look
returns-in_err-look c =
    let p = err_from_is_err_and c.from_residual.result c.from_residual.ensures.1 in
    rw (p.1, p.2) (plan_refused _ _ c.args.calls.now _ c.in_err-look.field-0.0 c.in_err-look.ensures.number)

pub returns-in_err-check_lines : goal.returns-in_err-check_lines
returns-in_err-check_lines c =
    let p = err_from_is_err_and c.from_residual-in_err-check_lines.result c.from_residual-in_err-check_lines.ensures.1 in
    rw (p.1, p.2) (lines_refused _ _ c.args.calls.now _ c.in_err-check_lines.field-0.0 c.in_ok-look.ensures.number c.in_err-check_lines.ensures)

pub loop-call-init : goal.loop-call-init
loop-call-init c =
    record {
      plan = c.in_ok-look.ensures.plan refl;
      written = written_none _ _ _ _;
      begun = inl (refl, refl);
      width = search rules;
      rest = search rules;
    }

pub loop-call-preserved : goal.loop-call-preserved
loop-call-preserved c =
    let i = c.loop-call.invariant in
    let s = c.in-Some.ensures.steps in
    let e = sym i.rest ∙ s.1.0 in
    record {
      plan = i.plan;
      written = written_step c.args.calls.now c.loop-call.used _ _ e (s.1.1 ∙ i.width) c.args.file.now c.args.state c.args.out.now i.written (omega arith) (search rules) c.bytes_at-bytes.ensures c.put_call-step.ensures;
      begun = inr (omega arith);
      width = s.0 ∙ i.width;
      rest = rest_step c.args.calls.now c.loop-call.used _ _ e (s.1.1 ∙ i.width);
    }

pub returns-then-out-end-lt-LINE : goal.returns-then-out-end-lt-LINE
returns-then-out-end-lt-LINE c =
    let i = c.loop-call.invariant in
    told_lines _ _ c.args.calls.now _ c.in_ok-look.ensures.number c.in_ok-check_lines.ensures i.written i.begun (inr (omega arith))
