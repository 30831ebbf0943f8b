use Rattle.std.proofs.lemmas.List.{length_push}
use Rattle.machine.proofs.Ground.{◌∙◌, arith}
use Rattle.machine.proofs.Bytes.{passed_none, passed_more, passed_all}
use Rattle.machine.proofs.Kept.{ran}
use Rattle.machine.proofs.run_from.Goals as goal

pub loop-call-init : goal.loop-call-init
loop-call-init c =
    let e = c.into_iter-call-iterator.ensures.into_iter_gives in
    let i = c.chunks_exact-call-items.ensures in
    (rw e i.size, rw (e, i.rest) (passed_none _ _ _))

pub loop-call-preserved : goal.loop-call-preserved
loop-call-preserved c =
    let s = c.in-Some.ensures.steps in
    let i = c.loop-call.invariant in
    (s.0 ∙ i.0, passed_more _ _ _ _ i.1 s.1.0 (s.1.1 ∙ i.0) c.bytes_at.ensures c.after-state.ensures (length_push _ _))

pub returns : goal.returns
returns c =
    let i = c.loop-call.invariant in
    ran _ (λ k b. (c.type_inv.file k).fits) c.args.start (omega arith) _ _ (passed_all _ _ _ i.1 (omega (arith, c.in-None.ensures.steps.1.0, i.0)))
