-- A byte more is pasted.
use Rattle.folds.proofs.Ground.{add-one, arith, length-set, paste-suc}
use Rattle.print_text.proofs.put.Goals as goal

pub loop-k-preserved : goal.loop-k-preserved
loop-k-preserved c =
    let a = c.args in
    let i = c.loop-k.invariant in (
      rw (i.0, add-one) (paste-suc a.buf.now a.at a.text.now c.loop-k.k 0 (omega (arith, c.loop-k-test.true)) (omega (arith, c.requires, c.loop-k-test.true))),
      simp length-set i.1,
    )
