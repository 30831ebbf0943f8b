-- A call more, and the calls passed are all.
use Rattle.image_calls.proofs.Ground.{arith}
use Rattle.image_calls.proofs.Bytes.{all_left}
use Rattle.image_calls.proofs.Kept.{image_ran}
use Rattle.image_calls.proofs.run.Goals as goal

pub returns : goal.returns
returns c = image_ran _ _ (λ i l. (c.type_inv.file i).fits) _ _ (all_left _ _ _ c.loop-x.x (omega arith) c.loop-x.invariant)
