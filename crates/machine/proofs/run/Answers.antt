use Rattle.machine.proofs.Kept.{fresh_ran}
use Rattle.machine.proofs.run.Goals as goal

pub returns : goal.returns
returns c = fresh_ran _ (λ i b. (c.type_inv.file i).fits) _ _ (rw c.fresh.ensures at c.run_from.ensures)
