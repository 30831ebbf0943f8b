-- The state that the list of calls returned has the rows that the rules tell.
use Rattle.std.proofs.Common.{◌∙◌}
use Rattle.bench_hooks.proofs.After.{row_after}
use Rattle.bench_hooks.proofs.calling.machine_row.Goals as goal

pub returns : goal.returns
returns c = c.row_number.ensures ∙ row_after _ (λ i b. (c.type_inv.file i).fits) _ _ c.run-state.ensures c.args.x
