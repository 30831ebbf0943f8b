-- The state that the list of calls returned is answered as the rules say.
use Rattle.std.proofs.Common.{◌∙◌}
use Rattle.machine_calls.specs.Calls.{call_of}
use Rattle.bench_hooks.proofs.After.{number_after}
use Rattle.bench_hooks.proofs.calling.machine_answer.Goals as goal

pub returns : goal.returns
returns c =
    let a = c.args in
    c.bytes_number.ensures ∙ number_after _ (λ i b. (c.type_inv.file i).fits) _ _ c.run-state.ensures (call_of a.letter a.tag a.resource)
