use Rattle.std.proofs.Common.{arith}
use Rattle.std.proofs.lemmas.Grind.{common_steps}
use Rattle.machine_steps.proofs.Taken.{ahead_is}
use Rattle.machine_steps.proofs.ahead_of.Goals as goal

pub returns-after-loop-sits : goal.returns-after-loop-sits
returns-after-loop-sits c =
    let i = c.loop-sits.invariant in
    ahead_is _ _ _ _ _ _ (grind (arith, common_steps)) i.1 i.2 i.3 (λ l. grind (arith, common_steps))

pub returns-then-sits-eq0 : goal.returns-then-sits-eq0
returns-then-sits-eq0 c =
    let i = c.loop-sits.invariant in
    ahead_is _ _ _ _ _ _ (grind (arith, common_steps)) i.1 i.2 i.3 (λ l. grind (arith, common_steps))
