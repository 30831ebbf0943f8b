use Rattle.std.proofs.lemmas.Grind.{common_steps}
use Rattle.machine_state.proofs.Ground.{refl, get_or-replicate, arith, most_tasks, no_seat, key_of}
use Rattle.machine_state.proofs.Tables.{few_tasks}
use Rattle.machine_state.proofs.key_table.Goals as goal
use Rattle.machine_state.proofs.key_table.Goals.{then-s, else-s}

pub loop-u-init : goal.loop-u-init
loop-u-init c = record { long = refl; at = λ v l. absurd (omega arith); rest = λ v l m. get_or-replicate most_tasks v no_seat 0 l }

pub loop-u-preserved : goal.loop-u-preserved
unfolding key_of
loop-u-preserved c =
    elim c.if-s.branch [ then-s w ↦ grind (arith, common_steps, few_tasks) | else-s w ↦ grind (arith, common_steps, few_tasks) ]
