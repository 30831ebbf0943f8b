use Rattle.machine_steps.proofs.Ground.{rules, no_standing, closed_up}
use Rattle.machine_steps.proofs.Rows.{each_from}
use Rattle.machine_steps.proofs.close_up.Goals as goal

pub returns : goal.returns
unfolding closed_up
returns c =
    each_from no_standing _ 64 c.args.tasks _ _ (λ i y q l k. search rules) c.from_fn.result (search rules) c.from_fn.ensures.items
