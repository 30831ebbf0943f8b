use Rattle.machine_steps.proofs.Ground.{Bool, true, false, ◌≡◌, refl, arith, rules, ne_eqb, lt-ltb, on_eq, Standing, no_standing, closed, fallen, lowered}
use Rattle.machine_steps.proofs.Rows.{each_from}
use Rattle.machine_steps.proofs.lower.Goals as goal

-- the first of a queue is that in place 0
fallen_closed : (on : Bool) (s : Standing) → fallen on s ≡ closed on 0 s
unfolding fallen closed
fallen_closed false s = refl
fallen_closed true s =
    on_eq (fallen true s ≡ closed true 0 s) s.place 0 (λ e. rw e) (λ n. rw (ne_eqb s.place 0 n, lt-ltb 0 s.place (omega arith)))

pub returns : goal.returns
unfolding lowered
returns c =
    each_from no_standing _ 64 c.args.tasks _ _ (λ i y q l k. rw fallen_closed (search rules)) c.from_fn.result (search rules) c.from_fn.ensures.items
