use Rattle.machine_state.proofs.Ground.{◌≡◌, get_or, all_below, standing, task_test}
use Rattle.machine_state.proofs.tasks_ok.Given as goal

abbrev pub invariant-loop-u : goal.invariant-loop-u
invariant-loop-u l = l.ok ≡ all_below l.u (λ v. task_test l.figures l.seats (standing l.fn.tasks v) (get_or l.keys v 0) v)
