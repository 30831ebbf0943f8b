use Rattle.machine_state.proofs.Ground.{true, ◌≡◌, get_or, all_below, no_line, line_test}
use Rattle.machine_state.proofs.lines_ok.Given as goal

abbrev pub invariant-loop-q : goal.invariant-loop-q
invariant-loop-q l = all_below l.q (λ k. line_test l.figures l.seats k (get_or l.fn.lines k no_line)) ≡ true
