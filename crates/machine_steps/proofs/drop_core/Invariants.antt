-- The slots passed have what stands there without k, and `past` tells whether k stood in one of them.
use Rattle.machine_steps.proofs.Ground.{◌≡◌, eqb, get_or, replicate, any_below, placed_below, besides}
use Rattle.machine_steps.proofs.drop_core.Given as goal

abbrev pub invariant-loop-j : goal.invariant-loop-j
invariant-loop-j l =
    (l.past ≡ any_below l.j (λ i. eqb (get_or l.line.queue i 0) l.k))
    × (l.queue ≡ placed_below l.j (besides l.line.queue l.k) (replicate 8 255))
