-- The tasks below `u` are in the table.
use Rattle.image.proofs.Ground.{◌+◌, ◌≡◌, replicate, most_resources, absent, plan_of, key_at}
use Rattle.folds.proofs.Arrays.{stamped_below}
use Rattle.image.proofs.holders_of.Given as goal

abbrev pub invariant-loop-u : goal.invariant-loop-u
invariant-loop-u l = l.holders ≡ stamped_below l.u (key_at (plan_of l.file) l.state) (λ k. k) (replicate (most_resources + 1) absent)
