use Rattle.std.proofs.Common.{◌≡◌, replicate}
use Rattle.folds.specs.Bytes.{placed_below}
use Rattle.sizes.specs.Sizes.{most_resources}
use Rattle.plan_rules.specs.Rules.{length_of, start_of}
use Rattle.plan_rules.specs.Inner.{digest_of}
use Rattle.plan_rules.proofs.names.digests.Given as goal

abbrev pub invariant-loop-i : goal.invariant-loop-i
invariant-loop-i l =
    (l.at ≡ start_of l.lengths l.i)
    × (l.found ≡ placed_below l.i (λ k. digest_of l.names (start_of l.lengths k) (length_of l.lengths k)) (replicate most_resources 0))
