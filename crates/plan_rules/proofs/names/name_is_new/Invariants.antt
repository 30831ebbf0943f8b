use Rattle.std.proofs.Common.{◌≡◌}
use Rattle.folds.specs.Below.{all_below}
use Rattle.plan_rules.specs.Rules.{start_of, differ}
use Rattle.plan_rules.proofs.names.name_is_new.Given as goal

abbrev pub invariant-loop-j : goal.invariant-loop-j
invariant-loop-j l =
    (l.other ≡ start_of l.lengths l.j)
    × (l.ok ≡ all_below l.j (λ k. differ l.lengths l.names l.i k (start_of l.lengths l.i) (start_of l.lengths k)))
