use Rattle.std.proofs.Common.{◌≡◌, eqb, not, get_or}
use Rattle.folds.specs.Below.{all_below}
use Rattle.plan_rules.proofs.names.digest_is_new.Given as goal

abbrev pub invariant-loop-j : goal.invariant-loop-j
invariant-loop-j l = l.ok ≡ all_below l.j (λ k. not (eqb l.own (get_or l.found k 0)))
