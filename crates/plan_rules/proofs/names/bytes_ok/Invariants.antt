use Rattle.std.proofs.Common.{◌≡◌, ◌&&◌, leb, get_or}
use Rattle.folds.specs.Below.{all_below}
use Rattle.plan_rules.specs.Rules.{first_byte, last_byte}
use Rattle.plan_rules.proofs.names.bytes_ok.Given as goal

abbrev pub invariant-loop-b : goal.invariant-loop-b
invariant-loop-b l = l.ok ≡ all_below l.b-index (λ k. leb first_byte (get_or l.names k 0) && leb (get_or l.names k 0) last_byte)
