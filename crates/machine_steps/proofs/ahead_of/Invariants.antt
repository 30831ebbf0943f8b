-- The seats passed are taken, and the hold times of those who sit there are summed.
use Rattle.std.proofs.Common.{◌≡◌, ◌≢◌, ◌<◌, ◌≤◌, ◌*◌, ℕ, get_or}
use Rattle.folds.specs.Below.{sum_below}
use Rattle.machine_state.specs.Inner.{seat}
use Rattle.machine_steps.specs.Inner.{hold_of}
use Rattle.machine_steps.proofs.ahead_of.Given as goal

abbrev pub invariant-loop-sits : goal.invariant-loop-sits
invariant-loop-sits l =
    (l.count ≡ l.sits-index)
    × (l.holds ≡ sum_below l.count (hold_of l.figures l.seats l.q l.k))
    × (l.holds ≤ l.count * 65535)
    × ((j : ℕ) → j < l.count → get_or l.seats (seat l.q l.k j) 0 ≢ 0)
