-- The tables of a state, as the functions have them.
use Rattle.machine_replies.proofs.Ground.{◌≡◌, List, ℕ, length, plan_of, State, Tabled}
use Rattle.machine_state.specs.Inner.{Keys}
use Rattle.machine_replies.specs.Inner.{OnSound}

pub tabled : {f : List ℕ} {s : State} {figures keys seats : List ℕ} → OnSound f s figures seats → Keys (plan_of f) s.tasks keys
    → length s.tasks ≡ 64 → length s.lines ≡ 16 → Tabled (plan_of f) s figures keys seats
tabled o k a b = record { figures_at = o.known.figures; keys_at = k; seats_at = o.seated; tasks_long = a; lines_long = b }
