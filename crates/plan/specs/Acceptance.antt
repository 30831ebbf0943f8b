-- Document 01, "What each operation refuses, in order": why a plan is refused.
use Rattle.std.specs.Prelude.{ℕ, ◌<◌, List, ◌≡◌, length, get_or}
use Rattle.plan_reading.specs.Checks.{check_code}

-- why a plan is refused, 0 where it is accepted: today exactly checks 1 to 9
unfoldable pub refusal : List ℕ → ℕ
refusal f = check_code f

-- a file of bytes whose plan is accepted
pub record Accepted (f : List ℕ) : Type 0 where
  pub none : refusal f ≡ 0
  pub bytes : (k : ℕ) → k < length f → get_or f k 0 < 256
