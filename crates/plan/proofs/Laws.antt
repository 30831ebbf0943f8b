-- What an accepted plan file passed, and what reading one tells.
use Rattle.std.proofs.Common.{ℕ, ◌≡◌, List}
use Rattle.plan_reading.specs.Checks.{check_code}
use Rattle.plan_reading.specs.Plan.{plan_of, Checked, Valid}
use Rattle.plan_reading.proofs.Laws.{valid_plan}
use Rattle.plan.specs.Acceptance.{refusal, Accepted}

-- a plan that is not refused passed checks 1 to 9
pub none_failed : (f : List ℕ) → refusal f ≡ 0 → check_code f ≡ 0
unfolding refusal
none_failed f e = e

-- so a file whose plan is accepted is a checked one
pub accepted_checked : {f : List ℕ} → Accepted f → Checked f
accepted_checked {f} a = record { none = none_failed f a.none; bytes = a.bytes }

-- and its plan keeps the rules
pub accepted_valid : {f : List ℕ} → Accepted f → Valid (plan_of f)
accepted_valid {f} a = valid_plan f (accepted_checked a)
