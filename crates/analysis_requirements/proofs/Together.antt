-- The figures of a requirement together.
use Rattle.analysis_requirements.proofs.Ground.{ℕ, ◌+◌, Bool, ◌≡◌, Plan, blocking1, waiting_side, slack, met, ℤ, pos}
use Rattle.std.specs.Prelude.{◌-ℤ◌}
use Rattle.std.specs.Int.Signed.{le_z}
use Rattle.analysis_equations.specs.Blocking.{blocking2}
use Rattle.analysis_equations.specs.Requirement.{tolerance}
use Rattle.analysis_requirements.specs.Inner.{comparison}
use Rattle.analysis_requirements.specs.declared.Requirement.{Requirement}
use Rattle.analysis_requirements.specs.Figures.{requirement_of}

pub comparison_told : {a b w : ℕ} {y z r s : ℤ} {m : Bool} → y ≡ z → s ≡ r → r ≡ y -ℤ pos (a + b) → m ≡ le_z (pos w) s
    → record { blocking1 = a; blocking2 = b; tolerance = y; slack = s; side = w; met = m } ≡ comparison a b z w
comparison_told ey es er em = rw (em, es, er, ey)

pub requirement_told : (p : Plan) (i : ℕ) {a b w : ℕ} {z : ℤ} {r : Requirement} → r ≡ comparison a b z w → a ≡ blocking1 p i → b ≡ blocking2 p i
    → z ≡ tolerance p i → w ≡ waiting_side p i → r ≡ requirement_of p i
unfolding requirement_of slack met
requirement_told p i er ea eb ez ew = rw (er, ez, ea, eb, ew)
