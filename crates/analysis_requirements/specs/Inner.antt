-- What the private functions of this crate rely on and give. None of this is a rule of document 01; contracts equate it with the equations.
use Rattle.std.specs.Prelude.{ℕ, ◌+◌, ◌/◌, Bool, ◌&&◌, eqb, ltb, ℤ, pos, ◌-ℤ◌}
use Rattle.std.specs.Int.Signed.{le_z}
use Rattle.analysis_requirements.specs.declared.Requirement.{Requirement}

-- precedence b is of a's processor, and lower there
abbrev pub under : ℕ → ℕ → Bool
under a b = eqb (b / 256) (a / 256) && ltb b a

-- B1, B2, a tolerance and a waiting side, with the slack that they leave and whether the side is at most it
abbrev pub comparison : ℕ → ℕ → ℤ → ℕ → Requirement
comparison a b z w =
    record { blocking1 = a; blocking2 = b; tolerance = z; slack = z -ℤ pos (a + b); side = w; met = le_z (pos w) (z -ℤ pos (a + b)) }
