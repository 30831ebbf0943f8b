-- The names that the proofs of this crate share, by one module: a definition that moves is named anew here alone.
pub use Rattle.folds.proofs.Ground.{Bool, List, [], ◌%◌, ◌*◌, ◌++◌, ◌+◌, ◌-◌, ◌/◌, ◌<◌, ◌^◌, ◌∙◌, ◌∷◌, ◌≡◌, ◌≤◌, add-one, add-zero, ap}
pub use Rattle.folds.proofs.Ground.{append_assoc, arith, cond, drop, false, length, ltb-true, not-suc-le-zero, refl, suc}
pub use Rattle.folds.proofs.Ground.{sym, take, take-append-drop, true, zero, zero-add, ℕ}
pub use Rattle.print_text.specs.Text.{Put, PutIn, decimal, quoted, signed}
unfoldable pub use Rattle.print_text.specs.Text.{decimals, places_to}
pub use lib.IntN.{nat_abs, negsuc, pos, ℤ}
pub use mir.Syntax.{w64}
pub use mir.Val.{SFits, of_z, to_z}
pub use mir.Facts.{to_z-of_z}
pub use lib.Signed.{lt_z}
