-- The names that the proofs of this crate share, by one module: a definition that moves is named anew here alone.
pub use Rattle.folds.proofs.Ground.{List, ◌+◌, ◌∷◌, ◌≡◌, ◌≤◌, arith, length, refl, ℕ}
pub use Rattle.print_text.proofs.TextLaws.{put_in, put_in_then}
pub use Rattle.print_lines.specs.declared.Field.TheVariants.{Number, Signed}
pub use Rattle.print_lines.specs.Inner.{field_text}
