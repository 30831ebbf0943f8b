-- The names that the proofs of this crate share, by one module: a definition that moves is named anew here alone.
pub use Rattle.folds.proofs.Ground.{Bool, List, ◌&&◌, ◌*◌, ◌+◌, ◌-◌, ◌<◌, ◌∙◌, ◌≡◌, ◌≤◌, add_assoc, arith, eq-eqb, eqb, get_or, leb, length}
pub use Rattle.folds.proofs.Ground.{not, refl, replicate, sym, true, ℕ}
unfoldable pub use Rattle.folds.specs.Below.{sum_below}
unfoldable pub use Rattle.folds.specs.Bytes.{number}
pub use Rattle.sizes.specs.Sizes.{most_name_bytes, most_resources}
pub use Rattle.plan_rules.specs.Rules.{length_of, start_of}
unfoldable pub use Rattle.plan_rules.specs.Rules.{differ, lengths_ok, name_new, names_differ, names_ok, same_bytes}
unfoldable pub use Rattle.plan_rules.specs.Inner.{digest_of, digests_of, number_new, numbers_differ}
