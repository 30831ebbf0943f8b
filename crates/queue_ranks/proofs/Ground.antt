-- The names that the proofs of this crate share, by one module: a definition that moves is named anew here alone.
pub use Rattle.folds.proofs.Ground.{Bool, List, [], ◌++◌, ◌+◌, ◌-◌, ◌<◌, ◌∙◌, ◌∷◌, ◌≡◌, ◌≢◌, ◌≤◌, add-one, ap, ap₂, arith, cond, eq-eqb}
pub use Rattle.folds.proofs.Ground.{eqb, eqb-true, le_antisymm, le-leb, lt-leb, ne_eqb, refl, suc, sym, zero, ℕ}
unfoldable pub use Rattle.folds.specs.Below.{max_below}
pub use Rattle.folds.proofs.Figures.{max_at, max_bound}
pub use Rattle.folds.proofs.Searches.{find_same, on_eq, on_le}
pub use Rattle.folds.proofs.Arrays.{by_eq}
pub use Rattle.queue_rules.specs.Rules.{Terms, Turn, line, turn}
pub use Rattle.queue_rules.proofs.Sound.{Clock}
pub use Rattle.queue_ranks.specs.Ranks.{others_of, queue_from, task_ranked, turn_of}
unfoldable pub use Rattle.queue_ranks.specs.Ranks.{list_from}
