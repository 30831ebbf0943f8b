-- The names that the proofs of this crate share, by one module: a definition that moves is named anew here alone.
pub use Rattle.folds.proofs.Ground.{Bool, List, [], ◌&&◌, ◌*◌, ◌++◌, ◌+◌, ◌-◌, ◌<◌, ◌||◌, ◌∙◌, ◌∷◌, ◌≡◌, ◌≤◌, ap, arith, cond, eq-eqb, eqb}
pub use Rattle.folds.proofs.Ground.{eqb-false, eqb-true, false, length, ne_eqb, not, or_assoc, or-false, or-true, refl, sym, true}
pub use Rattle.folds.proofs.Ground.{true≢false, ℕ}
pub use Rattle.folds.proofs.Arrays.{by_eq}
unfoldable pub use Rattle.folds.specs.Below.{list_below, sum_below}
pub use Rattle.folds.proofs.Tests.{is_not_true, or_out}
pub use Rattle.queue_rules.specs.Rules.{Line, Terms, Turn, ahead_of, among, begin, entered, has_turn, holds, in_line, join, leave, limit}
pub use Rattle.queue_rules.specs.Rules.{all_but, line, queue_of, released, send_back, stands_in, sum_of, tasks_of, ticked, turn, turn_with}
pub use Rattle.queue_rules.specs.Rules.{turns_but, withdrawn}
