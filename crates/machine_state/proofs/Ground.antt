-- The names that the proofs of this crate share, by one module: a definition that moves is named anew here alone.
pub use Rattle.folds.proofs.Ground.{Bool, List, List·getD-eq-default, ◌%◌, ◌&&◌, ◌*◌, ◌+◌, ◌-◌, ◌/◌, ◌<◌, ◌||◌, ◌∙◌, ◌≡◌, ◌≢◌, ◌≤◌, ◌⊎◌}
pub use Rattle.folds.proofs.Ground.{and_assoc, and-true, ap, ap₂, arith, cond, eq-eqb, eqb, eqb-true, false, get_or, get_or-replicate}
pub use Rattle.folds.proofs.Ground.{get_or-set_other, get_or-set_same, inl, inr, le-leb, le-ltb, leb, leb-true, length, length-replicate}
pub use Rattle.folds.proofs.Ground.{lt-leb, lt-ltb, ltb, ltb-true, ne_eqb, rules, not, not-true, or-true, refl, replicate, set, suc, sym}
pub use Rattle.folds.proofs.Ground.{true, true≢false, zero, ℕ, ⊎_elim}
pub use Rattle.folds.proofs.Tests.{all_at, all_done, all_from, all_more, all_same, and_parts, any_at, any_none, any_out}
pub use Rattle.folds.proofs.Tests.{find_none, is_not_true, or_out, same_test}
pub use Rattle.folds.proofs.Searches.{find_is, on_eq, on_le}
unfoldable pub use Rattle.folds.specs.Below.{all_below, any_below, max_below}
unfoldable pub use Rattle.folds.specs.Bytes.{number}
pub use Rattle.folds.proofs.Arrays.{by_eq, stamped_length}
unfoldable pub use Rattle.folds.proofs.Arrays.{stamped_below}
pub use Rattle.folds.proofs.Figures.{max_at}
pub use Rattle.sizes.specs.Sizes.{absent, most_processors, most_resources, most_tasks}
pub use Rattle.plan_reading.specs.Plan.{Plan, Valid}
unfoldable pub use Rattle.plan_reading.specs.Plan.{plan_of}
pub use Rattle.machine_rules.specs.Machine.{View, terms}
pub use Rattle.queue_ranks.specs.Ranks.{queue_from, task_ranked, turn_of}
unfoldable pub use Rattle.queue_ranks.specs.Ranks.{list_from}
pub use Rattle.queue_ranks.proofs.Lists.{list_length}
unfoldable pub use Rattle.analysis_equations.specs.HoldTimes.{hold_at}
pub use Rattle.queue_ranks.proofs.Ranked.{Queued, Ranked, Timed, full, sole, task_rank}
pub use Rattle.queue_rules.specs.Rules.{queue_of}
pub use Rattle.analysis_equations.specs.Sharing.{processor_of}
unfoldable pub use Rattle.analysis_equations.specs.Sharing.{global, uses}
pub use Rattle.analysis_figures.specs.Figures.{Figures, hold_cell}
pub use Rattle.plan_reading.proofs.Laws.{valid_plan}
pub use Rattle.machine_state.specs.declared.Standing.{Standing}
pub use Rattle.machine_state.specs.Shows.{line_at, no_line, no_standing, none_in_line, slot, standing}
unfoldable pub use Rattle.machine_state.specs.Shows.{rank, shows}
pub use Rattle.machine_state.specs.Sound.{backed, beside, holder_of, idle, serves}
unfoldable pub use Rattle.machine_state.specs.Sound.{clock_fits, core_fits, line_fits, slot_fits, sound, task_fits}
pub use Rattle.machine_state.specs.Rows.{line_of, slot_of, state_of}
unfoldable pub use Rattle.machine_state.specs.Rows.{resource_of, standing_of}
pub use Rattle.machine_state.specs.declared.LineRow.{LineRow}
pub use Rattle.machine_state.specs.declared.State.{State}
pub use Rattle.machine_state.specs.Inner.{Headed, InQueue, Keys, Seats, first_seat, no_seat, resource_seats, seat, seat_count}
unfoldable pub use Rattle.machine_state.specs.Inner.{clock_test, core_test, free_test, key_of, line_test, queue_test, slot_test, state_test}
unfoldable pub use Rattle.machine_state.specs.Inner.{tail_test, task_test}
