-- The names that the proofs of this crate share, by one module: a definition that moves is named anew here alone.
pub use Rattle.folds.proofs.Ground.{Bool, List, List·getD-eq-default, ◌&&◌, ◌*◌, ◌+◌, ◌-◌, ◌/◌, ◌<◌, ◌∙◌, ◌≡◌, ◌≢◌, ◌≤◌, ◌⊎◌}
pub use Rattle.folds.proofs.Ground.{and-false, ap, ap₂, arith, cond, eq-eqb, eqb, eqb-true, false, get_or, get_or-set_other, get_or-set_same, inl}
pub use Rattle.folds.proofs.Ground.{inr, le-leb, length, lt-leb, lt-ltb, ltb, ne_eqb, rules, not, refl, replicate, set, suc, sym, true}
pub use Rattle.folds.proofs.Ground.{zero, ℕ, ⊎_elim}
unfoldable pub use Rattle.folds.specs.Below.{any_below, max_below, sum_below}
pub use Rattle.folds.proofs.Tests.{and_parts, any_at, any_out, find_none, same_test}
pub use Rattle.folds.proofs.Figures.{max_at}
pub use Rattle.folds.proofs.Searches.{on_eq, on_le, same_eqb}
pub use Rattle.folds.proofs.Arrays.{by_eq, stamped_at}
unfoldable pub use Rattle.folds.proofs.Arrays.{stamped_below}
pub use Rattle.folds.proofs.EachLaws.{each_at}
unfoldable pub use Rattle.folds.specs.Each.{each_below}
unfoldable pub use Rattle.folds.specs.Words.{word_below}
unfoldable pub use Rattle.folds.specs.Bytes.{placed_below}
pub use Rattle.folds.proofs.WordLaws.{word_done, word_same}
pub use Rattle.queue_ranks.proofs.Ranked.{Ranked, Timed, full, ranks_few}
pub use Rattle.machine_state.proofs.Tables.{low_processor}
pub use Rattle.machine_state.proofs.Wholes.{hold_resource}
pub use Rattle.queue_ranks.proofs.Leave.{Leaves}
pub use Rattle.analysis_equations.proofs.Laws.{hold_within}
pub use Rattle.machine_state.specs.Inner.{Keys, Seats, Sized, no_seat, queue_at, seat, seat_count}
unfoldable pub use Rattle.machine_state.specs.Inner.{key_of}
pub use Rattle.plan_reading.specs.Plan.{Plan, Valid}
pub use Rattle.analysis_equations.specs.Sharing.{processor_of}
unfoldable pub use Rattle.analysis_equations.specs.HoldTimes.{budget, hold_at, wait_time}
pub use Rattle.analysis_figures.specs.Figures.{Figures, hold_cell}
pub use Rattle.machine_rules.specs.Machine.{Lines, change, held, regranted, release_answer, request_answer, terms}
unfoldable pub use Rattle.machine_rules.specs.Machine.{busy}
pub use Rattle.queue_ranks.specs.Ranks.{queue_from, task_ranked}
unfoldable pub use Rattle.queue_ranks.specs.Ranks.{list_from}
pub use Rattle.machine_state.specs.declared.Standing.{Standing}
pub use Rattle.machine_state.specs.declared.LineRow.{LineRow}
pub use Rattle.machine_state.specs.declared.State.{State}
pub use Rattle.machine_state.specs.Shows.{in_line_at, line_at, moved_up, no_line, no_standing, none_in_line, shown_line, slot, standing}
unfoldable pub use Rattle.machine_state.specs.Shows.{rank, shows}
pub use Rattle.machine_state.proofs.Good.{Good, Whole}
pub use Rattle.machine_steps.specs.Inner.{HeadReady, Running, besides, cuts_holder, ended_below, hold_of, lost_queue, no_marks, shifted}
pub use Rattle.machine_steps.specs.Inner.{turned}
unfoldable pub use Rattle.machine_steps.specs.Inner.{begun, closed, closed_up, cut_word, dropped, ended_of, fallen, grant_word, joined_lines}
unfoldable pub use Rattle.machine_steps.specs.Inner.{lowered, passed, pushed, stepped, stepped_lines, taken, taken_holds, withdrawn_lines}
