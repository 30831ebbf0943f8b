-- The names that the proofs of this crate share, by one module: a definition that moves is named anew here alone.
pub use Rattle.folds.proofs.Ground.{Bool, List, [], ◌%◌, ◌&&◌, ◌*◌, ◌++◌, ◌+◌, ◌-◌, ◌<◌, ◌||◌, ◌∙◌, ◌∷◌, ◌≡◌, ◌≤◌, ap, append_assoc}
pub use Rattle.folds.proofs.Ground.{ap₂, arith, cond, drop, drop_at, drop-drop, eq-eqb, eqb, eqb-true, ext_get_or, false, fun_ext, get_or}
pub use Rattle.folds.proofs.Ground.{get_or-replicate, le-ltb, length, length-append, length-drop, length-replicate}
pub use Rattle.folds.proofs.Ground.{lt-ltb, ltb, ne_eqb, rules, not, or-true, refl, replicate, suc, sym}
pub use Rattle.folds.proofs.Ground.{take, true, zero, ℕ, ⊎_elim}
pub use Rattle.folds.proofs.Tests.{all_at, all_from, and_parts, same_test}
pub use Rattle.folds.proofs.Searches.{on_eq, on_le}
unfoldable pub use Rattle.folds.specs.Below.{all_below, any_below}
unfoldable pub use Rattle.folds.specs.Bytes.{bytes_below, digits, fields, number, placed_below, row_at, row_bytes}
pub use Rattle.folds.specs.Bytes.{width}
pub use Rattle.folds.proofs.Arrays.{by_eq, placed_at, placed_later, placed_length, placed_step}
pub use Rattle.folds.proofs.Parts.{bytes_length, part_rest}
pub use Rattle.folds.proofs.Fronts.{Front, Rowed, put_front, rows_none, rows_part}
pub use Rattle.folds.proofs.RowLaws.{Bytes, row_length, rows_back, rows_forth}
unfoldable pub use Rattle.folds.proofs.RowLaws.{solid}
pub use Rattle.sizes.specs.Sizes.{absent, most_processors, most_resources, most_tasks}
pub use Rattle.plan_reading.specs.Plan.{Plan, Valid}
unfoldable pub use Rattle.plan_reading.specs.Plan.{plan_of}
pub use Rattle.plan_reading.proofs.Laws.{valid_plan}
pub use Rattle.analysis_equations.specs.Sharing.{processor_of}
unfoldable pub use Rattle.analysis_equations.specs.Sharing.{global, uses}
pub use Rattle.queue_ranks.specs.Ranks.{queue_from, task_ranked, turn_of}
unfoldable pub use Rattle.queue_ranks.specs.Ranks.{list_from}
pub use Rattle.queue_ranks.proofs.Lists.{list_get, list_same}
pub use Rattle.queue_ranks.proofs.Ranked.{full, sole, task_rank}
pub use Rattle.machine_rules.specs.Machine.{View}
pub use Rattle.machine_state.specs.declared.Standing.{Standing}
pub use Rattle.machine_state.specs.declared.LineRow.{LineRow}
pub use Rattle.machine_state.specs.declared.State.{State}
pub use Rattle.machine_state.specs.Shows.{free_line, fresh_state, is_idle, line_at, no_line, no_standing, none_in_line, slot, standing}
unfoldable pub use Rattle.machine_state.specs.Shows.{rank, shows}
pub use Rattle.machine_state.specs.Sound.{alone, backed, holder_of}
unfoldable pub use Rattle.machine_state.specs.Sound.{sound, task_fits}
pub use Rattle.machine_state.specs.Rows.{line_of, slot_of, state_of}
unfoldable pub use Rattle.machine_state.specs.Rows.{standing_of}
pub use Rattle.machine_state.proofs.Good.{Good, Whole}
pub use Rattle.machine_state.proofs.Told.{SameRow, SameRows, line_at_lem, rows_told, standing_at}
pub use Rattle.machine_state.proofs.Wholes.{both, hold_resource, hold_task, rank_own, sound_of, whole_of}
pub use Rattle.image.specs.Layout.{head_widths, image_length, line_widths, line_rows_at, standing_widths, standing_rows_at}
pub use Rattle.image.specs.Image.{head_numbers, holder_number, image_with, line_from, line_numbers, shown_in, standing_from, standing_numbers, state_in}
unfoldable pub use Rattle.image.specs.Image.{head_bytes, holder_in, image_of, line_bytes, line_in, standing_bytes, standing_in}
pub use Rattle.image.specs.Sound.{absent_filled, filled, free_filled, holder_fits, place_fits, task_filled}
unfoldable pub use Rattle.image.specs.Sound.{counts_fit, image_sound}
pub use Rattle.image.specs.Inner.{first, key_at, line_row, line_width, standing_row, standing_width}
unfoldable pub use Rattle.image.specs.Inner.{fit_test, holder_key, holder_table, holder_test}
