-- The names that the proofs of this crate share, by one module: a definition that moves is named anew here alone.
pub use Rattle.folds.proofs.Ground.{Bool, List, ◌*◌, ◌+◌, ◌<◌, ◌∙◌, ◌≡◌, ◌≢◌, ◌≤◌, arith, cond, eqb, false}
pub use Rattle.folds.proofs.Ground.{get_or, length, ne_eqb, rules, not-false, refl, sym, true, ℕ}
pub use Rattle.folds.proofs.Tests.{first_zero, then_zero}
pub use Rattle.plan_reading.specs.Plan.{Plan, Valid}
unfoldable pub use Rattle.plan_reading.specs.Plan.{plan_of}
unfoldable pub use Rattle.analysis_equations.specs.Questions.{task_number, use_code}
pub use Rattle.machine_rules.specs.declared.Call.TheVariants.{GiveUp, Release, Request, Tick}
pub use Rattle.machine_rules.specs.Machine.{request_answer}
unfoldable pub use Rattle.machine_rules.specs.Machine.{named_code, request_code}
pub use Rattle.machine_state.specs.declared.State.{State}
pub use Rattle.machine_state.specs.Shows.{line_at, slot, standing}
unfoldable pub use Rattle.machine_state.specs.Shows.{shows}
pub use Rattle.sizes.specs.Sizes.{most_processors, most_resources}
pub use Rattle.analysis_equations.proofs.Laws.{use_clear}
pub use Rattle.machine_state.proofs.Good.{Whole}
pub use Rattle.machine_state.proofs.Wholes.{sound_of, whole_of}
pub use Rattle.machine_steps.proofs.Ready.{Tabled, sized}
pub use Rattle.plan_reading.proofs.Laws.{valid_plan}
pub use Rattle.machine_replies.specs.Inner.{Acted}
unfoldable pub use Rattle.machine_replies.specs.Inner.{granted_answer}
