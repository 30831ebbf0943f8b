-- The names that the proofs of this crate share, by one module: a definition that moves is named anew here alone.
pub use Rattle.folds.proofs.Ground.{Bool, List, [], ◌&&◌, ◌++◌, ◌+◌, ◌-◌, ◌<◌, ◌∙◌, ◌∷◌, ◌≡◌, ◌≤◌, ◌⊎◌, and-false, ap, arith, cond, eq-eqb}
pub use Rattle.folds.proofs.Ground.{eqb, false, inl, inr, length, ne_eqb, not, not-true, or-true, refl, sym, true, true≢false, ℕ}
pub use Rattle.folds.proofs.Tests.{and_parts, first_zero, is_not_true}
unfoldable pub use Rattle.folds.specs.Below.{list_below}
pub use Rattle.folds.proofs.Arrays.{by_eq}
pub use Rattle.plan_reading.specs.Plan.{Plan, Valid}
pub use Rattle.analysis_equations.specs.Sharing.{processor_of}
unfoldable pub use Rattle.analysis_equations.specs.Sharing.{global, uses}
unfoldable pub use Rattle.analysis_equations.specs.Questions.{task_number, use_code}
pub use Rattle.queue_rules.specs.Rules.{Line, ahead_in, among, entered, holds, in_line, is_head, limit, line, queue_of, queued, waiting}
pub use Rattle.queue_rules.specs.Rules.{all_but, tasks_of, withdrawn, without}
pub use Rattle.queue_rules.proofs.Cases.{by_bool}
pub use Rattle.analysis_equations.specs.HoldTimes.{fellow}
unfoldable pub use Rattle.analysis_equations.specs.HoldTimes.{hold_at, wait_time}
pub use Rattle.analysis_equations.proofs.Laws.{Sharing, use_clear}
pub use Rattle.queue_rules.proofs.Once.{EachOnce}
pub use Rattle.machine_rules.specs.declared.Call.{Call}
pub use Rattle.machine_rules.specs.declared.Call.TheVariants.{GiveUp, Release, Request, Tick}
pub use Rattle.machine_rules.specs.Machine.{View, after, call_code, fresh, request_answer, terms}
unfoldable pub use Rattle.machine_rules.specs.Machine.{answer, busy, line_code, request_code, step}
pub use Rattle.machine_rules.specs.Waiting.{Asked, Bounded, Event, Kept, ServedFrom, TaskKept, Waiter, Within, core_for, ended, ends}
pub use Rattle.machine_rules.specs.Waiting.{gives_up, grants, is_tick, occurs, task_for, ticks}
pub use Rattle.machine_rules.specs.declared.Answer.TheVariants.{Waits}
unfoldable pub use Rattle.machine_rules.specs.Longest.{fellows, longest_wait}
