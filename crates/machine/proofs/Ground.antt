-- The names that the proofs of this crate share, by one module: a definition that moves is named anew here alone.
pub use Rattle.folds.proofs.Ground.{Bool, List, [], ◌*◌, ◌++◌, ◌+◌, ◌-◌, ◌<◌, ◌∙◌, ◌∷◌, ◌≡◌, ◌≤◌, ap, arith, cond, eq-eqb, false}
pub use Rattle.folds.proofs.Ground.{get_or, length, ne_eqb, rules, not-false, refl, sym, true, ℕ}
pub use Rattle.folds.proofs.Tests.{code_zero, first_zero, then_zero}
pub use Rattle.folds.proofs.Arrays.{by_eq}
unfoldable pub use Rattle.plan.specs.Acceptance.{refusal}
pub use Rattle.plan_reading.specs.Plan.{Plan, Valid}
unfoldable pub use Rattle.plan_reading.specs.Plan.{plan_of}
unfoldable pub use Rattle.analysis_equations.specs.Questions.{task_number}
pub use Rattle.machine_rules.specs.declared.Call.{Call}
pub use Rattle.machine_rules.specs.declared.Call.TheVariants.{GiveUp, Release, Request, Tick}
pub use Rattle.machine_rules.specs.declared.Answer.{Answer}
pub use Rattle.machine_rules.specs.Machine.{View, answer_outcome, call_code, request_answer}
unfoldable pub use Rattle.machine_rules.specs.Machine.{answer, step}
pub use Rattle.machine_state.specs.declared.State.{State}
unfoldable pub use Rattle.machine_state.specs.Shows.{shows}
unfoldable pub use Rattle.machine_state.specs.Sound.{sound}
unfoldable pub use Rattle.machine_calls.specs.Calls.{calls_below}
pub use Rattle.plan.proofs.Laws.{accepted_checked, accepted_valid}
pub use Rattle.machine_state.proofs.FreshLaws.{fresh_shows, fresh_sound}
pub use Rattle.machine.specs.Replies.{state_refusal}
unfoldable pub use Rattle.machine.specs.Replies.{call_refusal, reply}
pub use Rattle.machine_replies.specs.Inner.{Acted}
pub use Rattle.machine.specs.Inner.{Replied, cuts_in}
pub use Rattle.machine.specs.Promise.{Returned, called, started}
