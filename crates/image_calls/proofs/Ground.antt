-- The names that the proofs of this crate share, by one module: a definition that moves is named anew here alone.
pub use Rattle.folds.proofs.Ground.{List, ◌*◌, ◌++◌, ◌+◌, ◌<◌, ◌∙◌, ◌≡◌, ◌≤◌, ap, arith, eq-eqb, false, get_or}
pub use Rattle.folds.proofs.Ground.{le-leb, length, lt-leb, ne_eqb, rules, not-false, not-true, refl, sym, true, ℕ}
pub use Rattle.folds.proofs.Tests.{code_zero, first_zero, then_zero}
unfoldable pub use Rattle.plan.specs.Acceptance.{refusal}
pub use Rattle.plan.specs.Acceptance.{Accepted}
pub use Rattle.plan.proofs.Laws.{accepted_checked, accepted_valid}
pub use Rattle.plan_reading.specs.Plan.{Valid}
unfoldable pub use Rattle.plan_reading.specs.Plan.{plan_of}
pub use Rattle.plan_reading.proofs.Laws.{valid_plan}
pub use Rattle.sizes.specs.Sizes.{most_resources, most_tasks}
pub use Rattle.refusals.specs.Numbers.{short_image, unsound_image}
pub use Rattle.machine_rules.specs.declared.Call.{Call}
pub use Rattle.machine_rules.specs.declared.Answer.TheVariants.{Refused}
pub use Rattle.machine_rules.specs.Machine.{View, after, call_code}
unfoldable pub use Rattle.machine_rules.specs.Machine.{answer, step}
pub use Rattle.machine_state.specs.declared.State.{State}
pub use Rattle.machine_state.specs.Shows.{fresh_state}
unfoldable pub use Rattle.machine_state.specs.Shows.{shows}
unfoldable pub use Rattle.machine_state.specs.Sound.{sound}
pub use Rattle.machine_state.proofs.FreshLaws.{fresh_shows, fresh_sound}
pub use Rattle.machine_replies.specs.declared.Reply.{Reply}
pub use Rattle.machine_replies.specs.Inner.{Acted}
pub use Rattle.image.specs.Layout.{image_length}
pub use Rattle.image.specs.Image.{image_with, shown_in, state_in}
unfoldable pub use Rattle.image.specs.Sound.{image_sound}
unfoldable pub use Rattle.image.specs.Inner.{fit_test}
pub use Rattle.image.proofs.Kept.{kept_long, stored_sound}
pub use Rattle.image.proofs.Loaded.{loaded_shows}
pub use Rattle.image.proofs.Round.{image_state}
pub use Rattle.image.proofs.Tested.{image_tested}
pub use Rattle.image_calls.specs.Replies.{NextImage, StartedImage}
unfoldable pub use Rattle.image_calls.specs.Replies.{image_after, image_call_refusal, image_refusal, image_reply, image_started, lent_refusal}
pub use Rattle.image_calls.specs.Promise.{ImageRan, LeftBy, begun, called}
pub use Rattle.image_calls.specs.Inner.{Made}
