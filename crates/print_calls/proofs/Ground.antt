-- The names that the proofs of this crate share, by one module: a definition that moves is named anew here alone.
pub use Rattle.folds.proofs.Ground.{List, [], ◌&&◌, ◌++◌, ◌+◌, ◌-◌, ◌<◌, ◌∙◌, ◌∷◌, ◌≡◌, ◌≤◌, arith, eq-eqb, false, inl, inr, length, ne_eqb}
pub use Rattle.folds.proofs.Ground.{refl, sym, true, ℕ}
pub use Rattle.folds.proofs.Tests.{first_zero, then_zero}
pub use Rattle.machine_state.specs.declared.State.{State}
pub use Rattle.machine_calls.specs.declared.CallBytes.{CallBytes}
pub use Rattle.machine_calls.specs.Calls.{bytes_at, call_in, call_width}
pub use Rattle.machine.specs.Replies.{AfterBytes, state_refusal}
unfoldable pub use Rattle.machine.specs.Replies.{reply}
pub use Rattle.machine.specs.Inner.{OnAccepted}
pub use Rattle.print_lines.specs.Lines.{most_line}
pub use Rattle.machine_rules.specs.declared.Call.{Call}
pub use Rattle.machine_rules.specs.declared.Answer.{Answer}
unfoldable pub use Rattle.plan_reading.specs.Plan.{plan_of}
unfoldable pub use Rattle.print_calls.specs.Calls.{call_line}
pub use Rattle.print_calls.specs.Buffers.{Printed, Written, more, none}
unfoldable pub use Rattle.print_calls.specs.Buffers.{lines_code}
pub use Rattle.print_calls.specs.Inner.{Stepped}
