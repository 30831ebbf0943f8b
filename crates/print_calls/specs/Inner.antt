-- What the private functions of this crate rely on and give. None of this is a rule of document 01.
use Rattle.std.specs.Prelude.{ℕ, ◌+◌, ◌≤◌, ◌≡◌, List, Result, length}
use Rattle.machine_state.specs.declared.State.{State}
use Rattle.print_text.specs.Text.{PutIn}
use Rattle.machine_calls.specs.declared.CallBytes.{CallBytes}
use Rattle.machine_calls.specs.Calls.{call_in}
use Rattle.refusals.specs.declared.Refusal.{Refusal}
use Rattle.refusals.specs.Refusals.{code_of}
use Rattle.machine.specs.Inner.{OnAccepted}
use Rattle.machine.specs.Replies.{state_refusal, AfterBytes}
use Rattle.print_calls.specs.declared.Step.{Step}
use Rattle.print_calls.specs.Calls.{call_line}
use Rattle.print_lines.specs.Lines.{most_line}

-- a plan that is accepted, with its hold times and budgets, and room for the longest line at `at`
pub record CallReady (f figures buf : List ℕ) (at : ℕ) : Type 0 where
  pub plan : OnAccepted f figures
  pub room : at + most_line ≤ length buf

-- what comes before every call: the refusal of the plan or of the state, or the table of a plan that is accepted
pub record Looked (f : List ℕ) (s : State) (figures : List ℕ) (r : Result (Unit {0}) Refusal) : Type 0 where
  pub number : code_of r ≡ state_refusal f s
  pub plan : code_of r ≡ 0 → OnAccepted f figures

-- the bytes of a call put their line at `at`, and were made on the state
pub record Stepped (f : List ℕ) (s : State) (b : CallBytes) (before now : List ℕ) (at : ℕ) (r : Step) : Type 0 where
  pub line : PutIn before now at most_line (call_line f s b) r.end
  pub after : AfterBytes f s (call_in b) r.state
