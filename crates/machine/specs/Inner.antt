-- What the machine's private functions and `machine::surveyed` rely on and give. None of this is a rule of document 01.
use Rattle.std.specs.Prelude.{ℕ, List, ◌≡◌}
use Rattle.std.specs.Int.Count.{ones}
use Rattle.plan.specs.Acceptance.{refusal}
use Rattle.analysis_figures.specs.Figures.{Known}
use Rattle.machine_rules.specs.declared.Call.{Call}
use Rattle.machine_rules.specs.declared.Answer.{Answer}
use Rattle.machine_rules.specs.declared.Answer.TheVariants.{Granted, Waits, Next, Free, Left, Ticked, Refused}
use Rattle.machine_state.specs.declared.State.{State}
use Rattle.machine_replies.specs.declared.Reply.{Reply}
use Rattle.machine.specs.Replies as Replies

-- what is known of a plan file once it has been looked at: its refusal, and of one that is accepted its hold times and budgets
pub record Surveyed (f : List ℕ) (code : ℕ) (t : List ℕ) : Type 0 where
  pub refusal : code ≡ refusal f
  pub known : code ≡ 0 → Known f t

-- a plan that is accepted, with its hold times and budgets
pub record OnAccepted (f figures : List ℕ) : Type 0 where
  pub none : refusal f ≡ 0
  pub known : Known f figures

-- the refusal `code` of a call on a state
abbrev pub refused_at : State → ℕ → Reply
refused_at s code = record { answer = Refused code; state = s }

-- the answer to a call, refused or not, and the next state
pub record Replied (f : List ℕ) (s : State) (c : Call) (r : Reply) : Type 0 where
  pub answer : r.answer ≡ Replies.reply f s c
  pub next : Replies.Next f s c r.state

-- the ones in the first word of a tick's answer
abbrev pub cuts_in : Answer → ℕ
cuts_in Granted = 0
cuts_in (Waits ahead most) = 0
cuts_in (Next tag) = 0
cuts_in Free = 0
cuts_in Left = 0
cuts_in (Ticked cuts grants) = ones cuts
cuts_in (Refused code) = 0
