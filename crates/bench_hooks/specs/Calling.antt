-- What calls of the machine give, as one number.
use Rattle.std.specs.Prelude.{ℕ, ◌+◌, ◌*◌, ◌/◌, ◌%◌, cond, List, [], ◌∷◌, eqb}
use Rattle.sizes.specs.Sizes.{most_processors, most_tasks, most_resources}
use Rattle.plan.specs.Acceptance.{refusal}
use Rattle.plan_reading.specs.Plan.{plan_of}
use Rattle.machine_rules.specs.declared.Call.{Call}
use Rattle.machine_rules.specs.declared.Answer.{Answer}
use Rattle.machine_rules.specs.declared.Answer.TheVariants.{Granted, Waits, Next, Free, Left, Ticked, Refused}
use Rattle.machine_rules.specs.Machine.{View, fresh, answer, run}
use Rattle.machine_state.specs.declared.State.{State}
use Rattle.machine_state.specs.Shows.{standing, line_at, slot}
use Rattle.machine_state.specs.Rows.{state_of}

-- an answer: the refusal in the low byte, above it which answer it is, and its values
abbrev pub answer_number : Answer → ℕ
answer_number Granted = 256
answer_number (Waits ahead most) = 512 + 65536 * ahead + 16777216 * most
answer_number (Next tag) = 768 + 65536 * tag
answer_number Free = 1024
answer_number (Ticked cuts grants) = 1280 + 65536 * cuts + 4294967296 * grants
answer_number Left = 1536
answer_number (Refused code) = code

-- what a call is answered after a list of calls on a fresh machine: by the rules, or the refusal of the plan
unfoldable pub answer_after : List ℕ → List Call → Call → Answer
answer_after f before c = cond (eqb (refusal f) 0) (answer (plan_of f) (run (plan_of f) before) c) (Refused (refusal f))

-- the answer to three bytes that are one call; 0 where they are none
abbrev pub call_number : (Call → Answer) → List Call → ℕ
call_number answer [] = 0
call_number answer (c ∷ cs) = answer_number (answer c)

-- a part of a state: from the low byte up the row of task x modulo 64 and that of resource x modulo 16, with the processor in slot
-- x / 16 modulo 8
abbrev pub row_number : State → ℕ → ℕ
row_number s x =
    (standing s.tasks (x % most_tasks)).resource
    + 256 * (standing s.tasks (x % most_tasks)).place
    + 65536 * (line_at s (x % most_resources)).queued
    + 16777216 * (line_at s (x % most_resources)).hold_left
    + 1099511627776 * (line_at s (x % most_resources)).budget_left
    + 72057594037927936 * slot (line_at s (x % most_resources)) (x / most_resources % most_processors)

-- what is shown after a list of calls on a fresh machine: by the rules, or with nobody in line where the plan is refused
unfoldable pub view_after : List ℕ → List Call → View
view_after f calls = cond (eqb (refusal f) 0) (run (plan_of f) calls) fresh

-- the state that this tells
abbrev pub state_after : List ℕ → List Call → State
state_after f calls = state_of (plan_of f) (view_after f calls)
