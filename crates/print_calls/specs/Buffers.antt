-- What a lent buffer holds once lines have been put into it, and what is refused before that.
use Rattle.std.specs.Prelude.{ℕ, ◌+◌, ◌≤◌, ◌<◌, cond, ◌&&◌, List, [], ◌++◌, ◌⊎◌, ◌≢◌, ◌≡◌, eqb, leb, ltb, Result, IfOk, length, take, drop}
use Rattle.refusals.specs.Numbers.{no_room}
use Rattle.refusals.specs.declared.Refusal.{Refusal}
use Rattle.refusals.specs.Refusals.{code_of}
use Rattle.machine_state.specs.declared.State.{State}
use Rattle.machine.specs.Replies.{state_refusal, AfterBytes}
use Rattle.machine_calls.specs.Calls.{call_width, bytes_at, call_in}
use Rattle.print_lines.specs.Lines.{most_line}
use Rattle.print_calls.specs.declared.Batch.{Batch}
use Rattle.print_calls.specs.Calls.{call_line}

-- what stands before the lines of n bytes of calls in a buffer of `room` bytes: the number of the plan or of the state; then 10, where
-- a whole call is there and not the room for the longest line
unfoldable pub lines_code : (first n room : ℕ) → ℕ
lines_code first n room = cond (eqb first 0) (cond (leb call_width n && ltb room most_line) no_room 0) first

-- "Each operation given a plan file first gives 1 to 9 as reading does; each call given a state then gives 19": nothing is made where
-- one of these or 10 is told
abbrev pub lines_refusal : List ℕ → State → (n room : ℕ) → ℕ
lines_refusal f s n room = lines_code (state_refusal f s) n room

-- the text that calls print, from a state on, and the state after them; each begins where there is room for the longest line
pub data Printed (f : List ℕ) (room : ℕ) (s : State) : List ℕ → State → List ℕ → Type 0 where
  none : Printed f room s [] s []
  more : {calls text : List ℕ} {t u : State} (call : List ℕ) → length call ≡ call_width → Printed f room s calls t text
      → length text + most_line ≤ room
      → AfterBytes f t (call_in (bytes_at call_width call 0)) u
      → Printed f room s (calls ++ call) u (text ++ call_line f t (bytes_at call_width call 0))

-- the lines of the first bytes of a list of calls in a buffer; what lies behind them is as it was
pub record Written (f : List ℕ) (s : State) (calls before now : List ℕ) (used end : ℕ) (t : State) : Type 0 where
  pub printed : Printed f (length before) s (take used calls) t (take end now)
  pub behind : drop end now ≡ drop end before
  pub within : used ≤ length calls
  pub fits : end ≤ length before
  pub long : length now ≡ length before

-- the lines are those of all whole calls, or of as many as there was room for, and of one at least where there is one. So a caller who
-- goes on with the rest comes to an end
pub record Made (f : List ℕ) (s : State) (calls before now : List ℕ) (b : Batch) : Type 0 where
  pub written : Written f s calls before now b.used b.length b.state
  pub ended : (length calls < b.used + call_width) ⊎ (length before < b.length + most_line)
  pub some : call_width ≤ length calls → call_width ≤ b.used

-- what `lines` does: nothing where it is refused, and the buffer is as it was
pub record Batched (f : List ℕ) (s : State) (calls before now : List ℕ) (r : Result Batch Refusal) : Type 0 where
  pub number : code_of r ≡ lines_refusal f s (length calls) (length before)
  pub unmade : code_of r ≢ 0 → now ≡ before
  pub made : IfOk r (Made f s calls before now)
