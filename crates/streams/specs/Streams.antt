-- Document 01, "The printing program": standard input is a plan, as long as its bytes 14-15 say. Which bytes come is not decided.
use Rattle.std.specs.Prelude.{ℕ, ◌≤◌, List, ◌++◌, ◌≡◌, Some, IfSome, Result, length, take, drop}
use Rattle.std.specs.declared.option.Option.{Option}
use Rattle.std.specs.Borrow.{MutBor}
use Rattle.std.specs.Result.{result_unwrap_or}
use Rattle.refusals.specs.declared.Refusal.{Refusal}
use Rattle.std.specs.Io.KnownBytes.{Appends}
use Rattle.print_lines.specs.Lines.{most_line}
use Rattle.plan_layout.specs.Editions.{header_length}
use Rattle.plan.specs.Reading.{plan_length}

-- a buffer of so many bytes holds every plan of which a header can tell the length
abbrev pub most_plan_bytes : ℕ
most_plan_bytes = 65536

-- r bytes came to the front of a buffer that held `before` and holds `now`: all of them are plan, that is they are fewer than a header
-- has, or no more than their own bytes 14-15 say; what lies behind them is as it was
pub record Came (before now : List ℕ) (r : ℕ) : Type 0 where
  pub plan : plan_length (take r now) ≡ r
  pub behind : now ≡ take r now ++ drop r before
  pub fits : r ≤ length before

-- where the bytes of the input are known: those that came are the plan at its front, and where these have a header, the input begins
-- behind them now
abbrev pub FirstPlan : Option (List ℕ) → Option (List ℕ) → List ℕ → Type 0
FirstPlan before now plan =
    IfSome before (λ xs. (plan ≡ take (plan_length xs) xs) × (header_length ≤ length plan → now ≡ Some (drop (plan_length xs) xs)))

-- what is asked of a closure that hands a line over to a buffer: that it may be called with one of the length of the longest line
abbrev pub MayHand : (MutBor (List ℕ) → Type 0) → Type 0
MayHand may = (b : MutBor (List ℕ)) → length b.now ≡ most_line → may b

-- and that the line, where it is not refused, is no longer than the buffer
abbrev pub HandsFitting : (MutBor (List ℕ) → Result ℕ Refusal → MutBor (List ℕ) → Type 0) → Type 0
HandsFitting does = (b c : MutBor (List ℕ)) (r : Result ℕ Refusal) → length b.now ≡ most_line → does b r c → result_unwrap_or r 0 ≤ most_line

-- the line that a call handed over was written behind what had been
pub record Handing (does : MutBor (List ℕ) → Result ℕ Refusal → MutBor (List ℕ) → Type 0) (before now : Option (List ℕ)) : Type 0 where
  pub buffer : MutBor (List ℕ)
  pub after : MutBor (List ℕ)
  pub line : Result ℕ Refusal
  pub long : length buffer.now ≡ most_line
  pub handed : does buffer line after
  pub wrote : Appends before now (take (result_unwrap_or line 0) after.now)
