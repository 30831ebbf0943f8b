-- What the printing program prints for an input, by the rules alone.
use Rattle.std.specs.Prelude.{ℕ, zero, suc, ◌*◌, ◌/◌, ◌%◌, cond, List, [], ◌++◌, eqb, length, take, drop}
use Rattle.refusals.specs.Numbers.{left_over}
use Rattle.plan_layout.specs.Layout.{counts_of}
use Rattle.plan.specs.Acceptance.{refusal}
use Rattle.plan.specs.Reading.{plan_length}
use Rattle.plan_reading.specs.Plan.{plan_of}
use Rattle.machine_rules.specs.declared.Call.{Call}
use Rattle.machine_rules.specs.Machine.{answer, run}
use Rattle.machine_calls.specs.declared.CallBytes.{CallBytes}
use Rattle.machine_calls.specs.Calls.{call_width, bytes_at, call_in, calls_below}
use Rattle.print_lines.specs.Lines.{refused_line, plan_line}
use Rattle.print_calls.specs.Calls.{call_text}

-- the line of a call after a list of calls on a fresh machine
abbrev pub line_after : List ℕ → List Call → CallBytes → List ℕ
line_after f before b = call_text f b (answer (plan_of f) (run (plan_of f) before)) (call_in b)

-- the lines of the first n calls
unfoldable pub lines_below : List ℕ → ℕ → List ℕ → List ℕ
lines_below f zero l = []
lines_below f (suc n) l = lines_below f n l ++ line_after f (calls_below call_width n l) (bytes_at call_width l (n * call_width))

-- what the output ends with, for calls of n bytes: "1 or 2 left-over bytes print "refused 22" and end"
unfoldable pub end_line : ℕ → List ℕ
end_line n = cond (eqb (n % call_width) 0) [] (refused_line left_over)

-- the lines of all whole calls, and the end
unfoldable pub calls_output : List ℕ → List ℕ → List ℕ
calls_output f l = lines_below f (length l / call_width) l ++ end_line (length l)

-- the plan in a file and the calls behind it; "A refused plan prints its number in one line and nothing more"
unfoldable pub file_output : List ℕ → List ℕ → List ℕ
file_output f calls = cond (eqb (refusal f) 0) (plan_line (counts_of f) ++ calls_output f calls) (refused_line (refusal f))

-- "Standard input is a plan, as long as its bytes 14-15 say (too few bytes are refusal 1), then calls of 3 bytes"
abbrev pub output : List ℕ → List ℕ
output input = file_output (take (plan_length input) input) (drop (plan_length input) input)
