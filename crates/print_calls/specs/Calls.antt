-- Document 01, "The printing program": the line that each call prints.
use Rattle.std.specs.Prelude.{ℕ, List, [], ◌∷◌}
use Rattle.refusals.specs.Numbers.{no_call}
use Rattle.machine_rules.specs.declared.Call.{Call}
use Rattle.machine_rules.specs.declared.Answer.{Answer}
use Rattle.machine_state.specs.declared.State.{State}
use Rattle.machine.specs.Replies.{reply}
use Rattle.machine_calls.specs.declared.CallBytes.{CallBytes}
use Rattle.machine_calls.specs.Calls.{call_in}
use Rattle.print_lines.specs.Lines.{refused_line, answer_line}

-- bytes that are one call print its answer; "Another letter, or T with other bytes, prints "refused 21""
abbrev pub call_text : List ℕ → CallBytes → (Call → Answer) → List Call → List ℕ
call_text f b answer [] = refused_line no_call
call_text f b answer (c ∷ cs) = answer_line f b.tag b.resource (answer c)

-- what they print on a state
unfoldable pub call_line : List ℕ → State → CallBytes → List ℕ
call_line f s b = call_text f b (reply f s) (call_in b)
