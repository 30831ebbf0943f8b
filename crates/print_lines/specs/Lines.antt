-- Document 01, "The printing program", and document 02 §1: the lines that it prints.
use Rattle.std.specs.Prelude.{ℕ, List, [], ◌∷◌, ◌++◌}
use Rattle.print_text.specs.Text.{quoted, decimal}
use Rattle.plan_rules.specs.declared.Counts.{Counts}
use Rattle.plan_reading.specs.Plan.{name_part}
use Rattle.machine_rules.specs.declared.Answer.{Answer}
use Rattle.machine_rules.specs.declared.Answer.TheVariants.{Granted, Waits, Next, Free, Left, Ticked, Refused}

-- no line of an answer, a plan or a refusal is longer
abbrev pub most_line : ℕ
most_line = 96

-- texts, each after a space
abbrev pub spaced : List (List ℕ) → List ℕ
spaced [] = []
spaced (text ∷ rest) = quoted " " ++ text ++ spaced rest

-- a line: its word, its fields, each after a space, and its end
abbrev pub line_text : List ℕ → List (List ℕ) → List ℕ
line_text word fields = word ++ spaced fields ++ quoted "\n"

-- "A refused plan prints its number in one line and nothing more, as in "refused 5"", and so does a refused call
abbrev pub refused_line : ℕ → List ℕ
refused_line code = line_text (quoted "refused") (decimal code ∷ [])

-- "plan P N R S"
abbrev pub plan_line : Counts → List ℕ
plan_line c =
    line_text (quoted "plan") (decimal c.processors ∷ decimal c.tasks ∷ decimal c.resources ∷ decimal c.sections ∷ [])

-- what is printed for each answer to a call with this tag and resource: "tag and name; tag, name, ahead, limit; the tick's two words as
-- decimal numbers, cuts then new grants; number; tag, name, then "free" or "to" and a tag"; and "left TAG NAME" (02 §1)
abbrev pub answer_line : List ℕ → ℕ → ℕ → Answer → List ℕ
answer_line f tag q Granted = line_text (quoted "granted") (decimal tag ∷ name_part f q ∷ [])
answer_line f tag q (Waits ahead most) = line_text (quoted "waits") (decimal tag ∷ name_part f q ∷ decimal ahead ∷ decimal most ∷ [])
answer_line f tag q (Next next) = line_text (quoted "released") (decimal tag ∷ name_part f q ∷ quoted "to" ∷ decimal next ∷ [])
answer_line f tag q Free = line_text (quoted "released") (decimal tag ∷ name_part f q ∷ quoted "free" ∷ [])
answer_line f tag q Left = line_text (quoted "left") (decimal tag ∷ name_part f q ∷ [])
answer_line f tag q (Ticked cuts grants) = line_text (quoted "tick") (decimal cuts ∷ decimal grants ∷ [])
answer_line f tag q (Refused code) = refused_line code
