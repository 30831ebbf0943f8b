-- Document 01, "The plan file": what writing a plan's values does.
use Rattle.std.specs.Prelude.{ℕ, cond, List, [], ◌∷◌, ◌++◌, leb, eqb, length, drop, Result}
use Rattle.refusals.specs.Numbers.{no_room}
use Rattle.refusals.specs.Outcomes.{Outcome, outcome}
use Rattle.plan_rules.specs.declared.Counts.{Counts}
use Rattle.plan_rules.specs.declared.Rows.{Rows}
use Rattle.plan_layout.specs.Layout.{values_code}
use Rattle.plan_bytes.specs.Encode.{file_length, file_of}
use Rattle.refusals.specs.Refusals.{outcome_by}
use Rattle.refusals.specs.declared.Refusal.{Refusal}

-- Writing a plan: 2, 3, 5, 6, 7, 8, 9, then 10, buffer too short
unfoldable pub write_code : Counts → Rows → List ℕ → ℕ → ℕ
write_code c rows names room =
    cond (eqb (values_code c rows names) 0) (cond (leb (file_length c names) room) 0 no_room) (values_code c rows names)

-- the buffer after it: the file at its front and what lies behind as it was; unchanged where the plan is refused
unfoldable pub written : Counts → Rows → List ℕ → List ℕ → List ℕ
written c rows names buf =
    cond (eqb (write_code c rows names (length buf)) 0) (file_of c rows names ++ drop (file_length c names) buf) buf

-- document 01's number and values for each case of the answer
abbrev pub write_outcome : Result ℕ Refusal → Outcome
write_outcome = outcome_by (λ len. len ∷ [])

-- what writing tells
abbrev pub writing_outcome : Counts → Rows → List ℕ → ℕ → Outcome
writing_outcome c rows names room = outcome (write_code c rows names room) (file_length c names ∷ [])
