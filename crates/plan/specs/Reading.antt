-- Document 01, "What each operation refuses, in order": reading a plan, and the question for a name.
use Rattle.std.specs.Prelude.{ℕ, min, cond, List, [], ◌∷◌, ltb, eqb, length, Result}
use Rattle.refusals.specs.Numbers.{unknown_resource}
use Rattle.refusals.specs.Outcomes.{Outcome, outcome}
use Rattle.refusals.specs.Refusals.{outcome_by}
use Rattle.refusals.specs.declared.Refusal.{Refusal}
use Rattle.plan_rules.specs.declared.Counts.{Counts}
use Rattle.plan_layout.specs.Editions.{header_length}
use Rattle.plan_layout.specs.Layout.{counts_of, length_said, rows_of}
use Rattle.plan_reading.specs.Plan.{name_part}
use Rattle.plan.specs.declared.Reading.{Reading}
use Rattle.plan.specs.Acceptance.{refusal}

-- the plan in a file by value
abbrev pub reading : List ℕ → Reading
reading f = record { counts = counts_of f; rows = rows_of f }

-- the values that counts tell: P, N, R and S
abbrev pub count_values : Counts → List ℕ
count_values c = c.processors ∷ c.tasks ∷ c.resources ∷ c.sections ∷ []

-- document 01's number and values for each case of the answer: a plan that is read has no refusal, and the values of its counts
abbrev pub read_outcome : Result Reading Refusal → Outcome
read_outcome = outcome_by (λ r. count_values r.counts)

-- what reading a file tells
abbrev pub reading_outcome : List ℕ → Outcome
reading_outcome f = outcome (refusal f) (count_values (counts_of f))

-- Name: 1 to 9, then 12, resource ≥ R
unfoldable pub name_refusal : List ℕ → ℕ → ℕ
name_refusal f q = cond (eqb (refusal f) 0) (cond (ltb q (counts_of f).resources) 0 unknown_resource) (refusal f)

-- a refused name question gives an empty part
unfoldable pub name_of : List ℕ → ℕ → List ℕ
name_of f q = cond (eqb (name_refusal f q) 0) (name_part f q) []

-- Document 01, "The printing program": a plan is as long as its bytes 14-15 say, which are in every header; where the input ends
-- before that, what there is
unfoldable pub plan_length : List ℕ → ℕ
plan_length s = cond (ltb (length s) header_length) (length s) (min (length_said s) (length s))
