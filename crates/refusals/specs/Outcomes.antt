-- What an operation tells, whatever its answer's own form: document 01's number of the refusal, and the values.
use Rattle.std.specs.Prelude.{ℕ, cond, List, [], eqb}

-- document 01's number and values for each case of an answer: the number of the refusal, 0 for none
pub record Outcome : Type 0 where
  pub number : ℕ
  pub values : List ℕ

-- the refusal `code` with no values, or the values where it is 0
abbrev pub outcome : ℕ → List ℕ → Outcome
outcome code values = record { number = code; values = cond (eqb code 0) values [] }
