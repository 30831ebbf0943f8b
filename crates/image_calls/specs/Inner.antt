-- What the functions of this crate rely on and give each other. None of this is a rule of document 02.
use Rattle.std.specs.Prelude.{ℕ, ◌≤◌, Result, Ok, Err, List, ◌≡◌, length}
use Rattle.refusals.specs.declared.Refusal.{Refusal}
use Rattle.refusals.specs.Refusals.{number}
use Rattle.plan.specs.Acceptance.{refusal}
use Rattle.plan_reading.specs.Plan.{plan_of}
use Rattle.analysis_figures.specs.Figures.{Known}
use Rattle.machine_rules.specs.declared.Call.{Call}
use Rattle.machine_rules.specs.declared.Answer.{Answer}
use Rattle.machine_rules.specs.declared.Answer.TheVariants.{Refused}
use Rattle.image.specs.Layout.{image_length}
use Rattle.image_calls.specs.Replies as Replies

-- a plan that is accepted, with its hold times and budgets, and bytes with room for its image
pub record OnLent (f figures b : List ℕ) : Type 0 where
  pub none : refusal f ≡ 0
  pub known : Known f figures
  pub room : image_length (plan_of f) ≤ length b

-- what a call is answered: what is given, or the refusal by its number
abbrev pub answer_of : Result Answer Refusal → Answer
answer_of (Ok a) = a
answer_of (Err e) = Refused (number e)

-- the answer to a call, refused or not, and the bytes that it leaves
pub record Made (f b : List ℕ) (c : Call) (r : Answer) (left : List ℕ) : Type 0 where
  pub answer : r ≡ Replies.image_reply f b c
  pub next : Replies.NextImage f b c left
