-- The number of each refusal, and what a test or an operation tells by its result.
use Rattle.std.specs.Prelude.{ℕ, ◌≡◌, Result, Ok, Err, IfOk, List, []}
use Rattle.refusals.specs.Numbers.{wrong_length, wrong_edition, wrong_count, wrong_offset, wrong_task, repeated, wrong_name, wrong_section, sections_above, no_room, unknown_tag, unknown_resource, undeclared, local, already_in_line, not_held, nothing_global, unknown_processor, unsound, not_waiting, short_image, unsound_image, no_call, left_over}
use Rattle.refusals.specs.Outcomes.{Outcome}
use Rattle.refusals.specs.declared.Refusal.{Refusal}
use Rattle.refusals.specs.declared.Refusal.TheVariants.{WrongLength, WrongEdition, WrongCount, WrongOffset, WrongTask, Repeated, WrongName, WrongSection, SectionsAbove, NoRoom, UnknownTag, UnknownResource, Undeclared, Local, AlreadyInLine, NotHeld, NothingGlobal, UnknownProcessor, Unsound, NotWaiting, ShortImage, UnsoundImage, NoCall, LeftOver}

-- document 01's number for each
abbrev pub number : Refusal → ℕ
number WrongLength = wrong_length
number WrongEdition = wrong_edition
number WrongCount = wrong_count
number WrongOffset = wrong_offset
number WrongTask = wrong_task
number Repeated = repeated
number WrongName = wrong_name
number WrongSection = wrong_section
number SectionsAbove = sections_above
number NoRoom = no_room
number UnknownTag = unknown_tag
number UnknownResource = unknown_resource
number Undeclared = undeclared
number Local = local
number AlreadyInLine = already_in_line
number NotHeld = not_held
number NothingGlobal = nothing_global
number UnknownProcessor = unknown_processor
number Unsound = unsound
number NotWaiting = not_waiting
number ShortImage = short_image
number UnsoundImage = unsound_image
number NoCall = no_call
number LeftOver = left_over

-- document 01's number of a result: that of the refusal, 0 for none
abbrev pub code_of : {A : Type 0} → Result A Refusal → ℕ
code_of (Ok v) = 0
code_of (Err e) = number e

-- r is `value`, or refused by its number where `code` is not 0
pub record Told {A : Type 0} (code : ℕ) (value : A) (r : Result A Refusal) : Type 0 where
  pub number : code_of r ≡ code
  pub given : IfOk r (λ v. v ≡ value)

-- number and values of a result, where `values` are those of what it gives
abbrev pub outcome_by : {A : Type 0} → (A → List ℕ) → Result A Refusal → Outcome
outcome_by values (Ok v) = record { number = 0; values = values v }
outcome_by values (Err e) = record { number = number e; values = [] }
