-- A refusal has a number of 1 and more, so that 0 can stand for none.
use Rattle.std.proofs.Common.{◌≡◌, ◌≢◌, ℕ, ◌≤◌, true, false, List, refl, sym, ◌∙◌, arith, Result, Ok, Err, IfOk, subst}
use Rattle.std.proofs.lemmas.Bool.{ne_eqb}
use Rattle.std.specs.Result.{is_err}
use Rattle.refusals.specs.Outcomes.{outcome}
use Rattle.refusals.specs.declared.Refusal.{Refusal}
use Rattle.refusals.specs.declared.Refusal.TheVariants.{WrongLength, WrongEdition, WrongCount, WrongOffset, WrongTask, Repeated, WrongName, WrongSection, SectionsAbove, NoRoom, UnknownTag, UnknownResource, Undeclared, Local, AlreadyInLine, NotHeld, NothingGlobal, UnknownProcessor, Unsound, NotWaiting, ShortImage, UnsoundImage, NoCall, LeftOver}
use Rattle.refusals.specs.Refusals.{number, code_of, Told, outcome_by}

pub number_some : (e : Refusal) → 1 ≤ number e
number_some WrongLength = omega arith
number_some WrongEdition = omega arith
number_some WrongCount = omega arith
number_some WrongOffset = omega arith
number_some WrongTask = omega arith
number_some Repeated = omega arith
number_some WrongName = omega arith
number_some WrongSection = omega arith
number_some SectionsAbove = omega arith
number_some NoRoom = omega arith
number_some UnknownTag = omega arith
number_some UnknownResource = omega arith
number_some Undeclared = omega arith
number_some Local = omega arith
number_some AlreadyInLine = omega arith
number_some NotHeld = omega arith
number_some NothingGlobal = omega arith
number_some UnknownProcessor = omega arith
number_some Unsound = omega arith
number_some NotWaiting = omega arith
number_some ShortImage = omega arith
number_some UnsoundImage = omega arith
number_some NoCall = omega arith
number_some LeftOver = omega arith

pub number_no0 : (e : Refusal) → number e ≡ 0 → ⊥
number_no0 e z = let h = number_some e in omega arith

-- what a result tells has the number of the code, and the values where that is 0
pub outcome_told : {A : Type 0} {code : ℕ} {value : A} (values : A → List ℕ) (r : Result A Refusal) → Told code value r → outcome_by values r ≡ outcome code (values value)
outcome_told {A} {code} {value} values (Ok v) t =
    let none : code ≡ 0 = sym t.number in rw (none, t.given)
outcome_told {A} {code} {value} values (Err e) t =
    let some : code ≢ 0 = let h = number_some e in let n = t.number in omega arith in rw (← t.number, ne_eqb _ _ (λ z. some (sym t.number ∙ z)))

-- what a step tells is what the whole does, where its number and its value are those
pub told_as : {A : Type 0} {code code' : ℕ} {value value' : A} (r : Result A Refusal) → code ≡ code' → value ≡ value' → Told code value r → Told code' value' r
told_as r p q t = rw (← p, ← q) t

-- a refused result has a number that is not 0, and one that is not refused has none
pub code_some : {A : Type 0} (r : Result A Refusal) → is_err r ≡ true → code_of r ≡ 0 → ⊥
code_some (Ok v) e z = let bad : false ≡ true = e in cc
code_some (Err d) e z = let h = number_some d in omega arith

pub code_none : {A : Type 0} (r : Result A Refusal) → is_err r ≡ false → code_of r ≡ 0
code_none (Ok v) e = refl
code_none (Err d) e = let bad : true ≡ false = e in cc

-- what holds of the value where there is no refusal holds of what is given
pub told_ok : {A : Type 0} {code : ℕ} {value : A} (P : A → Type 0) (r : Result A Refusal) → Told code value r → (code ≡ 0 → P value) → IfOk r P
told_ok P (Ok v) t f = subst P (sym t.given) (f (sym t.number))
told_ok P (Err e) t f = tt
