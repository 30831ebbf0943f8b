-- Texts at the front of a lent buffer: one that is too short for them, and one that is long enough.
use Rattle.print_text.proofs.Ground.{ℕ, ◌≤◌, Bool, true, false, ◌≡◌, refl, ◌∙◌, List, [], length}
use Rattle.print_text.proofs.Ground.{cond, zero-add, arith, Put}
use Rattle.folds.proofs.Ground.{leb, leb-true, le-leb, eq-eqb, ne_eqb}
use Rattle.std.specs.Prelude.{Result, Ok, Err, IfOk}
use Rattle.refusals.specs.Numbers.{no_room}
use Rattle.refusals.specs.declared.Refusal.{Refusal}
use Rattle.refusals.specs.Refusals.{number, Told}
use Rattle.refusals.proofs.Laws.{number_no0, told_ok}
use Rattle.print_text.specs.Buffers.{handed_code, buffer_with, unless_code, buffer_unless}

-- a text is handed over, or refused for the buffer's length
pub record Handed (text before now : List ℕ) (r : Result ℕ Refusal) : Type 0 where
  pub told : Told (handed_code text (length before)) (length text) r
  pub buffer : now ≡ buffer_with text before

-- the same where something comes before that
pub record HandedUnless (code : ℕ) (text before now : List ℕ) (r : Result ℕ Refusal) : Type 0 where
  pub told : Told (unless_code code text (length before)) (length text) r
  pub buffer : now ≡ buffer_unless code text before

module _ (text l : List ℕ) where
  pub long_line : {m : List ℕ} {e : ℕ} → length text ≤ length l → Put l m 0 text e → Handed text l m (Ok e)
  unfolding handed_code buffer_with
  long_line h p =
      record {
        told = record { number = rw (le-leb _ _ h) refl; given = p.ends ∙ zero-add (length text) };
        buffer = rw (le-leb _ _ h, ← zero-add (length text)) p.held;
      }

-- a line is no longer than the buffer that it is for
module _ (text : List ℕ) (n : ℕ) where
  fitting : handed_code text n ≡ 0 → length text ≤ n
  unfolding handed_code
  fitting = go (leb (length text) n) refl
    where
      go : (b : Bool) → leb (length text) n ≡ b → cond b 0 no_room ≡ 0 → length text ≤ n
      go true e h = leb-true _ _ e
      go false e h = omega arith

  pub line_fits_lem : {r : Result ℕ Refusal} → Told (handed_code text n) (length text) r → IfOk r (λ k. k ≤ n)
  line_fits_lem t = told_ok (λ (k : ℕ). k ≤ n) _ t fitting

-- a number that comes before the 10, or none
module _ {k : ℕ} (text l : List ℕ) where
  pub refused_before : (e : Refusal) → number e ≡ k → HandedUnless k text l l (Err e)
  unfolding unless_code buffer_unless
  refused_before e h =
      let some = ne_eqb k 0 (λ z. number_no0 e (h ∙ z)) in
      record { told = record { number = rw some h; given = tt }; buffer = rw some }

  pub none_before : {r : Result ℕ Refusal} {m : List ℕ} → k ≡ 0 → Handed text l m r → HandedUnless k text l m r
  unfolding unless_code buffer_unless
  none_before z h = let none = eq-eqb k 0 z in record { told = rw none h.told; buffer = rw none h.buffer }

-- no line fits every buffer, and leaves it as it was
pub no_line_lem : {text : List ℕ} (l : List ℕ) → text ≡ [] → Handed text l l (Ok 0)
unfolding handed_code buffer_with
no_line_lem l e =
    let fits = le-leb 0 (length l) (omega arith) in
    record { told = record { number = rw (e, fits) refl; given = rw e refl }; buffer = rw (e, fits) refl }
