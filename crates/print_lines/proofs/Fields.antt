-- Fields put one behind the other: what is put, and what is left.
use Rattle.print_lines.proofs.Ground.{ℕ, ◌+◌, ◌≤◌, ◌≡◌, refl, List, ◌∷◌, length, arith, Number, Signed, field_text}
use Rattle.folds.proofs.Ground.{◌<◌, drop, get_or, drop-cons, add-one, ◌∙◌, ◌++◌, append_assoc}
use Rattle.print_text.specs.Text.{quoted, Put, PutIn}
use Rattle.print_text.proofs.TextLaws.{put_in, put_in_then, put_then}
use Rattle.print_lines.specs.declared.Field.{Field}
use Rattle.print_lines.specs.declared.Field.TheVariants.{Name, Says, None}
use Rattle.print_lines.specs.Inner.{value_text, fields_text, value_room, room_of, rooms_of, Asking, AllNamed}

-- a field asks for itself, and then for the others
asks_both : (others : Type 0) (f : List ℕ) (x : Field) → Asking f x others → Asking f x (Unit {0}) × others
asks_both others f (Number n) h = (tt, h)
asks_both others f (Signed z) h = (tt, h)
asks_both others f (Name q) h = ((h.0, tt), h.1)
asks_both others f (Says w) h = (tt, h)
asks_both others f None h = (tt, h)

-- a field takes a space more than its value
pub spaced_room : (x : Field) → (x ≡ None → ⊥) → room_of x ≡ 1 + value_room x
spaced_room (Number n) h = refl
spaced_room (Signed z) h = refl
spaced_room (Name q) h = refl
spaced_room (Says w) h = refl
spaced_room None h = absurd (h refl)

spaced_text : (f : List ℕ) (x : Field) → (x ≡ None → ⊥) → field_text f x ≡ quoted " " ++ value_text f x
spaced_text f (Number n) h = refl
spaced_text f (Signed z) h = refl
spaced_text f (Name q) h = refl
spaced_text f (Says w) h = refl
spaced_text f None h = absurd (h refl)

pub put_spaced : {l m n : List ℕ} {at s e : ℕ} (f : List ℕ) (x : Field) → (x ≡ None → ⊥) → Put l m at (quoted " ") s → PutIn m n s (value_room x) (value_text f x) e → PutIn l n at (room_of x) (field_text f x) e
put_spaced f x h p q = rw (spaced_room x h, spaced_text f x h) (put_in_then (put_in 1 p (omega arith)) q)

module _ (f l : List ℕ) (at : ℕ) (fields : List Field) where
  -- the fields that are left, once others stand in the buffer
  pub record Left (m : List ℕ) (end : ℕ) (rest : List Field) : Type 0 where
    pub done : List ℕ
    pub put : Put l m at done end
    pub text : done ++ fields_text f rest ≡ fields_text f fields
    pub room : end + rooms_of rest ≤ at + rooms_of fields
    pub named : AllNamed f rest
    pub long : length m ≡ length l

  pub left_less : {m n : List ℕ} {e g : ℕ} {x : Field} {rest : List Field} → Left m e (x ∷ rest) → PutIn m n e (room_of x) (field_text f x) g → length n ≡ length m
      → Left n g rest
  left_less {x = x} {rest} s p h =
      record {
        done = s.done ++ field_text f x;
        put = put_then s.put p.put;
        text = append_assoc s.done (field_text f x) (fields_text f rest) ∙ s.text;
        room = omega (arith, s.room, p.within);
        named = (asks_both _ f x s.named).1;
        long = h ∙ s.long;
      }

  module _ {m : List ℕ} {e i : ℕ} (h : i < length fields) (s : Left m e (drop i fields)) where
    at_first : Left m e (get_or fields i (Number 0) ∷ drop (i + 1) fields)
    at_first = rw add-one (rw (drop-cons fields i (Number 0) h) at s)

    -- the field at i is put
    pub left_more : {n : List ℕ} {g : ℕ} → PutIn m n e (room_of (get_or fields i (Number 0))) (field_text f (get_or fields i (Number 0))) g → length n ≡ length m → Left n g (drop (i + 1) fields)
    left_more p k = left_less at_first p k
