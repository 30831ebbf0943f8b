-- Laws of text in a buffer, for the crates that put several texts one after the other; and what shows that `decimal` is decimal.
use Rattle.print_text.proofs.Ground.{ℕ, zero, suc, ◌+◌, ◌-◌, ◌*◌, ◌/◌, ◌%◌, ◌^◌, ◌<◌, ◌≤◌, Bool, true, false, cond, ◌≡◌, refl, sym}
use Rattle.print_text.proofs.Ground.{ap, ◌∙◌, List, [], ◌∷◌, ◌++◌, append_assoc, length, take, drop, take-append-drop, zero-add}
use Rattle.print_text.proofs.Ground.{add-zero, not-suc-le-zero, arith, ltb-true, ℤ, pos, negsuc, nat_abs, lt_z, add-one, w64, SFits, to_z, of_z, to_z-of_z}
use Rattle.print_text.proofs.Ground.{quoted, places_to, decimals, decimal, signed, Put, PutIn}
use Rattle.folds.proofs.Ground.{set, take-set-le, drop-cons, drop-set-lt, get_or-set_same, lt-length-set, append_snoc, ⊎_elim, append-nil, ltb, get_or, length-append, length-drop, drop_of_length-le, List·getD-append, length-take-le, take_all, take-append_seam, drop-append-add, drop-drop, drop-nil, get_or_at, suc-add, eq-or-lt_of_le, le_of_suc-le-suc, ltb-false, lt-ltb}
use Rattle.std.specs.Prelude.{Option, None, Some, IfNone, IfSome, unwrap_or}
use Rattle.print_text.specs.Text.{most_digits, most_signed, value_from, value_of}
use Rattle.print_text.specs.Inner.{Digits}

-- what a buffer holds up to where a text ends, and from there on; the place may lie behind the buffer's end too
front : (at : ℕ) (l a : List ℕ) → take (at + length a) (take at l ++ (a ++ drop (at + length a) l)) ≡ take at l ++ a
front zero l a = rw zero-add (take-append_seam a _)
front (suc at) [] a = rw (drop-nil, append-nil) (take_all (suc at + length a) a (omega arith))
front (suc at) (x ∷ l) a = rw suc-add (ap (λ (r : List ℕ). x ∷ r) (front at l a))

behind : (at k : ℕ) (l a : List ℕ) → drop (at + length a + k) (take at l ++ (a ++ drop (at + length a) l)) ≡ drop (at + length a + k) l
behind zero k l a = rw zero-add (drop-append-add a (drop (length a) l) k ∙ drop-drop k (length a) l)
behind (suc at) k [] a =
    rw (drop-nil (suc at + length a), append-nil, drop-nil) (drop_of_length-le a {i = suc at + length a + k} (omega arith))
behind (suc at) k (x ∷ l) a = rw (suc-add, suc-add) (behind at k l a)

-- what a buffer holds up to where the text ends, behind that, and its length
pub put_front : {l m a : List ℕ} {at e : ℕ} → Put l m at a e → take e m ≡ take at l ++ a
put_front {l} {m} {a} {at} p = rw (p.ends, p.held) (front at l a)

pub put_behind : {l m a : List ℕ} {at e : ℕ} → Put l m at a e → drop e m ≡ drop e l
put_behind {l} {m} {a} {at} p = rw (p.ends, p.held) (simp add-zero at (behind at 0 l a))

pub put_length : {l m a : List ℕ} {at e : ℕ} → Put l m at a e → at + length a ≤ length l → length m ≡ length l
put_length {l} {m} {a} {at} p h =
    ap length p.held ∙ length-append (take at l) (a ++ drop (at + length a) l)
    ∙ omega (arith, length-append a (drop (at + length a) l), length-take-le at l (omega arith), length-drop (at + length a) l)

-- no text
pub put_none : (l : List ℕ) (at : ℕ) → Put l l at [] at
put_none l at = record { held = rw add-zero (sym (take-append-drop at l)); ends = sym (add-zero at) }

-- one text and then another where it ends. `put_then (put_then p q) r` is of `a ++ b ++ c`, `put_then p (put_then q r)` of
-- `a ++ (b ++ c)`
pub put_then : {l m n a b : List ℕ} {at e f : ℕ} → Put l m at a e → Put m n e b f → Put l n at (a ++ b) f
put_then {l} {m} {n} {a} {b} {at} {e} {f} p q =
    let k : at + length a + length b ≡ at + length (a ++ b) = omega (arith, length-append a b) in
    let d : drop (e + length b) m ≡ drop (at + length (a ++ b)) l = rw (p.ends, p.held, ← k) (behind at (length b) l a) in
    record {
      held = q.held ∙ rw (put_front p, d) (append_assoc (take at l) a _ ∙ ap (λ (r : List ℕ). take at l ++ r) (sym (append_assoc a b _)));
      ends = q.ends ∙ rw p.ends k;
    }

-- the same with the room that they take
pub put_in : {l m a : List ℕ} {at e : ℕ} (room : ℕ) → Put l m at a e → length a ≤ room → PutIn l m at room a e
put_in room p h = record { put = p; within = omega (arith, p.ends) }

pub put_wider : {l m a : List ℕ} {at e room : ℕ} (more : ℕ) → PutIn l m at room a e → room ≤ more → PutIn l m at more a e
put_wider more p h = record { put = p.put; within = omega (arith, p.within) }

pub put_in_then : {l m n a b : List ℕ} {at e f r s : ℕ} → PutIn l m at r a e → PutIn m n e s b f → PutIn l n at (r + s) (a ++ b) f
put_in_then p q = record { put = put_then p.put q.put; within = omega (arith, p.within, q.within) }

-- the text of an integer that the machine has: a minus and how far below zero it is, or the number itself
minus_put : {l m n : List ℕ} {at e f : ℕ} (z : ℤ) → lt_z z (pos 0) ≡ true → Put l m at (quoted "-") e → PutIn m n e most_digits (decimal (nat_abs z)) f → PutIn l n at most_signed (signed z) f
minus_put (pos a) t p q = absurd (not-suc-le-zero (ltb-true a 0 t))
minus_put (negsuc a) t p q = put_in_then (put_in 1 p (omega arith)) q

plain_put : {l n : List ℕ} {at f : ℕ} (z : ℤ) → lt_z z (pos 0) ≡ false → PutIn l n at most_digits (decimal (nat_abs z)) f → PutIn l n at most_signed (signed z) f
plain_put (pos a) t q = put_wider most_signed q (omega arith)
plain_put (negsuc a) t q = absurd cc

module _ {l n : List ℕ} {at f k : ℕ} (z : ℤ) (s : SFits w64 z) (h : k ≡ nat_abs (to_z w64 (of_z w64 z))) where
  pub put_below : {m : List ℕ} {e : ℕ} → lt_z (to_z w64 (of_z w64 z)) (pos 0) ≡ true → Put l m at (quoted "-") e → PutIn m n e most_digits (decimal k) f → PutIn l n at most_signed (signed z) f
  put_below t p q = minus_put z (rw (to_z-of_z s) at t) p (rw (h, to_z-of_z s) at q)

  pub put_not_below : lt_z (to_z w64 (of_z w64 z)) (pos 0) ≡ false → PutIn l n at most_digits (decimal k) f → PutIn l n at most_signed (signed z) f
  put_not_below t q = plain_put z (rw (to_z-of_z s) at t) (rw (h, to_z-of_z s) at q)

-- the number of digits, by what n is
by_places : (R : ℕ → Type 0) (k n : ℕ) → (n < 10 → R 1) → (10 ≤ n → R (suc (places_to k (n / 10)))) → R (places_to (suc k) n)
unfolding places_to
by_places R k n f g = pick (ltb n 10) refl
  where
    pick : (b : Bool) → ltb n 10 ≡ b → R (cond b 1 (suc (places_to k (n / 10))))
    pick true e = f (ltb-true n 10 e)
    pick false e = g (ltb-false n 10 e)

pub places_one : (k n : ℕ) → n < 10 → places_to k n ≡ 1
unfolding places_to
places_one zero n l = refl
places_one (suc k) n l = rw (lt-ltb n 10 l)

pub places_more : (k n : ℕ) → 10 ≤ n → places_to (suc k) n ≡ suc (places_to k (n / 10))
places_more k n l = by_places (λ p. p ≡ suc (places_to k (n / 10))) k n (λ s. let bad : ⊥ = omega arith in absurd bad) (λ m. refl)

pub places_low : (k n : ℕ) → 1 ≤ places_to k n
unfolding places_to
places_low zero n = omega arith
places_low (suc k) n = by_places (λ p. 1 ≤ p) k n (λ l. omega arith) (λ l. omega arith)

pub places_high : (k n : ℕ) → places_to k n ≤ suc k
unfolding places_to
places_high zero n = omega arith
places_high (suc k) n = by_places (λ p. p ≤ suc (suc k)) k n (λ l. omega arith) (λ l. omega (arith, places_high k (n / 10)))

places_by_power : (k j n : ℕ) → k ≤ j → 10 ^ k ≤ n → n < 10 * 10 ^ k → places_to j n ≡ suc k
places_by_power zero j n h l m = places_one j n (omega arith)
places_by_power (suc k) zero n h l m = absurd (omega arith)
places_by_power (suc k) (suc j) n h l m =
    places_more j n (omega arith) ∙ ap suc (places_by_power k j (n / 10) (omega arith) (omega arith) (omega arith))

-- what the logarithm of a number says of its digits: there is none of 0, which has one digit
pub places_of_log : (n : ℕ) (r : Option ℕ) → IfNone r (n ≡ 0) → IfSome r (λ k. 10 ^ k ≤ n) → IfSome r (λ k. n < 10 * 10 ^ k) → IfSome r (λ k. k < 20) → Digits n (unwrap_or r 0 + 1)
places_of_log n None z l m b = record { same = rw z (rw (places_one 19 0 (omega arith))); low = omega arith; high = omega arith }
places_of_log n (Some k) z l m b = record { same = rw add-one (sym (places_by_power k 19 n (omega (arith, b)) l m)); low = omega arith; high = omega (arith, b) }

-- a number has no more than its digits
places_enough : (k n : ℕ) → n < 10 ^ suc k → n < 10 ^ places_to k n
unfolding places_to
places_enough zero n l = l
places_enough (suc k) n l =
    by_places (λ p. n < 10 ^ p) k n (λ s. s) (λ m. let r : n / 10 < 10 ^ places_to k (n / 10) = places_enough k (n / 10) (omega arith) in omega arith)

pub digits_length : (k n : ℕ) → length (decimals k n) ≡ k
unfolding decimals
digits_length zero n = refl
digits_length (suc k) n = omega (arith, length-append (decimals k (n / 10)) ((48 + n % 10) ∷ []), digits_length k (n / 10))

-- a buffer with the digits of n that are still to be put: they end where the place p is now
abbrev pub with_digits : List ℕ → ℕ → ℕ → ℕ → List ℕ
with_digits m at p n = take at m ++ (decimals (p - at) n ++ drop p m)

-- a store, and what begins there
from_store : (m : List ℕ) (i d : ℕ) → i < length m → drop i (set m i d) ≡ d ∷ drop (suc i) m
from_store m i d l =
    drop-cons (set m i d) i 0 (lt-length-set m i d l) ∙ rw (get_or-set_same m i d 0 l, drop-set-lt (suc i) m i d (omega arith))

digit_at : (m : List ℕ) (at i p n : ℕ) → p ≡ suc i → at ≤ i → i < length m → with_digits (set m i (48 + n % 10)) at i (n / 10) ≡ with_digits m at p n
unfolding decimals
digit_at m at i p n e h l =
    let k : suc i - at ≡ suc (i - at) = omega arith in
    rw (e, take-set-le at m i (48 + n % 10) h, from_store m i (48 + n % 10) l, k)
    (ap (λ (r : List ℕ). take at m ++ r) (sym (append_snoc (decimals (i - at) (n / 10)) (48 + n % 10) (drop (suc i) m))))

-- the digit before p is put, and the others are those of a tenth
pub digit_put : (m : List ℕ) (at p n : ℕ) → at < p → p ≤ length m → with_digits (set m (p - 1) (48 + n % 10)) at (p - 1) (n / 10) ≡ with_digits m at p n
digit_put m at p n h l = digit_at m at (p - 1) p n (omega arith) (omega arith) (omega arith)

-- no digit is left
pub digits_put : {l m : List ℕ} {at count n : ℕ} (rest p : ℕ) → Digits n count → p ≡ at → with_digits m at p rest ≡ with_digits l at (at + count) n → PutIn l m at most_digits (decimal n) (at + count)
unfolding decimals
digits_put {l} {m} {at} {count} {n} rest p d h e =
    let z : at - at ≡ 0 = omega arith in
    let k : at + count - at ≡ count = omega arith in
    let f : count ≡ length (decimal n) = rw digits_length d.same in
    record {
      put = record { held = sym (take-append-drop at m) ∙ rw (h, z, k, d.same) at e ∙ rw (digits_length) refl; ends = ap (λ (c : ℕ). at + c) f };
      within = omega (arith, d.high);
    }

-- a digit read after others
value_last : (so d : ℕ) (text : List ℕ) → value_from so (text ++ (d ∷ [])) ≡ value_from so text * 10 + (d - 48)
unfolding value_from
value_last so d [] = refl
value_last so d (c ∷ text) = value_last (so * 10 + (c - 48)) d text

digits_value : (k n : ℕ) → n < 10 ^ k → value_of (decimals k n) ≡ n
unfolding decimals value_from
digits_value zero n l = omega arith
digits_value (suc k) n l =
    value_last 0 (48 + n % 10) (decimals k (n / 10)) ∙ omega (arith, digits_value k (n / 10) (omega arith))

-- `decimal` is decimal: it says the number, each byte of it is a digit, and the first is not the digit zero unless the number is 0
pub decimal_value : (n : ℕ) → n < 10 ^ 20 → value_of (decimal n) ≡ n
decimal_value n l = digits_value (places_to 19 n) n (places_enough 19 n l)

digits_digit : (k n i : ℕ) → i < k → (48 ≤ get_or (decimals k n) i 0) × (get_or (decimals k n) i 0 ≤ 57)
unfolding decimals
digits_digit zero n i l = absurd (not-suc-le-zero l)
digits_digit (suc k) n i l =
    ⊎_elim
    (λ e. rw (get_or_at (decimals k (n / 10)) (48 + n % 10) [] 0 i (digits_length k (n / 10) ∙ sym e)) (omega arith))
    (λ s. rw (List·getD-append (decimals k (n / 10)) ((48 + n % 10) ∷ []) 0 i (rw digits_length s)) (digits_digit k (n / 10) i s))
    (eq-or-lt_of_le (le_of_suc-le-suc l))

pub decimal_digit : (n i : ℕ) → i < length (decimal n) → (48 ≤ get_or (decimal n) i 0) × (get_or (decimal n) i 0 ≤ 57)
decimal_digit n i l = digits_digit (places_to 19 n) n i (rw digits_length at l)

one_digit : (n : ℕ) → 0 < n → n < 10 → 49 ≤ get_or (decimals 1 n) 0 0
unfolding decimals
one_digit n h l = omega arith

digits_first : (k n : ℕ) → 0 < n → n < 10 ^ suc k → 49 ≤ get_or (decimals (places_to k n) n) 0 0
unfolding places_to decimals
digits_first zero n h l = one_digit n h l
digits_first (suc k) n h l =
    by_places (λ p. 49 ≤ get_or (decimals p n) 0 0) k n
    (λ s. one_digit n h s)
    (λ m. rw (List·getD-append (decimals (places_to k (n / 10)) (n / 10)) ((48 + n % 10) ∷ []) 0 0 (rw digits_length (places_low k (n / 10)))) (digits_first k (n / 10) (omega arith) (omega arith)))

pub decimal_first : (n : ℕ) → 0 < n → n < 10 ^ 20 → 49 ≤ get_or (decimal n) 0 0
decimal_first n h l = digits_first 19 n h l

-- examples
pub text_examples :
    (quoted "bus" ≡ 98 ∷ 117 ∷ 115 ∷ [])
    × (decimal 0 ≡ quoted "0")
    × (decimal 65535 ≡ quoted "65535")
    × (decimal 18446744073709551615 ≡ quoted "18446744073709551615")
    × (value_of (quoted "65535") ≡ 65535)
    × (signed (pos 17) ≡ quoted "17")
    × (signed (negsuc 3) ≡ quoted "-4")
    × (signed (negsuc 9223372036854775807) ≡ quoted "-9223372036854775808")
unfolding places_to decimals value_from
text_examples = (refl, refl, refl, refl, refl, refl, refl, refl)
