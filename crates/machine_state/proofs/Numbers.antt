-- Laws of eight bytes as one number: it tells whether all of them are 0, and whether those from some place on are 255.
use Rattle.machine_state.proofs.Ground.{ℕ, zero, suc, ◌+◌, ◌-◌, ◌*◌, ◌/◌, ◌<◌, ◌≤◌, Bool, true, ◌&&◌, ◌||◌, and_assoc, or-true, ◌≡◌}
use Rattle.machine_state.proofs.Ground.{refl, ap, ◌∙◌, List, eqb, ltb, get_or, arith, eqb-true, eq-eqb, ne_eqb, ltb-true, lt-ltb}
use Rattle.machine_state.proofs.Ground.{all_below, number, same_test, all_at, all_from, or_out, by_eq, on_eq, on_le, tail_test}
use Rattle.folds.proofs.Ground.{◌^◌, ◌↔◌, pow-succ', div-lt_iff_lt-mul}
use Rattle.std.specs.Int.{w64, from_le_bytes}
use Rattle.folds.proofs.Searches.{same_eqb}
use lib.Pow.{pow_pos, pow-add}

module _ (s : List ℕ) where
  number_more : (w at : ℕ) → number (suc w) s at ≡ get_or s at 0 + 256 * number w s (at + 1)
  unfolding number
  number_more zero at = omega arith
  number_more (suc w) at = refl

  -- it is what the library makes of them
  pub le_bytes : {n : ℕ} → n ≡ from_le_bytes w64 s → n ≡ number 8 s 0
  unfolding number
  le_bytes e = omega (arith, e)

  -- a number is 0 exactly when all its bytes are
  zero_more : (a b : ℕ) → eqb (a + 256 * b) 0 ≡ (eqb a 0 && eqb b 0)
  zero_more a b =
      by_eq (λ (d : Bool). eqb (a + 256 * b) 0 ≡ (d && eqb b 0)) a 0
      (λ e. same_eqb (a + 256 * b) 0 b 0 (λ z. omega arith) (λ z. omega arith))
      (λ n. ne_eqb (a + 256 * b) 0 (λ z. n (omega arith)))

  pub all_zero : eqb (number 8 s 0) 0 ≡ all_below 8 (λ k. eqb (get_or s k 0) 0)
  unfolding number all_below
  all_zero = simp (zero_more, and_assoc)

  module _ (low : (x : ℕ) → x < 8 → get_or s x 0 < 256) where
    below : (w at : ℕ) → at + w ≤ 8 → number w s at < 256 ^ w
    unfolding number
    below zero at h = omega arith
    below (suc w) at h = omega (arith, number_more w at, low at (omega arith), below w (at + 1) (omega arith), pow-succ' 256 w)

    -- the bytes from c on are 255 exactly when the number is within 256 ^ c of the end of its range
    tail_at : (w c at x : ℕ) → at + w ≤ 8 → 256 ^ w ≤ number w s at + 256 ^ c → at + c ≤ x → x < at + w → get_or s x 0 ≡ 255
    tail_at zero c at x h e l m = let bad : ⊥ = omega arith in absurd bad
    tail_at (suc w) zero at x h e l m =
        let one = number_more w at in
        let small = low at (omega arith) in
        on_eq (get_or s x 0 ≡ 255) x at
        (λ f. rw f (omega (arith, below w (at + 1) (omega arith), pow-succ' 256 w)))
        (λ f. tail_at w zero (at + 1) x (omega arith) (omega (arith, pow-succ' 256 w)) (omega arith) (omega arith))
    tail_at (suc w) (suc c) at x h e l m =
        let one = number_more w at in
        let small = low at (omega arith) in
        tail_at w c (at + 1) x (omega arith) (omega (arith, pow-succ' 256 w, pow-succ' 256 c)) (omega arith) (omega arith)

    tail_from : (w c at : ℕ) → at + w ≤ 8 → c ≤ w → ((x : ℕ) → at + c ≤ x → x < at + w → get_or s x 0 ≡ 255)
        → 256 ^ w ≤ number w s at + 256 ^ c
    tail_from zero zero at h l f = omega arith
    tail_from zero (suc c) at h l f = let bad : ⊥ = omega arith in absurd bad
    tail_from (suc w) zero at h l f =
        let more = tail_from w zero (at + 1) (omega arith) (omega arith) (λ x a b. f x (omega arith) (omega arith)) in
        omega (arith, number_more w at, f at (omega arith) (omega arith), pow-succ' 256 w)
    tail_from (suc w) (suc c) at h l f =
        let more = tail_from w c (at + 1) (omega arith) (omega arith) (λ x a b. f x (omega arith) (omega arith)) in
        omega (arith, number_more w at, pow-succ' 256 w, pow-succ' 256 c)

-- powers of 256 as powers of 2
bits : (n : ℕ) → 256 ^ n ≡ 2 ^ (8 * n)
bits zero = refl
bits (suc n) =
    let more : 8 * suc n ≡ 8 + 8 * n = omega arith in
    rw (more, pow-add 2 8 (8 * n), ← bits n) (pow-succ' 256 n)

module _ (s : List ℕ) (low : (x : ℕ) → x < 8 → get_or s x 0 < 256) (c : ℕ) (few : c ≤ 8) where
  -- a test of that is the test of the slots
  tail_tested : (b : Bool) → (b ≡ true → 18446744073709551616 ≤ number 8 s 0 + 256 ^ c)
      → (18446744073709551616 ≤ number 8 s 0 + 256 ^ c → b ≡ true) → b ≡ tail_test s c
  unfolding tail_test
  tail_tested b f g = same_test b _ there back
    where
      test : ℕ → Bool
      test i = ltb i c || eqb (get_or s i 0) 255

      there : b ≡ true → all_below 8 test ≡ true
      there t =
          all_from 8 test
          (λ i l. on_le (test i ≡ true) c i
          (λ a. rw (eq-eqb _ 255 (tail_at s low 8 c 0 i (omega arith) (f t) (omega arith) (omega arith))) (or-true (ltb i c)))
          (λ a. rw (lt-ltb i c a)))

      back : all_below 8 test ≡ true → b ≡ true
      back t =
          g (tail_from s low 8 c 0 (omega arith) few
          (λ x l m. or_out (ltb x c) (eqb (get_or s x 0) 255) (get_or s x 0 ≡ 255) (all_at 8 x test t (omega arith))
          (λ e. let a = ltb-true x c e in let bad : ⊥ = omega arith in absurd bad)
          (λ e. eqb-true _ 255 e)))

  -- for c = 0 by the number itself, and else by how far it is from the largest, without the last c - 1 bytes of that
  pub whole_tail : c ≡ 0 → eqb (number 8 s 0) 18446744073709551615 ≡ tail_test s c
  whole_tail z =
      let one : 256 ^ c ≡ 1 = rw z in
      tail_tested (eqb (number 8 s 0) 18446744073709551615)
      (λ t. omega (arith, eqb-true (number 8 s 0) 18446744073709551615 t))
      (λ h. eq-eqb (number 8 s 0) 18446744073709551615 (omega (arith, below s low 8 0 (omega arith))))

  pub part_tail : 1 ≤ c → ltb ((18446744073709551615 - number 8 s 0) / 2 ^ (8 * c - 8)) 256 ≡ tail_test s c
  part_tail some =
      let k : ℕ = 2 ^ (8 * c - 8) in
      let taken : ℕ = 18446744073709551615 - number 8 s 0 in
      let pos : 0 < k = pow_pos (8 * c - 8) in
      let more : 8 * c ≡ 8 + (8 * c - 8) = omega arith in
      let e : 256 ^ c ≡ 256 * k = bits c ∙ ap (λ (x : ℕ). 2 ^ x) more ∙ pow-add 2 8 (8 * c - 8) in
      let iff : (taken / k < 256) ↔ (taken < 256 * k) = div-lt_iff_lt-mul pos in
      tail_tested (ltb (taken / k) 256)
      (λ t. omega (arith, iff.0 (ltb-true (taken / k) 256 t)))
      (λ h. lt-ltb (taken / k) 256 (iff.1 (omega arith)))
