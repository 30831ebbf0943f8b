-- Beside Equation 6 as printed. Laws for readers: no side is smaller than by that, so whoever meets its requirement met it before.
use Rattle.folds.proofs.Ground.{zero, suc}
use Rattle.analysis_requirements.proofs.Ground.{ℕ, ◌+◌, ◌*◌, ◌≤◌, Bool, true, false, cond, ◌&&◌, ◌≡◌, mul-le-mul, arith, sum_below}
use Rattle.analysis_requirements.proofs.Ground.{Plan, processor_of, ceil_div, waiting_side, met, slack, ℤ, pos}
use lib.IntN.{negsuc}
use lib.Signed.{le_z}
use native.Mathlib.Nat.{mul_assoc}
use Rattle.folds.proofs.Ground.{le-leb, leb-true}
use Rattle.analysis_equations.specs.Sharing.{uses, global}
use Rattle.analysis_equations.specs.HoldTimes.{budget, wait_time}
use Rattle.analysis_equations.specs.Blocking.{count_on, fellow_holds, section_wait, waiting_on}

-- a sum of smaller terms is smaller
sum_le : (n : ℕ) (f g : ℕ → ℕ) → ((k : ℕ) → f k ≤ g k) → sum_below n f ≤ sum_below n g
unfolding sum_below
sum_le zero f g h = omega arith
sum_le (suc n) f g h = omega (arith, sum_le n f g h, h n)

module _ (p : Plan) (i : ℕ) where
  -- Equation 6 as printed: "(i's sections on q) × ceil(..) × wait time of k on q", and Equation 7 with it
  abbrev pub printed_on : ℕ → ℕ
  printed_on q = count_on p i q * ceil_div (2 * fellow_holds p i q) (budget p (processor_of p i) q) * wait_time p (processor_of p i) q

  abbrev pub printed_side : ℕ
  printed_side = sum_below p.resources (λ q. cond (global p q && uses p i q) (printed_on q) 0)

  printed_on_lem : (q : ℕ) → printed_on q ≤ waiting_on p i q
  unfolding waiting_on section_wait
  printed_on_lem q =
      let c : ℕ = ceil_div (2 * fellow_holds p i q) (budget p (processor_of p i) q) in
      let w : ℕ = wait_time p (processor_of p i) q in
      let more : c * w ≤ (c + 1) * w = mul-le-mul {n₁ = c} {n₂ = c + 1} (omega arith) (omega arith) in
      let all : count_on p i q * (c * w) ≤ count_on p i q * ((c + 1) * w + fellow_holds p i q) = mul-le-mul (omega arith) (omega (arith, more)) in
      rw (mul_assoc (count_on p i q) c w) all

  pub printed_less : printed_side ≤ waiting_side p i
  unfolding waiting_side
  printed_less = sum_le p.resources _ _ (λ q. one (global p q && uses p i q) (printed_on_lem q))
    where
      one : (b : Bool) {x y : ℕ} → x ≤ y → cond b x 0 ≤ cond b y 0
      one true l = l
      one false l = omega arith

  pub met_as_printed : met p i ≡ true → le_z (pos printed_side) (slack p i) ≡ true
  unfolding met
  met_as_printed = less (slack p i)
    where
      less : (z : ℤ) → le_z (pos (waiting_side p i)) z ≡ true → le_z (pos printed_side) z ≡ true
      less (pos n) t = le-leb printed_side n (omega (arith, printed_less, leb-true (waiting_side p i) n t))
      less (negsuc n) t = t
