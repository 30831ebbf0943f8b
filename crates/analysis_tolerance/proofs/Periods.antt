-- Periods that are counted as t rises: how many have begun at any t, where the last of them ends, and what changes from t to t + 1.
use Rattle.analysis_tolerance.proofs.Ground.{ℕ, ◌+◌, ◌*◌, ◌-◌, ◌/◌, ◌%◌, ◌<◌, ◌≤◌, cond, eqb, ◌≡◌}
use Rattle.analysis_tolerance.proofs.Ground.{suc-mul, arith, ceil_div, end_of}
use Rattle.folds.proofs.Ground.{div-add-mod', mod-lt}

-- at any t: ceil(t / v) is the one number of periods whose last ends at t or after it, by less than a period
pub record Begun (t v c : ℕ) : Type 0 where
  pub reached : t ≤ c * v
  pub last : c * v < t + v

pub begun : (t v : ℕ) → 1 ≤ v → Begun t v (ceil_div t v)
begun t v l =
    let x : ℕ = t + (v - 1) in
    let whole : x / v * v + x % v ≡ x = div-add-mod' x v in
    let rest : x % v < v = mod-lt x l in
    record { reached = omega arith; last = omega arith }

fewer : (v c d : ℕ) → c < d → c * v + v ≤ d * v
fewer v c d l = grind arith

pub begun_one : {t v c d : ℕ} → Begun t v c → Begun t v d → c ≡ d
begun_one {t} {v} {c} {d} a b = grind (arith, fewer)

-- from t to t + 1: where the last period ends at t another begins, and else all stays; and so for as many times u
module _ (t v : ℕ) (l : 1 ≤ v) where
  pub begun_next : ceil_div (t + 1) v ≡ ceil_div t v + cond (eqb (end_of v t) t) 1 0
  begun_next =
      let now = begun t v l in
      begun_one (begun (t + 1) v l) (grind (arith, suc-mul))

  pub begun_times : (u : ℕ) → ceil_div (t + 1) v * u ≡ ceil_div t v * u + cond (eqb (end_of v t) t) u 0
  begun_times u = rw begun_next (grind arith)
