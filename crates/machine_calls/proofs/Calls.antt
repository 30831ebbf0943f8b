-- Bytes as calls: that they are one call at most, and that those in front do not depend on what lies behind.
use Rattle.folds.proofs.Ground.{ℕ, zero, suc, ◌+◌, ◌*◌, ◌-◌, ◌≤◌, ◌<◌, Bool, true, false, cond, ◌&&◌, ◌≡◌, refl, ap, ap₂, List, [], ◌∷◌, ◌++◌, eqb, length, get_or, take, drop, List·getD-append, get_or-append-add, get_or-drop, get_or-take, add-zero, zero-add, add_assoc, add_comm, suc-mul, arith}
use Rattle.folds.specs.Bytes.{number}
use Rattle.machine_rules.specs.declared.Call.{Call}
use Rattle.machine_rules.specs.declared.Call.TheVariants.{Request, Release, GiveUp, Tick}
use Rattle.machine_calls.specs.Calls.{call_of, tag_at, bytes_at, call_in, calls_below}

-- bytes are one call or none
pub data AtMostOne : List Call → Type 0 where
  none : AtMostOne []
  one : (c : Call) → AtMostOne (c ∷ [])

pub at_most_one : (letter tag q : ℕ) → AtMostOne (call_of letter tag q)
unfolding call_of
at_most_one letter tag q =
    when (eqb letter 81) (one (Request tag q))
    (when (eqb letter 82) (one (Release tag q))
    (when (eqb letter 87) (one (GiveUp tag q))
    (when (eqb letter 84 && (eqb tag 0 && eqb q 0)) (one Tick) none)))
  where
    when : (b : Bool) {x y : List Call} → AtMostOne x → AtMostOne y → AtMostOne (cond b x y)
    when true f g = f
    when false f g = g

-- ── the same bytes are the same call, wherever they stand ──
number_alike : (n : ℕ) (l m : List ℕ) (a b : ℕ) → ((k : ℕ) → k < n → get_or l (a + k) 0 ≡ get_or m (b + k) 0) → number n l a ≡ number n m b
unfolding number
number_alike zero l m a b h = refl
number_alike (suc zero) l m a b h = simp add-zero at (h 0 (omega arith))
number_alike (suc (suc n)) l m a b h =
    ap₂ (λ (x y : ℕ). x + 256 * y) (simp add-zero at (h 0 (omega arith)))
    (number_alike (suc n) l m (a + 1) (b + 1) (λ k i. simp (add_assoc, add_comm 1 k) (h (k + 1) (omega arith))))

module _ (w : ℕ) (wide : 2 ≤ w) where
  bytes_alike : (l m : List ℕ) (a b : ℕ) → ((k : ℕ) → k < w → get_or l (a + k) 0 ≡ get_or m (b + k) 0) → bytes_at w l a ≡ bytes_at w m b
  unfolding tag_at
  bytes_alike l m a b h =
      let letter : get_or l a 0 ≡ get_or m b 0 = simp add-zero at (h 0 (omega arith)) in
      let tag : number (w - 2) l (a + 1) ≡ number (w - 2) m (b + 1) =
      number_alike (w - 2) l m (a + 1) (b + 1) (λ k i. simp (add_assoc, add_comm 1 k) (h (k + 1) (omega arith))) in
      rw (letter, tag, h (w - 1) (omega arith))

  -- in a list with others behind it
  pub bytes_front : (l x : List ℕ) (at : ℕ) → at + w ≤ length l → bytes_at w (l ++ x) at ≡ bytes_at w l at
  bytes_front l x at h = bytes_alike (l ++ x) l at at (λ k i. List·getD-append l x 0 (at + k) (omega arith))

  -- behind a list
  pub bytes_behind : (l x : List ℕ) (at : ℕ) → length l ≡ at → bytes_at w (l ++ x) at ≡ bytes_at w x 0
  bytes_behind l x at e = bytes_alike (l ++ x) x at 0 (λ k i. rw (← e, zero-add) (get_or-append-add l x k 0))

  -- taken out of a list
  pub bytes_part : (l : List ℕ) (at : ℕ) → bytes_at w (take w (drop at l)) 0 ≡ bytes_at w l at
  bytes_part l at = bytes_alike (take w (drop at l)) l 0 at (λ k i. rw (zero-add, get_or-take, get_or-drop))

  -- the first n calls do not depend on the bytes behind them
  pub calls_front : (l x : List ℕ) (n : ℕ) → n * w ≤ length l → calls_below w n (l ++ x) ≡ calls_below w n l
  unfolding calls_below
  calls_front l x zero h = refl
  calls_front l x (suc n) h =
      let k : n * w + w ≤ length l = omega (arith, suc-mul n w) in
      ap₂ (λ (cs ds : List Call). cs ++ ds) (calls_front l x n (omega arith)) (ap call_in (bytes_front l x (n * w) k))
