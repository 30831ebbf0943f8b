-- Counting the taken seats of a queue, from the first on, with the hold times of those who sit there.
use Rattle.machine_steps.proofs.Ground.{ℕ, ◌*◌, ◌≤◌, ◌<◌, ◌≡◌, ◌≢◌, sym, List, eqb, get_or, arith, eq-eqb, ne_eqb}
use Rattle.machine_steps.proofs.Ground.{sum_below, find_none, on_le, seat, taken, taken_holds, hold_of}
use Rattle.folds.proofs.Ground.{not}
use Rattle.folds.proofs.Tests.{all_from, find_at}
use Rattle.machine_steps.specs.Inner.{AheadOf}

-- with the first n seats taken and the next one empty, where there is one more, n are ahead
pub ahead_is : (figures seats : List ℕ) (q k n h : ℕ) → n ≤ 64 → h ≡ sum_below n (hold_of figures seats q k) → h ≤ n * 65535
    → ((j : ℕ) → j < n → get_or seats (seat q k j) 0 ≢ 0) → (n < 64 → get_or seats (seat q k n) 0 ≡ 0)
    → AheadOf figures seats q k (record { count = n; holds = h })
unfolding taken taken_holds
ahead_is figures seats q k n h few sum small full free =
    let t = all_from n (λ j. not (eqb (get_or seats (seat q k j) 0) 0)) (λ j l. rw (ne_eqb _ 0 (full j l))) in
    let counted : taken seats q k ≡ n =
    on_le (taken seats q k ≡ n) 64 n
    (λ m. let e : n ≡ 64 = omega arith in rw e (find_none 64 _ (rw e at t)))
    (λ l. find_at 64 n _ l t (eq-eqb _ 0 (free l))) in
    record { counted = sym counted; held = rw counted sum; few = few; small = omega arith }
