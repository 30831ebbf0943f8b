-- Counting up to the top is counting without an end, up to the top.
use Rattle.folds.proofs.Ground.{ℕ, ◌+◌, max, min, Bool, true, false, cond, ◌≡◌, arith, lt-ltb, le-ltb}
use Rattle.folds.proofs.Searches.{on_le}
use Rattle.meters.specs.Meters.{top_count, one_more, longer}
use Rattle.meter_rules.specs.Waited.{unbounded}

pub more_top : (on : Bool) (n : ℕ) → one_more on (min top_count n) ≡ min top_count (unbounded on n)
unfolding one_more
more_top true n =
    on_le _ (n + 1) top_count
    (λ l. rw (lt-ltb (min top_count n) top_count (omega arith)) (omega arith))
    (λ l. rw (le-ltb (min top_count n) top_count (omega arith)) (omega arith))
more_top false n = omega arith

pub longer_top : (on : Bool) (x n : ℕ) → longer on (min top_count (cond on x 0)) (min top_count n) ≡ min top_count (max n (cond on x 0))
unfolding longer
longer_top true x n =
    on_le _ (min top_count x) (min top_count n)
    (λ l. rw (le-ltb (min top_count n) (min top_count x) l) (omega arith))
    (λ l. rw (lt-ltb (min top_count n) (min top_count x) l) (omega arith))
longer_top false x n = omega arith
