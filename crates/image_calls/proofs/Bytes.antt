-- The bytes that a list of calls in bytes leaves.
use Rattle.image_calls.proofs.Ground.{ℕ, ◌+◌, ◌*◌, ◌≡◌, List, ◌++◌, length, Call, LeftBy, begun, called}
use Rattle.folds.proofs.Ground.{◌/◌, append-nil, add-one}
use Rattle.machine_calls.specs.declared.CallBytes.{CallBytes}
use Rattle.machine_calls.specs.Calls.{bytes_at, call_in, calls_below, calls_of}
use Rattle.machine_calls.proofs.Calls.{AtMostOne, none, one, at_most_one}
use Rattle.image_calls.specs.Replies.{AfterLent}

-- a turn of the loop over a list of calls
one_left : (f b : List ℕ) (before : List Call) (l next : List ℕ) (cs : List Call) → AtMostOne cs → LeftBy f b before l → AfterLent f l cs next
    → LeftBy f b (before ++ cs) next
one_left f b before l next cs none r e = rw (e, append-nil) r
one_left f b before l next cs (one c) r n = called r n

pub left_none : (f s : List ℕ) (w : ℕ) {b : List ℕ} → LeftBy f b (calls_below w 0 s) b
unfolding calls_below
left_none f s w = begun

pub left_step : (f s : List ℕ) (w x : ℕ) {b l next : List ℕ} {bytes : CallBytes}
    → LeftBy f b (calls_below w x s) l
    → bytes ≡ bytes_at w s (x * w)
    → AfterLent f l (call_in bytes) next
    → LeftBy f b (calls_below w (x + 1) s) next
unfolding calls_below
left_step f s w x {b} {l} {next} r e n =
    rw add-one (one_left f b (calls_below w x s) l next (call_in (bytes_at w s (x * w))) (at_most_one _ _ _) r (rw e at n))

-- once all whole calls are passed
pub all_left : (f s : List ℕ) (w x : ℕ) {b l : List ℕ} → x ≡ length s / w → LeftBy f b (calls_below w x s) l → LeftBy f b (calls_of w s) l
all_left f s w x e r = rw e at r
