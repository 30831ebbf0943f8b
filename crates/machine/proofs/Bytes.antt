-- The state after a list of calls in bytes.
use Rattle.machine.proofs.Ground.{ℕ, ◌+◌, ◌*◌, ◌-◌, ◌≤◌, ◌<◌, ◌≡◌, refl, sym, ap, ◌∙◌, List, ◌++◌, length, arith, Call, calls_below, State, Returned, called, started}
use Rattle.folds.proofs.Ground.{◌/◌, take, drop, append-nil, add-one}
use Rattle.std.proofs.Common.{length-append, length-drop}
use Rattle.std.proofs.Math.Seq.{take-append_seam, drop-append_seam}
use Rattle.std.proofs.lemmas.List.{drop-drop}
use Rattle.machine_calls.specs.declared.CallBytes.{CallBytes}
use Rattle.machine_calls.specs.Calls.{bytes_at, call_in, calls_of}
use Rattle.machine_calls.proofs.Calls.{AtMostOne, none, one, at_most_one, bytes_part}
use Rattle.machine.specs.Replies.{AfterBytes}

-- a turn of the loop over a list of calls
one_returned : (f : List ℕ) (start : State) (before : List Call) (s t : State) (cs : List Call) → AtMostOne cs
    → Returned f start before s
    → AfterBytes f s cs t
    → Returned f start (before ++ cs) t
one_returned f start before s t cs none r e = rw (e, append-nil) r
one_returned f start before s t cs (one c) r n = called r n

pub returned_step : (f l : List ℕ) (w x : ℕ) {start s t : State} {b : CallBytes}
    → Returned f start (calls_below w x l) s
    → b ≡ bytes_at w l (x * w)
    → AfterBytes f s (call_in b) t
    → Returned f start (calls_below w (x + 1) l) t
unfolding calls_below
returned_step f l w x {start} {s} {t} r e n =
    rw add-one (one_returned f start (calls_below w x l) s t (call_in (bytes_at w l (x * w))) (at_most_one _ _ _) r (rw e at n))

-- the state after the first n calls of a list, and the bytes behind them
module _ (f l : List ℕ) (start : State) where
  pub record Passed (n : ℕ) (rest : List ℕ) (s : State) : Type 0 where
    pub few : n * 3 ≤ length l
    pub behind : rest ≡ drop (n * 3) l
    pub returned : Returned f start (calls_below 3 n l) s

  pub passed_none : Passed 0 l start
  unfolding calls_below
  passed_none = record { few = omega arith; behind = refl; returned = started }

  pub passed_more : (x : List ℕ) {n m : ℕ} {rest more : List ℕ} {s t : State} {b : CallBytes} → Passed n rest s → rest ≡ x ++ more → length x ≡ 3
      → b ≡ bytes_at 3 x 0 → AfterBytes f s (call_in b) t → m ≡ n + 1 → Passed m more t
  passed_more x {n} {m} {rest} {more} {s} {t} {b} p e w eb a em =
      let cut : drop (n * 3) l ≡ x ++ more = sym p.behind ∙ e in
      let front : take 3 (drop (n * 3) l) ≡ x = rw (cut, ← w) (take-append_seam x more) in
      let back : drop 3 (drop (n * 3) l) ≡ more = rw (cut, ← w) (drop-append_seam x more) in
      let same : b ≡ bytes_at 3 l (n * 3) = rw (eb, ← front) (bytes_part 3 (omega arith) l (n * 3)) in
      let next : n * 3 + 3 ≡ (n + 1) * 3 = omega arith in
      let long : length (drop (n * 3) l) ≡ 3 + length more = rw cut (length-append x more ∙ ap (λ (k : ℕ). k + length more) w) in
      rw em (record {
        few = omega (arith, long, length-drop (n * 3) l);
        behind = sym back ∙ drop-drop 3 (n * 3) l ∙ ap (λ (k : ℕ). drop k l) next;
        returned = returned_step f l 3 n p.returned same a;
      })

  pub passed_all : {n : ℕ} {rest : List ℕ} {s : State} → Passed n rest s → length rest < 3 → Returned f start (calls_of 3 l) s
  passed_all {n} {rest} p b =
      let long : length rest ≡ length l - n * 3 = ap length p.behind ∙ length-drop (n * 3) l in
      let e : n ≡ length l / 3 = omega (arith, p.few) in rw e at p.returned
