-- What `Within` says of a list of calls: the event occurs in the calls up to the tick that fills the limit, that tick included.
use Rattle.machine_rules.proofs.Ground.{ℕ, ◌-◌, ◌<◌, true, cond, or-true, ◌≡◌, List, [], ◌∷◌, ◌++◌, eqb, arith, ne_eqb, Plan, Call}
use Rattle.machine_rules.proofs.Ground.{View, step, after, is_tick, ticks, Event, occurs, Within}

-- the calls up to tick n, n from 1
abbrev pub up_to : ℕ → List Call → List Call
up_to n [] = []
up_to n (c ∷ cs) = cond (eqb n 0) [] (c ∷ up_to (n - is_tick c) cs)

module _ (p : Plan) (e : Event p) where
  occurs_soon : (s : View) (early : List Call) (c : Call) (late : List Call) (n : ℕ) → ticks early < n → e (after p s early) c ≡ true
      → occurs p e s (up_to n (early ++ (c ∷ late))) ≡ true
  occurs_soon s [] c late n l h = rw (ne_eqb n 0 (λ z. omega arith), h)
  occurs_soon s (d ∷ early) c late n l h =
      rw (ne_eqb n 0 (λ z. omega arith), occurs_soon (step p s d) early c late (n - is_tick d) (omega arith) h) (or-true (e s d))

  pub within_occurs : {s : View} {cs : List Call} {n : ℕ} → Within p e s cs n → occurs p e s (up_to n cs) ≡ true
  within_occurs {s} {cs} {n} w = rw w.split (occurs_soon s w.early w.call w.late n (omega (arith, w.soon)) w.happens)
