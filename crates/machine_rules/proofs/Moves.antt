-- What a call does to the line of a resource: nothing, or one of the moves. Proofs about calls go by these cases and no others, so that
-- a call that is added has one case here, one line in `moved`, and a clause where each claim is made of the moves.
use Rattle.machine_rules.proofs.Ground.{ℕ, Bool, cond, ◌≡◌, refl, sym, by_eq, Plan, task_number, Line, entered, Call, Request}
use Rattle.machine_rules.proofs.Ground.{Release, GiveUp, Tick, View, terms, call_code, step, is_tick, withdrawn}
use Rattle.queue_rules.specs.Rules.{released, ticked}
use Rattle.machine_rules.specs.Machine.{effect}

pub data Move (p : Plan) (s : View) (q : ℕ) : Call → Line → Type 0 where
  stays : {c : Call} → is_tick c ≡ 0 → Move p s q c (s.lines q)
  enters : (tag : ℕ) → call_code p s (Request tag q) ≡ 0 → Move p s q (Request tag q) (entered (terms p q) (task_number p tag) (s.lines q))
  leaves : (tag : ℕ) → Move p s q (Release tag q) (released (terms p q) (s.lines q))
  gives_up_lem : (tag : ℕ) → call_code p s (GiveUp tag q) ≡ 0 → Move p s q (GiveUp tag q) (withdrawn (task_number p tag) (s.lines q))
  ticks : Move p s q Tick (ticked (terms p q) (s.lines q))

module _ (p : Plan) (s : View) (q : ℕ) where
  -- a tick is never refused
  still : (c : Call) → (call_code p s c ≡ 0 → ⊥) → is_tick c ≡ 0
  still (Request tag r) n = refl
  still (Release tag r) n = refl
  still (GiveUp tag r) n = refl
  still Tick n = absurd (n refl)

  -- a call that is not refused
  made : (c : Call) → call_code p s c ≡ 0 → Move p s q c ((effect p s c).lines q)
  made (Request tag r) e =
      by_eq (λ (d : Bool). Move p s q (Request tag r) (cond d (entered (terms p r) (task_number p tag) (s.lines q)) (s.lines q))) q r
      (λ i. own r (sym i) e) (λ n. stays refl)
    where
      own : (r : ℕ) → r ≡ q → call_code p s (Request tag r) ≡ 0 → Move p s q (Request tag r) (entered (terms p r) (task_number p tag) (s.lines q))
      own r i e = rw i (enters tag (rw i at e))
  made (Release tag r) e =
      by_eq (λ (d : Bool). Move p s q (Release tag r) (cond d (released (terms p r) (s.lines q)) (s.lines q))) q r
      (λ i. rw (sym i) (leaves tag)) (λ n. stays refl)
  made (GiveUp tag r) e =
      by_eq (λ (d : Bool). Move p s q (GiveUp tag r) (cond d (withdrawn (task_number p tag) (s.lines q)) (s.lines q))) q r
      (λ i. own r (sym i) e) (λ n. stays refl)
    where
      own : (r : ℕ) → r ≡ q → call_code p s (GiveUp tag r) ≡ 0 → Move p s q (GiveUp tag r) (withdrawn (task_number p tag) (s.lines q))
      own r i e = rw i (gives_up_lem tag (rw i at e))
  made Tick e = ticks

  pub moved : (c : Call) → Move p s q c ((step p s c).lines q)
  unfolding step
  moved c =
      by_eq (λ (d : Bool). Move p s q c ((cond d (effect p s c) s).lines q)) (call_code p s c) 0 (λ e. made c e) (λ n. stays (still c n))
