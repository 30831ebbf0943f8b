-- The rows once some lines lost their holders: in those the queue of the head has moved up, in all others nothing has.
use Rattle.machine_steps.proofs.Ground.{ℕ, ◌+◌, ◌-◌, ◌/◌, ◌<◌, ◌≤◌, Bool, true, false, cond, ◌&&◌, and-false, ◌≡◌, refl, sym, ◌∙◌}
use Rattle.machine_steps.proofs.Ground.{◌≢◌, ◌⊎◌, inl, inr, ⊎_elim, ap, lt-ltb, eqb-true, List, eqb, ltb, get_or, arith, eq-eqb}
use Rattle.machine_steps.proofs.Ground.{ne_eqb, max_at, any_below, by_eq, stamped_below, stamped_at, each_at, Plan, Valid, processor_of}
use Rattle.machine_steps.proofs.Ground.{hold_at, Standing, State, no_standing, none_in_line, moved_up, standing, line_at, slot, rank}
use Rattle.machine_steps.proofs.Ground.{queue_at, seat, no_seat, key_of, Whole, on_le, Leaves, low_processor, no_marks, fallen, lowered}
use Rattle.machine_steps.proofs.Ground.{ranks_few}
use Rattle.folds.proofs.Ground.{sub-zero}
use Rattle.folds.proofs.Ranges.{cond_bound}
use Rattle.machine_state.proofs.Wholes.{rank_own}
use Rattle.machine_steps.proofs.Ready.{Tabled}
use Rattle.machine_steps.proofs.Marks.{no_mark_lem}

-- the rank that a row gives a task of processor m
abbrev rank_of : Standing → ℕ → ℕ → ℕ → ℕ
rank_of s m q k = cond (eqb m k && eqb s.resource q) (s.place + 1) 0

module _ (s : Standing) (m q k : ℕ) (h : q ≢ 255) where
  -- where the first of its queue left, it falls by 1
  fall : (b : Bool) → rank_of (fallen b s) m q k ≡ rank_of s m q k - cond b 1 0
  unfolding fallen
  fall false = sym (sub-zero (rank_of s m q k))
  fall true =
      by_eq (λ (d : Bool). rank_of (cond d none_in_line (moved_up s)) m q k ≡ rank_of s m q k - 1) s.place 0
      (λ z. rw (ne_eqb 255 q (λ e. h (sym e)), and-false)
      (omega (arith, cond_bound (eqb m k && eqb s.resource q) (s.place + 1) 1 (λ t. omega arith))))
      (λ n. less (eqb m k && eqb s.resource q) n)
    where
      less : (d : Bool) → s.place ≢ 0 → cond d (s.place - 1 + 1) 0 ≡ cond d (s.place + 1) 0 - 1
      less true n = omega arith
      less false n = refl

  -- and in a queue of another, where it has none, it is the same whether or not
  fall_rank : (b c : Bool) → (m ≡ k → s.resource ≡ q → b ≡ c) → rank_of (fallen b s) m q k ≡ rank_of s m q k - cond c 1 0
  fall_rank b c same = fall b ∙ go (eqb m k) (eqb s.resource q) refl refl
    where
      go : (x y : Bool) → eqb m k ≡ x → eqb s.resource q ≡ y → cond (x && y) (s.place + 1) 0 - cond b 1 0 ≡ cond (x && y) (s.place + 1) 0 - cond c 1 0
      go true true i j = ap (λ (d : Bool). s.place + 1 - cond d 1 0) (same (eqb-true m k i) (eqb-true _ q j))
      go true false i j = omega arith
      go false y i j = omega arith

-- what stands for a queue in a table of marks
abbrev pub mark : Bool → ℕ
mark b = cond b 1 0

-- `ended` has a 1 for the head's queue of each line of which E holds, and no other
pub record Ended (s : State) (E : ℕ → Bool) (ended : List ℕ) : Type 0 where
  pub at : (k q : ℕ) → k < 8 → q < 16 → get_or ended (queue_at k q) 0 ≡ mark (E q && eqb (slot (line_at s q) 0) k)
  pub none : get_or ended 128 0 ≡ 0

-- such are marks that were stored one by one, those of no queue past the last
pub ended_by : (s : State) (E : ℕ → Bool) (n : ℕ) (f v : ℕ → ℕ) → ((i : ℕ) → i < n → v i ≡ mark (ltb (f i) 128))
    → ((k q : ℕ) → k < 8 → q < 16 → any_below n (λ i. eqb (f i) (queue_at k q)) ≡ (E q && eqb (slot (line_at s q) 0) k))
    → Ended s E (stamped_below n f v no_marks)
ended_by s E n f v m a = record {
  at = λ k q lk lq. stamped_at n 129 f v (λ y. mark (ltb y 128)) (queue_at k q) (omega arith) m
      ∙ rw (lt-ltb (queue_at k q) 128 (omega arith), a k q lk lq);
  none = stamped_at n 129 f v (λ y. mark (ltb y 128)) 128 (omega arith) m ∙ no_mark_lem (any_below n (λ i. eqb (f i) 128));
}

-- the key of a row: it tells the queue in which it stands, or that it stands in none
module _ (p : Plan) (v : Valid p) (s : State) (w : Whole p s) {figures keys seats : List ℕ} (t : Tabled p s figures keys seats) where
  pub key_queue : (u : ℕ) → u < p.tasks → let q = (standing s.tasks u).resource in q < 16 → get_or keys u 0 / 64 ≡ queue_at (processor_of p u) q
  unfolding key_of
  key_queue u l lq =
      let q : ℕ = (standing s.tasks u).resource in
      let k : ℕ = processor_of p u in
      let j : ℕ = (standing s.tasks u).place in
      let few : j < 64 =
      omega (arith, v.tasks, rank_own p s.tasks u, max_at p.tasks u (rank p s.tasks q k) l, ranks_few (w.lines q lq).ranked k) in
      let c : get_or keys u 0 ≡ seat q k j = t.keys_at.at u l ∙ rw (lt-ltb q 16 lq, lt-ltb j 64 few) in
      omega arith

  pub key_none : (u : ℕ) → u < 64 → standing s.tasks u ≡ none_in_line → get_or keys u 0 ≡ no_seat
  unfolding key_of
  key_none u l e = on_le (get_or keys u 0 ≡ no_seat) p.tasks u (λ a. t.keys_at.rest u l a) (λ a. t.keys_at.at u a ∙ rw e)

module _ (p : Plan) (v : Valid p) (s : State) (w : Whole p s) {figures keys seats : List ℕ} (t : Tabled p s figures keys seats)
    {E : ℕ → Bool} {ended : List ℕ} (x : Ended s E ended) where
  -- the first of u's queue leaves
  abbrev falls : ℕ → Bool
  falls u = eqb (get_or ended (get_or keys u 0 / 64) 0) 1

  row : (u : ℕ) → u < 64 → standing (lowered keys ended s.tasks) u ≡ fallen (falls u) (standing s.tasks u)
  unfolding lowered
  row u l = each_at no_standing (λ u r. fallen (falls u) r) 64 u s.tasks l (omega (arith, t.tasks_long))

  falls_own : (u : ℕ) → u < p.tasks → let q = (standing s.tasks u).resource in
      q < 16 → falls u ≡ (E q && eqb (slot (line_at s q) 0) (processor_of p u))
  falls_own u l lq =
      let q : ℕ = (standing s.tasks u).resource in
      let k : ℕ = processor_of p u in
      rw (key_queue p v s w t u l lq, x.at k q (low_processor p v u l) lq) (one (E q && eqb (slot (line_at s q) 0) k))
    where
      one : (b : Bool) → eqb (cond b 1 0) 1 ≡ b
      one true = refl
      one false = refl

  falls_none : (u : ℕ) → u < 64 → standing s.tasks u ≡ none_in_line → falls u ≡ false
  falls_none u l e = rw (key_none p v s w t u l e, x.none)

  -- the rank of each task
  rank_after : (q : ℕ) → q < 16 → (k u : ℕ) → u < p.tasks
      → rank p (lowered keys ended s.tasks) q k u ≡ rank p s.tasks q k u - cond (E q && eqb (slot (line_at s q) 0) k) 1 0
  unfolding rank
  rank_after q lq k u l =
      rw (row u (omega (arith, v.tasks)))
      (fall_rank (standing s.tasks u) (processor_of p u) q k (λ e. omega arith) (falls u) (E q && eqb (slot (line_at s q) 0) k)
      (λ e f. rw (← e, ← f) (falls_own u l (rw f lq))))

  -- the ranks of a line whose holder leaves, and of one whose holder stays
  pub ranks_leave : (q : ℕ) → q < 16 → E q ≡ true
      → Leaves p.tasks (rank p s.tasks q) (rank p (lowered keys ended s.tasks) q) (slot (line_at s q) 0)
  ranks_leave q lq e = record {
    fall = λ u l. rw e at (rw (eq-eqb (slot (line_at s q) 0) _ refl) at (rank_after q lq (slot (line_at s q) 0) u l));
    kept = λ k u n l. rank_after q lq k u l ∙ rw (ne_eqb (slot (line_at s q) 0) k (λ e. n (sym e)), and-false) (sub-zero (rank p s.tasks q k u));
  }

  pub ranks_stay : (q : ℕ) → q < 16 → E q ≡ false → (k u : ℕ) → u < p.tasks
      → rank p s.tasks q k u ≡ rank p (lowered keys ended s.tasks) q k u
  ranks_stay q lq e k u l = sym (rank_after q lq k u l ∙ rw e (sub-zero (rank p s.tasks q k u)))

  pub rows_after : (u : ℕ) → u < 64
      → (standing (lowered keys ended s.tasks) u ≡ none_in_line) ⊎ (1 ≤ hold_at p u (standing (lowered keys ended s.tasks) u).resource)
  unfolding fallen
  rows_after u l = rw (row u l) (⊎_elim (λ e. inl (rw (falls_none u l e) e)) (there (falls u) (standing s.tasks u)) (w.rows u l))
    where
      Fits : Standing → Type 0
      Fits r = (r ≡ none_in_line) ⊎ (1 ≤ hold_at p u r.resource)

      there : (b : Bool) (r : Standing) → 1 ≤ hold_at p u r.resource → Fits (fallen b r)
      there true r h = by_eq (λ (d : Bool). Fits (cond d none_in_line (moved_up r))) r.place 0 (λ e. inl refl) (λ e. inr h)
      there false r h = inr h
