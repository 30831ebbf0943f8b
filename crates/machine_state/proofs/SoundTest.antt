-- The test by the tables is the test of soundness.
use Rattle.machine_state.proofs.Ground.{ℕ, ◌+◌, ◌-◌, ◌/◌, ◌%◌, ◌<◌, ◌≤◌, Bool, true, false, cond, ◌&&◌, ◌||◌, not, and-true}
use Rattle.machine_state.proofs.Ground.{and_assoc, or-true, true≢false, ◌≡◌, refl, sym, ap, ap₂, ◌∙◌, ◌⊎◌, inl, inr, ⊎_elim, List}
use Rattle.machine_state.proofs.Ground.{eqb, leb, ltb, get_or, arith, eqb-true, eq-eqb, ne_eqb, lt-ltb, le-ltb, leb-true, le-leb}
use Rattle.machine_state.proofs.Ground.{not-true, most_processors, most_tasks, most_resources, all_below, any_below, max_below, and_parts}
use Rattle.machine_state.proofs.Ground.{is_not_true, same_test, all_at, all_from, all_same, any_at, any_none, any_out, max_at, by_eq}
use Rattle.machine_state.proofs.Ground.{on_eq, on_le, Plan, Valid, processor_of, uses, global, hold_at, hold_cell, Figures, terms}
use Rattle.machine_state.proofs.Ground.{task_ranked, Ranked, task_rank, sole, full, Standing, LineRow, State, standing, none_in_line}
use Rattle.machine_state.proofs.Ground.{line_at, slot, rank, idle, beside, backed, task_fits, serves, slot_fits, core_fits, holder_of}
use Rattle.machine_state.proofs.Ground.{clock_fits, line_fits, sound, seat, resource_seats, no_seat, key_of, Keys, Seats, InQueue}
use Rattle.machine_state.proofs.Ground.{task_test, first_seat, tail_test, slot_test, core_test, queue_test, clock_test, line_test, state_test}
use Rattle.folds.proofs.Tests.{all_both}
use Rattle.folds.proofs.Ranges.{any_max}
use Rattle.analysis_equations.specs.HoldTimes.{budget}
use Rattle.queue_ranks.proofs.Ranked.{seated, ranks_few}
use Rattle.machine_state.specs.Inner.{seated_at}
use Rattle.machine_state.proofs.Tables.{low_processor, key_own, key_on, rank_out}
use Rattle.machine_state.proofs.Passing.{head_passed}
use Rattle.machine_state.proofs.Wholes.{both, row_none, rank_own, serves_max, server_low, alone_from, hold_test, hold_user, hold_task, hold_resource, row_of, served_at, ranked}

-- ── tests ──
-- one that counts where another holds
and_under : (a : Bool) {b c : Bool} → (a ≡ true → b ≡ c) → (a && b) ≡ (a && c)
and_under true h = h refl
and_under false h = refl

-- one that all numbers from n on pass
all_upto : (m n : ℕ) (f : ℕ → Bool) → n ≤ m → ((k : ℕ) → k < m → n ≤ k → f k ≡ true) → all_below m f ≡ all_below n f
all_upto m n f l h =
    same_test _ _ (λ t. all_from n f (λ k b. all_at m k f t (omega arith)))
    (λ t. all_from m f (λ k b. on_le (f k ≡ true) n k (h k b) (λ a. all_at n k f t a)))

-- one that fails of all
none_any : (n : ℕ) (f : ℕ → Bool) → not (any_below n f) ≡ all_below n (λ k. not (f k))
none_any n f =
    same_test _ _
    (λ t. all_from n (λ k. not (f k)) (λ k l. ap not (is_not_true (f k) (λ e. true≢false (sym (any_at n k f l e) ∙ not-true _ t)))))
    (λ t. ap not (any_none n f (λ k l. not-true (f k) (all_at n k (λ k. not (f k)) t l))))

zero_not : (x : ℕ) → eqb x 0 ≡ not (leb 1 x)
zero_not x =
    on_eq (eqb x 0 ≡ not (leb 1 x)) x 0 (λ e. rw e) (λ n. let a : 1 ≤ x = omega arith in rw (ne_eqb x 0 n, le-leb 1 x a))

-- ── seats by ranks ──
module _ (p : Plan) (ts : List Standing) where
  -- who sits in u's seat
  abbrev seat_of : ℕ → ℕ
  seat_of u = seated_at p ts (standing ts u).resource (processor_of p u) (standing ts u).place

  -- a seat is taken where some task has its rank
  seat_test : (q k j : ℕ) → leb 1 (seated_at p ts q k j) ≡ any_below p.tasks (λ u. eqb (rank p ts q k u) (j + 1))
  seat_test q k j = sym (any_max p.tasks (λ u. eqb (rank p ts q k u) (j + 1)) (λ u. u + 1) (λ u l. omega arith))

  module _ (q : ℕ) (r : Ranked p.tasks (terms p q) (rank p ts q)) (k : ℕ) where
    -- where ranks are sound, by that task
    seat_is : (j u : ℕ) → u < p.tasks → rank p ts q k u ≡ j + 1 → seated_at p ts q k j ≡ u + 1
    seat_is j u l e =
        let first : task_ranked p.tasks (rank p ts q k) (j + 1) ≡ u = rw e at (sole r k u l (omega arith)) in
        seated p.tasks (rank p ts q k) (sole r k) (j + 1) (omega arith) ∙ rw (first, lt-ltb u p.tasks l)

    seat_first : 1 ≤ max_below p.tasks (rank p ts q k) → seated_at p ts q k 0 ≡ task_ranked p.tasks (rank p ts q k) 1 + 1
    seat_first a = let l = full r k 1 (omega arith) a in seat_is 0 _ l (task_rank p.tasks 1 (rank p ts q k) l)

    -- so the first is taken where there is a task in line
    seat_serves : leb 1 (seated_at p ts q k 0) ≡ serves p ts q k
    seat_serves =
        same_test _ _
        (λ t. any_out p.tasks (λ u. eqb (rank p ts q k u) 1) _ (sym (seat_test q k 0) ∙ t)
        (λ u l e. any_at p.tasks u (λ u. leb 1 (rank p ts q k u)) l (le-leb 1 (rank p ts q k u) (omega (arith, eqb-true (rank p ts q k u) 1 e)))))
        (λ t. le-leb 1 (seated_at p ts q k 0) (omega (arith, seat_first (serves_max p.tasks (rank p ts q k) t))))

module _ (p : Plan) (v : Valid p) (ts : List Standing) (figures keys seats : List ℕ)
    (fs : Figures p figures) (ks : Keys p ts keys) (ss : Seats p ts seats) where
  -- ── the row of a task, by its seat ──
  abbrev passes : ℕ → Bool
  passes u = task_test figures seats (standing ts u) (get_or keys u 0) u

  row_idle : (u : ℕ) → get_or keys u 0 ≡ no_seat → passes u ≡ idle p ts u
  unfolding task_test
  row_idle u e = rw (eq-eqb (get_or keys u 0) no_seat e)

  row_is : (u : ℕ) → u < p.tasks → InQueue (standing ts u) (processor_of p u)
      → passes u ≡ (global p (standing ts u).resource && uses p u (standing ts u).resource && eqb (seat_of p ts u) (u + 1) && backed p ts u)
  unfolding task_test
  row_is u l h =
      let s = standing ts u in
      let k = processor_of p u in
      let key = get_or keys u 0 in
      let at : key ≡ seat s.resource k s.place = ks.at u l ∙ key_own s k h in
      let resource : key / resource_seats ≡ s.resource = omega (arith, h) in
      let hold : get_or figures (hold_cell u s.resource) 0 ≡ hold_at p u s.resource = fs.hold u _ (omega (arith, v.tasks)) h.resource in
      let here : get_or seats key 0 ≡ seat_of p ts u = ap (λ (x : ℕ). get_or seats x 0) at ∙ ss.at _ k _ h.resource h.core h.place in
      let place : key % most_tasks ≡ s.place = omega (arith, h) in
      rw (ne_eqb key no_seat (λ e. omega (arith, h)), resource, hold, hold_test p v u s.resource, here, place)
      (ap (λ (d : Bool). global p s.resource && uses p u s.resource && eqb (seat_of p ts u) (u + 1) && d)
      (by_eq (λ (d : Bool). (d || leb 1 (get_or seats (key - 1) 0)) ≡ (d || any_below p.tasks (λ w. eqb (beside p ts u w) s.place))) s.place 0
      (λ z. refl)
      (λ z. let before : key - 1 ≡ seat s.resource k (s.place - 1) = omega (arith, h) in
      let back : s.place - 1 + 1 ≡ s.place = omega arith in
      rw (before, ss.at s.resource k (s.place - 1) h.resource h.core (omega (arith, h))) (seat_test p ts _ k (s.place - 1) ∙ rw back))))

  -- a task that sits in its own seat
  record Sits (u : ℕ) : Type 0 where
    queue : InQueue (standing ts u) (processor_of p u)
    user : (global p (standing ts u).resource && uses p u (standing ts u).resource) ≡ true
    here : seat_of p ts u ≡ u + 1
    behind : backed p ts u ≡ true

  row_out : (u : ℕ) → u < most_tasks → passes u ≡ true → (idle p ts u ≡ true) ⊎ Sits u
  row_out u l t =
      let user : Bool = global p (standing ts u).resource && uses p u (standing ts u).resource in
      let here : Bool = eqb (seat_of p ts u) (u + 1) in
      on_eq ((idle p ts u ≡ true) ⊎ Sits u) (get_or keys u 0) no_seat (λ e. inl (sym (row_idle u e) ∙ t))
      (λ n. on_le ((idle p ts u ≡ true) ⊎ Sits u) p.tasks u (λ a. absurd (n (ks.rest u l a)))
      (λ a. let w = key_on (standing ts u) (processor_of p u) (low_processor p v u a) (λ e. n (ks.at u a ∙ e)) in
      let b = and_parts (user && here) (backed p ts u) (sym (row_is u a w) ∙ t) in
      let d = and_parts user here b.0 in
      inr (record { queue = w; user = d.0; here = eqb-true _ _ d.1; behind = b.1 })))

  -- where all rows pass, no two tasks have one place
  fits : ((u : ℕ) → u < most_tasks → passes u ≡ true) → (u : ℕ) → u < most_tasks → task_fits p ts u ≡ true
  unfolding task_fits
  fits rows u l =
      ⊎_elim (λ e. rw e)
      (λ w. rw (w.user, both (alone_from p.tasks u (beside p ts u) (same w)) w.behind) (or-true (idle p ts u)))
      (row_out u l (rows u l))
    where
      same : Sits u → (w : ℕ) → w < p.tasks → beside p ts u w ≡ beside p ts u u → w ≡ u
      same x w b e =
          let h = rank_out p ts (standing ts u).resource (processor_of p u) (standing ts u).place w (e ∙ rank_own p ts u) in
          let small : w < most_tasks = omega (arith, v.tasks) in
          ⊎_elim (λ i. let z = ap (λ (s : Standing). s.resource) (row_none (standing ts w) i) in let bad : ⊥ = omega (arith, x.queue) in absurd bad)
          (λ y. let z = rw (h.core, h.resource, h.place) at y.here in omega (arith, x.here)) (row_out w small (rows w small))

  row_in : ((u : ℕ) → u < most_tasks → task_fits p ts u ≡ true) → (u : ℕ) → u < most_tasks → passes u ≡ true
  unfolding key_of
  row_in rows u l = ⊎_elim none (λ w. placed w.hold w.behind) (row_of p v ts u (rows u l))
    where
      none : standing ts u ≡ none_in_line → passes u ≡ true
      none e =
          row_idle u
          (on_le (get_or keys u 0 ≡ no_seat) p.tasks u (λ a. ks.rest u l a) (λ a. ks.at u a ∙ ap (λ (s : Standing). key_of s (processor_of p u)) e))
          ∙ rw e

      placed : 1 ≤ hold_at p u (standing ts u).resource → backed p ts u ≡ true → passes u ≡ true
      placed h b =
          let a = hold_task p v u (standing ts u).resource h in
          let q : (standing ts u).resource < most_resources = omega (arith, hold_resource p v u (standing ts u).resource h, v.resources) in
          let r = ranked p v ts rows (standing ts u).resource q in
          let k = processor_of p u in
          let own = rank_own p ts u in
          let few = max_at p.tasks u (beside p ts u) a in
          let w : InQueue (standing ts u) k =
          record { core = low_processor p v u a; resource = q; place = omega (arith, v.tasks, ranks_few r k) } in
          row_is u a w ∙ both (both (hold_user p v u _ h) (eq-eqb _ _ (seat_is p ts _ r k _ u a own))) b

  rows_same : all_below most_tasks passes ≡ all_below most_tasks (task_fits p ts)
  rows_same =
      same_test _ _
      (λ t. all_from most_tasks (task_fits p ts) (fits (λ u l. all_at most_tasks u passes t l)))
      (λ t. all_from most_tasks passes (row_in (λ u l. all_at most_tasks u (task_fits p ts) t l)))

  -- ── a line, where the ranks are sound ──
  module _ (q : ℕ) (b : q < most_resources) (r : Ranked p.tasks (terms p q) (rank p ts q)) (l : LineRow) where
    -- the first seat of processor k is taken where it has a task in line
    first_at : (k : ℕ) → k < most_processors → first_seat seats q k ≡ seated_at p ts q k 0
    first_at k lk = ss.at q k 0 b lk (omega arith)

    serves_is : (k : ℕ) → k < most_processors → leb 1 (first_seat seats q k) ≡ serves p ts q k
    serves_is k lk = ap (leb 1) (first_at k lk) ∙ seat_serves p ts q r k

    -- no other number has one
    serves_not : (k : ℕ) → p.processors ≤ k → serves p ts q k ≡ false
    serves_not k a =
        is_not_true (serves p ts q k) (λ t. omega (arith, server_low p v ts q k (serves_max p.tasks (rank p ts q k) t)))

    slot_same : (i : ℕ) → slot_test seats q l.queue i ≡ served_at p ts q l i
    unfolding slot_test
    slot_same i =
        on_le (slot_test seats q l.queue i ≡ served_at p ts q l i) most_processors (slot l i)
        (λ a. rw (le-ltb (slot l i) most_processors a, serves_not (slot l i) (omega (arith, v.processors))))
        (λ a. rw (lt-ltb (slot l i) most_processors a, serves_is (slot l i) a, none_any))

    slots_same : l.queued ≤ most_processors
        → (all_below l.queued (slot_test seats q l.queue) && tail_test l.queue l.queued) ≡ all_below most_processors (slot_fits p ts q l)
    unfolding tail_test slot_fits
    slots_same few =
        ap (λ (d : Bool). d && tail_test l.queue l.queued)
        (all_same l.queued (slot_test seats q l.queue) below (λ i x. slot_same i ∙ rw (lt-ltb i l.queued x))
        ∙ sym (all_upto most_processors l.queued below few (λ i x a. rw (le-ltb i l.queued a))))
        ∙ all_both most_processors below (λ i. ltb i l.queued || eqb (slot l i) 255)
        ∙ all_same most_processors _ (slot_fits p ts q l) (λ i x. joined (ltb i l.queued) (served_at p ts q l i) (eqb (slot l i) 255))
      where
        below : ℕ → Bool
        below i = cond (ltb i l.queued) (served_at p ts q l i) true

        joined : (d a b : Bool) → (cond d a true && (d || b)) ≡ cond d a b
        joined true a b = and-true a
        joined false a b = refl

    cores_same : all_below most_processors (core_test seats q l.queue l.queued) ≡ all_below p.processors (core_fits p ts q l)
    unfolding core_test core_fits
    cores_same =
        all_same most_processors (core_test seats q l.queue l.queued) (core_fits p ts q l)
        (λ k x. rw (zero_not (first_seat seats q k), serves_is k x))
        ∙ all_upto most_processors p.processors (core_fits p ts q l) v.processors (λ k x a. rw (serves_not k a))

    -- the hold time of the head's first task, by its seat
    head_is : slot l 0 < most_processors → 1 ≤ first_seat seats q (slot l 0)
        → get_or figures (hold_cell (first_seat seats q (slot l 0) - 1) q) 0 ≡ hold_at p (holder_of p ts q l) q
    head_is lk some =
        let a = serves_max p.tasks (rank p ts q (slot l 0)) (sym (serves_is (slot l 0) lk) ∙ le-leb 1 _ some) in
        let f : first_seat seats q (slot l 0) - 1 ≡ holder_of p ts q l = omega (arith, first_at (slot l 0) lk, seat_first p ts q r (slot l 0) a) in
        rw f (fs.hold (holder_of p ts q l) q (omega (arith, v.tasks, full r (slot l 0) 1 (omega arith) a)) b)

    clock_same : queue_test seats q l.queue l.queued ≡ true → clock_test figures seats q l ≡ clock_fits p ts q l
    unfolding clock_test clock_fits
    clock_same t =
        on_eq (clock_test figures seats q l ≡ clock_fits p ts q l) l.queued 0
        (λ z. rw (eq-eqb l.queued 0 z))
        (λ z. let h = head_passed seats q l t (omega arith) in
        rw (ne_eqb l.queued 0 z, head_is h.placed h.some, fs.budget (slot l 0) q h.placed b)
        (and_assoc (leb 1 l.hold_left && leb l.hold_left (hold_at p (holder_of p ts q l) q)) (leb l.hold_left l.budget_left)
        (leb l.budget_left (budget p (slot l 0) q))))

    line_same : line_test figures seats q l ≡ line_fits p ts q l
    unfolding line_test line_fits queue_test
    line_same =
        let few : Bool = leb l.queued most_processors in
        let queue : Bool = queue_test seats q l.queue l.queued in
        and_under (few && queue) (λ t. clock_same (and_parts few queue t).1)
        ∙ ap (λ (d : Bool). d && clock_fits p ts q l) (and_under few (λ t. ap₂ ◌&&◌ (slots_same (leb-true l.queued most_processors t)) cores_same))
        ∙ simp and_assoc

-- the whole state
pub sound_test : (p : Plan) → Valid p → (s : State) (figures keys seats : List ℕ) → Figures p figures
    → Keys p s.tasks keys → Seats p s.tasks seats → state_test figures keys seats s ≡ sound p s
unfolding state_test sound
sound_test p v s figures keys seats fs ks ss =
    ap (λ (d : Bool). d && all_below most_resources (λ q. line_test figures seats q (line_at s q))) (rows_same p v s.tasks figures keys seats fs ks ss)
    ∙ and_under (all_below most_tasks (task_fits p s.tasks))
    (λ t. all_same most_resources _ _
    (λ q l. line_same p v s.tasks figures keys seats fs ks ss q l
    (ranked p v s.tasks (λ u b. all_at most_tasks u (task_fits p s.tasks) t b) q l) (line_at s q)))
