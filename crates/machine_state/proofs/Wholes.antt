-- A state passes the test of soundness exactly when it is whole: the test says what the laws of ranks ask, and nothing less.
use Rattle.machine_state.proofs.Ground.{ℕ, ◌+◌, ◌-◌, ◌<◌, ◌≤◌, Bool, true, false, cond, ◌&&◌, ◌||◌, not, or-true, ◌≡◌, refl, sym, ap}
use Rattle.machine_state.proofs.Ground.{ap₂, ◌∙◌, ◌⊎◌, inl, inr, ⊎_elim, ◌≢◌, List, eqb, leb, arith, eqb-true, eq-eqb, ne_eqb}
use Rattle.machine_state.proofs.Ground.{lt-ltb, le-ltb, leb-true, le-leb, not-true, most_processors, most_tasks, most_resources, absent}
use Rattle.machine_state.proofs.Ground.{all_below, any_below, max_below, and_parts, or_out, is_not_true, all_at, all_from, any_at}
use Rattle.machine_state.proofs.Ground.{any_out, max_at, by_eq, Plan, Valid, processor_of, uses, global, hold_at, terms, task_ranked}
use Rattle.machine_state.proofs.Ground.{on_eq, on_le, find_is, Ranked, task_rank, sole, Standing, LineRow, State, standing}
use Rattle.machine_state.proofs.Ground.{none_in_line, line_at, slot, rank, idle, beside, backed, task_fits, serves, slot_fits, core_fits}
use Rattle.machine_state.proofs.Ground.{holder_of, clock_fits, line_fits, sound}
use Rattle.folds.proofs.Ground.{eqb-false}
use Rattle.analysis_equations.specs.HoldTimes.{hold_time}
use Rattle.analysis_equations.proofs.Laws.{uses_out, hold_low}
use Rattle.queue_ranks.proofs.Ranked.{At, task_first, max_there}
use Rattle.machine_state.specs.Shows.{is_idle}
use Rattle.machine_state.specs.Sound.{alone}
use Rattle.machine_state.proofs.Tables.{Stands, rank_in, rank_out}
use Rattle.machine_state.proofs.Good.{Good, Whole}

-- ── tests over ranks ──
pub both : {a b : Bool} → a ≡ true → b ≡ true → (a && b) ≡ true
both p q = rw (p, q)

-- the parts of a test of four
record Held (a b c d : Bool) : Type 0 where
  first : a ≡ true
  second : b ≡ true
  third : c ≡ true
  fourth : d ≡ true

four_parts : (a b c d : Bool) → (a && b && (c && d)) ≡ true → Held a b c d
four_parts a b c d e =
    let x = and_parts (a && b) (c && d) e in
    let y = and_parts a b x.0 in
    let z = and_parts c d x.1 in
    record { first = y.0; second = y.1; third = z.0; fourth = z.1 }

-- u is alone at its rank f u
alone_at : (n u : ℕ) (f : ℕ → ℕ) → u < n → all_below n (λ v. eqb v u || not (eqb (f v) (f u))) ≡ true → task_ranked n f (f u) ≡ u
alone_at n u f l h =
    find_is n u (λ v. eqb (f v) (f u)) l (eq-eqb (f u) _ refl)
    (λ v b. not-true _ (rw (ne_eqb v u (λ e. omega arith)) at (all_at n v (λ v. eqb v u || not (eqb (f v) (f u))) h (omega arith))))

pub alone_from : (n u : ℕ) (f : ℕ → ℕ) → ((v : ℕ) → v < n → f v ≡ f u → v ≡ u) → all_below n (λ v. eqb v u || not (eqb (f v) (f u))) ≡ true
alone_from n u f h =
    all_from n (λ v. eqb v u || not (eqb (f v) (f u)))
    (λ v b. by_eq (λ (d : Bool). (d || not (eqb (f v) (f u))) ≡ true) v u (λ e. refl) (λ ne. rw (ne_eqb (f v) (f u) (λ e. ne (h v b e)))))

-- some f u is 1 or more
pub serves_max : (n : ℕ) (f : ℕ → ℕ) → any_below n (λ u. leb 1 (f u)) ≡ true → 1 ≤ max_below n f
serves_max n f h = any_out n (λ u. leb 1 (f u)) (1 ≤ max_below n f) h (λ u l e. omega (arith, leb-true 1 (f u) e, max_at n u f l))

pub max_serves : (n : ℕ) (f : ℕ → ℕ) → 1 ≤ max_below n f → any_below n (λ u. leb 1 (f u)) ≡ true
max_serves n f a =
    let l = max_there n f a in
    let b : 1 ≤ f (task_ranked n f (max_below n f)) = omega (arith, task_rank n (max_below n f) f l) in
    any_at n (task_ranked n f (max_below n f)) (λ u. leb 1 (f u)) l (le-leb 1 _ b)

-- ── by all fields ──
pub row_same : (a b : Standing) → a.resource ≡ b.resource → a.place ≡ b.place → a ≡ b
row_same a b e f = ap₂ (λ (x y : ℕ). record { resource = x; place = y }) e f

pub row_none : (r : Standing) → is_idle r ≡ true → r ≡ none_in_line
row_none r h =
    let a = and_parts (eqb r.resource absent) (eqb r.place absent) h in
    row_same r none_in_line (eqb-true _ _ a.0) (eqb-true _ _ a.1)

pub state_same : (s t : State) → s.lines ≡ t.lines → s.tasks ≡ t.tasks → s ≡ t
state_same s t e f = ap₂ (λ (ls : List LineRow) (ts : List Standing). record { lines = ls; tasks = ts }) e f

-- ── rows and ranks ──
module _ (p : Plan) (ts : List Standing) where
  -- slot i has a processor with a task in line, just once
  abbrev pub served_at : ℕ → LineRow → ℕ → Bool
  served_at q l i = serves p ts q (slot l i) && all_below i (λ j. not (eqb (slot l j) (slot l i)))

  -- who has a rank in k's queue is k's, and its place is 1 less than the rank
  pub rank_of_lem : (q k u : ℕ) → 1 ≤ rank p ts q k u → Stands (standing ts u) (processor_of p u) q k (rank p ts q k u - 1)
  rank_of_lem q k u a = rank_out p ts q k (rank p ts q k u - 1) u (omega arith)

  pub rank_none : (q k u : ℕ) → k ≢ processor_of p u → rank p ts q k u ≡ 0
  rank_none q k u ne =
      on_eq (rank p ts q k u ≡ 0) (rank p ts q k u) 0 (λ e. e) (λ e. absurd (ne (sym (rank_of_lem q k u (omega arith)).core)))

  -- a task's own rank
  pub rank_own : (u : ℕ) → rank p ts (standing ts u).resource (processor_of p u) u ≡ (standing ts u).place + 1
  rank_own u =
      rank_in p ts (standing ts u).resource (processor_of p u) (standing ts u).place u
      (record { core = refl; resource = refl; place = refl })

-- ── hold times ──
module _ (p : Plan) (v : Valid p) where
  -- who uses a global resource has a hold time for it
  pub hold_test : (u q : ℕ) → leb 1 (hold_at p u q) ≡ (global p q && uses p u q)
  unfolding hold_at
  hold_test u q = go (global p q) (uses p u q) refl
    where
      go : (a b : Bool) → uses p u q ≡ b → leb 1 (cond (a && b) (hold_time p u q) 0) ≡ (a && b)
      go true true e = le-leb 1 _ (hold_low p v u q e)
      go true false e = refl
      go false b e = refl

  pub hold_user : (u q : ℕ) → 1 ≤ hold_at p u q → (global p q && uses p u q) ≡ true
  hold_user u q h = sym (hold_test u q) ∙ le-leb 1 _ h

  -- who has a hold time is a task, and what for is a resource
  pub hold_task : (u q : ℕ) → 1 ≤ hold_at p u q → u < p.tasks
  hold_task u q h =
      uses_out p u q (u < p.tasks) (and_parts (global p q) (uses p u q) (hold_user u q h)).1 (λ s l t r. omega (arith, v.section_fits s l))

  pub hold_resource : (u q : ℕ) → 1 ≤ hold_at p u q → q < p.resources
  hold_resource u q h =
      uses_out p u q (q < p.resources) (and_parts (global p q) (uses p u q) (hold_user u q h)).1 (λ s l t r. omega (arith, v.section_fits s l))

  module _ (ts : List Standing) where
    -- a processor that serves q is one
    pub server_low : (q k : ℕ) → 1 ≤ max_below p.tasks (rank p ts q k) → k < p.processors
    server_low q k a =
        any_out p.tasks (λ u. leb 1 (rank p ts q k u)) (k < p.processors) (max_serves p.tasks (rank p ts q k) a)
        (λ u l e. omega (arith, (rank_of_lem p ts q k u (leb-true 1 _ e)).core, (v.every_task_fits u l).processor))

    -- ── from the test ──
    -- a row in line
    pub record InLine (u : ℕ) : Type 0 where
      pub hold : 1 ≤ hold_at p u (standing ts u).resource
      pub single : alone p ts u ≡ true
      pub behind : backed p ts u ≡ true

    pub row_of : (u : ℕ) → task_fits p ts u ≡ true → (standing ts u ≡ none_in_line) ⊎ InLine u
    unfolding task_fits
    row_of u h =
        let q = (standing ts u).resource in
        or_out (idle p ts u) (global p q && uses p u q && (alone p ts u && backed p ts u)) _ h (λ e. inl (row_none (standing ts u) e))
        (λ e. let t = four_parts (global p q) (uses p u q) (alone p ts u) (backed p ts u) e in
        inr (record { hold = leb-true 1 _ (hold_test u q ∙ both t.first t.second); single = t.third; behind = t.fourth }))

    module _ (rows : (u : ℕ) → u < most_tasks → task_fits p ts u ≡ true) where
      -- a row that names a resource is in line
      in_line_lem : (u q : ℕ) → u < p.tasks → q < most_resources → (standing ts u).resource ≡ q → InLine u
      in_line_lem u q l b e =
          ⊎_elim (λ f. let n = ap (λ (r : Standing). r.resource) f in let bad : ⊥ = omega arith in absurd bad) (λ w. w)
          (row_of u (rows u (omega (arith, v.tasks))))

      pub ranked : (q : ℕ) → q < most_resources → Ranked p.tasks (terms p q) (rank p ts q)
      ranked q b = record {
        own = λ k u l ne. rank_none p ts q k u ne;
        alone = λ u l a. let e = (rank_of_lem p ts q (processor_of p u) u a).resource in
            rw (← e) (alone_at p.tasks u (beside p ts u) l (in_line_lem u q l b e).single);
        backed = λ u l a. let h = rank_of_lem p ts q (processor_of p u) u (omega arith) in
            rw (← h.place, ← h.resource)
            (or_out (eqb (standing ts u).place 0) _ _ (in_line_lem u q l b h.resource).behind
            (λ e. let z = eqb-true (standing ts u).place 0 e in let bad : ⊥ = omega arith in absurd bad)
            (λ e. any_out p.tasks (λ w. eqb (beside p ts u w) (standing ts u).place) _ e
            (λ w m i. omega (arith, task_first p.tasks (standing ts u).place w (beside p ts u) m (eqb-true _ _ i)))));
        uses = λ u l a. let e = (rank_of_lem p ts q (processor_of p u) u a).resource in rw (← e) (in_line_lem u q l b e).hold;
      }

    -- ── a line, where the ranks are sound ──
    good_of : (q : ℕ) (l : LineRow) → Ranked p.tasks (terms p q) (rank p ts q) → line_fits p ts q l ≡ true → Good p ts q l
    unfolding line_fits slot_fits core_fits clock_fits
    good_of q l r h =
        let t = four_parts (leb l.queued most_processors) (all_below most_processors (slot_fits p ts q l))
        (all_below p.processors (core_fits p ts q l)) (clock_fits p ts q l) h in
        let few = leb-true l.queued most_processors t.first in
        let slots : (i : ℕ) → i < most_processors → slot_fits p ts q l i ≡ true = λ i x. all_at most_processors i (slot_fits p ts q l) t.second x in
        let passed : (i : ℕ) → i < l.queued → served_at p ts q l i ≡ true = λ i x. rw (lt-ltb i l.queued x) at (slots i (omega arith)) in
        let served : (i : ℕ) → i < l.queued → 1 ≤ max_below p.tasks (rank p ts q (slot l i)) =
        λ i x. serves_max p.tasks (rank p ts q (slot l i)) (and_parts (serves p ts q (slot l i)) _ (passed i x)).0 in
        let differ : (i j : ℕ) → j < l.queued → i < j → slot l i ≢ slot l j =
        λ i j y x. let once = (and_parts (serves p ts q (slot l j)) _ (passed j y)).1 in
        eqb-false _ _ (not-true _ (all_at j i (λ i. not (eqb (slot l i) (slot l j))) once x)) in
        record {
          small = few;
          ranked = r;
          queued = record {
            placed = λ i x. server_low q (slot l i) (served i x);
            served = served;
            once = λ i j x y s. on_eq (i ≡ j) i j (λ e. e)
                (λ ne. on_le (i ≡ j) i j (λ a. absurd (differ i j y (omega arith) s)) (λ a. absurd (differ j i x a (sym s))));
            stands = λ k a. any_out l.queued (λ i. eqb (slot l i) k) (At l.queued (slot l) k)
                (rw (max_serves p.tasks (rank p ts q k) a) at (all_at p.processors k (core_fits p ts q l) t.third (server_low q k a)))
                (λ i x e. record { index = i; within = x; is = eqb-true _ _ e });
          };
          rest = λ i x y. eqb-true (slot l i) absent (rw (le-ltb i l.queued x) at (slots i y));
          timed = record {
            idle = λ z. let x = and_parts (eqb l.hold_left 0) _ (rw (eq-eqb l.queued 0 z) at t.fourth) in
                (eqb-true _ _ x.0, eqb-true _ _ x.1);
            runs = λ z. let x = four_parts (leb 1 l.hold_left) (leb l.hold_left (hold_at p (holder_of p ts q l) q)) _ _
                (rw (ne_eqb l.queued 0 (λ i. omega arith)) at t.fourth) in
                (leb-true _ _ x.first, leb-true _ _ x.second, leb-true _ _ x.third, leb-true _ _ x.fourth);
          };
        }

    of_good : (q : ℕ) (l : LineRow) → Good p ts q l → line_fits p ts q l ≡ true
    unfolding line_fits slot_fits core_fits clock_fits
    of_good q l w =
        both (both (le-leb _ _ w.small) (all_from most_processors (slot_fits p ts q l) slots))
        (both (all_from p.processors (core_fits p ts q l) cores) clock)
      where
        slots : (i : ℕ) → i < most_processors → slot_fits p ts q l i ≡ true
        slots i x =
            on_le (slot_fits p ts q l i ≡ true) l.queued i
            (λ a. rw (le-ltb i l.queued a) (eq-eqb _ _ (w.rest i a x)))
            (λ a. rw (lt-ltb i l.queued a) (both (max_serves p.tasks (rank p ts q (slot l i)) (w.queued.served i a))
            (all_from i (λ j. not (eqb (slot l j) (slot l i)))
            (λ j b. rw (ne_eqb (slot l j) (slot l i) (λ e. omega (arith, w.queued.once j i (omega arith) a e)))))))

        cores : (k : ℕ) → k < p.processors → core_fits p ts q l k ≡ true
        cores k x =
            on_le (core_fits p ts q l k ≡ true) 1 (max_below p.tasks (rank p ts q k))
            (λ a. let y = w.queued.stands k a in
            rw (any_at l.queued y.index (λ i. eqb (slot l i) k) y.within (eq-eqb _ _ y.is)) (or-true (not (serves p ts q k))))
            (λ z. rw (is_not_true (serves p ts q k) (λ t. omega (arith, serves_max p.tasks (rank p ts q k) t))))

        clock : clock_fits p ts q l ≡ true
        clock =
            on_eq (clock_fits p ts q l ≡ true) l.queued 0
            (λ z. let x = w.timed.idle z in rw (eq-eqb l.queued 0 z) (both (eq-eqb _ _ x.0) (eq-eqb _ _ x.1)))
            (λ z. let x = w.timed.runs (omega arith) in
            rw (ne_eqb l.queued 0 z) (both (both (le-leb _ _ x.0) (le-leb _ _ x.1)) (both (le-leb _ _ x.2) (le-leb _ _ x.3))))

    -- a row in line, with the ranks of its line
    row_fits : (u : ℕ) → 1 ≤ hold_at p u (standing ts u).resource
        → Ranked p.tasks (terms p (standing ts u).resource) (rank p ts (standing ts u).resource) → task_fits p ts u ≡ true
    unfolding task_fits
    row_fits u h r = rw (both (hold_user u _ h) (both single (behind (standing ts u).place (rank_own p ts u)))) (or-true (idle p ts u))
      where
        k : ℕ
        k = processor_of p u

        l : u < p.tasks
        l = hold_task u _ h

        single : alone p ts u ≡ true
        single =
            alone_from p.tasks u (beside p ts u)
            (λ w m e. let own = rank_own p ts u in
            sym (sole r k w m (omega arith)) ∙ ap (task_ranked p.tasks (beside p ts u)) e ∙ sole r k u l (omega arith))

        behind : (j : ℕ) → beside p ts u u ≡ j + 1 → (eqb j 0 || any_below p.tasks (λ w. eqb (beside p ts u w) j)) ≡ true
        behind j own =
            by_eq (λ (d : Bool). (d || any_below p.tasks (λ w. eqb (beside p ts u w) j)) ≡ true) j 0 (λ e. refl)
            (λ ne. let e : beside p ts u u - 1 ≡ j = omega arith in
            let m : task_ranked p.tasks (beside p ts u) j < p.tasks = rw e at (r.backed u l (omega arith)) in
            any_at p.tasks _ (λ w. eqb (beside p ts u w) j) m (eq-eqb _ _ (task_rank p.tasks j (beside p ts u) m)))

pub whole_of : (p : Plan) → Valid p → (s : State) → sound p s ≡ true → Whole p s
unfolding sound
whole_of p v s h =
    let a = and_parts (all_below most_tasks (task_fits p s.tasks)) _ h in
    let rows : (u : ℕ) → u < most_tasks → task_fits p s.tasks u ≡ true = λ u l. all_at most_tasks u (task_fits p s.tasks) a.0 l in
    record {
      rows = λ u l. ⊎_elim (λ e. inl e) (λ w. inr w.hold) (row_of p v s.tasks u (rows u l));
      lines = λ q l. good_of p v s.tasks q (line_at s q) (ranked p v s.tasks rows q l)
          (all_at most_resources q (λ q. line_fits p s.tasks q (line_at s q)) a.1 l);
    }

pub sound_of : (p : Plan) → Valid p → (s : State) → Whole p s → sound p s ≡ true
unfolding sound task_fits
sound_of p v s w =
    both (all_from most_tasks (task_fits p s.tasks) (λ u l. row u (w.rows u l)))
    (all_from most_resources (λ q. line_fits p s.tasks q (line_at s q)) (λ q l. of_good p v s.tasks q (line_at s q) (w.lines q l)))
  where
    row : (u : ℕ) → (standing s.tasks u ≡ none_in_line) ⊎ (1 ≤ hold_at p u (standing s.tasks u).resource) → task_fits p s.tasks u ≡ true
    row u (inl e) = rw e
    row u (inr h) =
        let low = hold_resource p v u _ h in
        row_fits p v s.tasks u h (w.lines (standing s.tasks u).resource (omega (arith, v.resources))).ranked
