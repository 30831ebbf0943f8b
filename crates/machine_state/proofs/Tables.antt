-- Laws of the tables: the seats of the tasks, and who sits where.
use Rattle.machine_state.proofs.Ground.{ℕ, zero, suc, ◌+◌, ◌<◌, ◌≤◌, Bool, true, false, cond, ◌&&◌, ◌≡◌, refl, sym, ◌∙◌, ◌≢◌, List}
use Rattle.machine_state.proofs.Ground.{eqb, ltb, length, get_or, set, replicate, length-replicate, get_or-replicate}
use Rattle.machine_state.proofs.Ground.{get_or-set_same, get_or-set_other, arith, eqb-true, eq-eqb, ltb-true, lt-ltb}
use Rattle.machine_state.proofs.Ground.{most_processors, most_tasks, most_resources, max_below, and_parts, same_test, by_eq}
use Rattle.machine_state.proofs.Ground.{stamped_below, stamped_length, on_eq, on_le, Plan, Valid, processor_of, Figures, Standing}
use Rattle.machine_state.proofs.Ground.{plan_of, valid_plan, standing, rank, seat, no_seat, seat_count, key_of, Keys, Seats, InQueue}
use Rattle.folds.proofs.Ground.{max, max-zero}
use Rattle.folds.proofs.Tests.{is_not_false}
use Rattle.folds.proofs.Figures.{max_same}
use Rattle.folds.proofs.Ranges.{max_where_bound}
use Rattle.plan_reading.specs.Plan.{Checked}
use Rattle.machine_state.specs.Inner.{SeatSized, Sized}

-- who of the tasks below n sits where
abbrev pub seats_below : List ℕ → ℕ → List ℕ
seats_below keys n = stamped_below n (λ u. get_or keys u 0) (λ u. u + 1) (replicate seat_count 0)

module _ (p : Plan) (v : Valid p) where
  pub low_processor : (u : ℕ) → u < p.tasks → processor_of p u < most_processors
  low_processor u l = omega (arith, v.processors, (v.every_task_fits u l).processor)

-- the same of a file that passed every check
pub few_tasks : (f : List ℕ) → Checked f → (plan_of f).tasks ≤ most_tasks
few_tasks f h = (valid_plan f h).tasks

pub core_low : (f : List ℕ) (u : ℕ) → Checked f → u < (plan_of f).tasks → processor_of (plan_of f) u < most_processors
core_low f u h l = low_processor (plan_of f) (valid_plan f h) u l

module _ (s : Standing) where
  -- the row names a resource and a place
  abbrev in_line : Bool
  in_line = ltb s.resource most_resources && ltb s.place most_tasks

  pub row_low : (k : ℕ) → k < most_processors → in_line ≡ true → InQueue s k
  row_low k l t =
      let a = and_parts (ltb s.resource most_resources) (ltb s.place most_tasks) t in
      record { core = l; resource = ltb-true _ _ a.0; place = ltb-true _ _ a.1 }

  pub key_off : (m : ℕ) → in_line ≡ false → key_of s m ≡ no_seat
  unfolding key_of
  key_off m t = rw t

  pub key_on : (m : ℕ) → m < most_processors → key_of s m ≢ no_seat → InQueue s m
  key_on m l n = row_low m l (is_not_false in_line (λ t. n (key_off m t)))

-- a task of processor m with this row stands in place j of k's queue for q
pub record Stands (s : Standing) (m q k j : ℕ) : Type 0 where
  pub core : m ≡ k
  pub resource : s.resource ≡ q
  pub place : s.place ≡ j

-- its seat tells that, and so does its rank
pub key_in : (s : Standing) (m q k j : ℕ) → q < most_resources → j < most_tasks → Stands s m q k j → key_of s m ≡ seat q k j
unfolding key_of
key_in s m q k j lq lj h = rw (h.core, h.resource, h.place, lt-ltb q most_resources lq, lt-ltb j most_tasks lj)

-- a row that names a queue and a place, by itself
pub key_own : (s : Standing) (m : ℕ) → InQueue s m → key_of s m ≡ seat s.resource m s.place
key_own s m w = key_in s m s.resource m s.place w.resource w.place (record { core = refl; resource = refl; place = refl })

key_out : (s : Standing) (m q k j : ℕ) → m < most_processors → k < most_processors → q < most_resources → j < most_tasks
    → key_of s m ≡ seat q k j → Stands s m q k j
key_out s m q k j lm lk lq lj h =
    let w = key_on s m lm (λ e. omega arith) in
    let e = key_own s m w in
    record { core = omega arith; resource = omega arith; place = omega arith }

module _ (p : Plan) (ts : List Standing) where
  pub rank_in : (q k j u : ℕ) → Stands (standing ts u) (processor_of p u) q k j → rank p ts q k u ≡ j + 1
  unfolding rank
  rank_in q k j u h = rw (h.core, h.resource, h.place, eq-eqb k k refl, eq-eqb q q refl)

  pub rank_out : (q k j u : ℕ) → rank p ts q k u ≡ j + 1 → Stands (standing ts u) (processor_of p u) q k j
  unfolding rank
  rank_out q k j u h = go (eqb (processor_of p u) k) (eqb (standing ts u).resource q) refl refl h
    where
      go : (a b : Bool) → eqb (processor_of p u) k ≡ a → eqb (standing ts u).resource q ≡ b
          → cond (a && b) ((standing ts u).place + 1) 0 ≡ j + 1 → Stands (standing ts u) (processor_of p u) q k j
      go true true own on e = record { core = eqb-true _ _ own; resource = eqb-true _ _ on; place = omega arith }
      go true false own on e = let bad : ⊥ = omega arith in absurd bad
      go false b own on e = let bad : ⊥ = omega arith in absurd bad

  key_rank : (q k j u : ℕ) → processor_of p u < most_processors → q < most_resources → k < most_processors → j < most_tasks
      → eqb (key_of (standing ts u) (processor_of p u)) (seat q k j) ≡ eqb (rank p ts q k u) (j + 1)
  key_rank q k j u lm lq lk lj =
      same_test _ _
      (λ t. eq-eqb _ _ (rank_in q k j u (key_out (standing ts u) (processor_of p u) q k j lm lk lq lj (eqb-true _ _ t))))
      (λ t. eq-eqb _ _ (key_in (standing ts u) (processor_of p u) q k j lq lj (rank_out q k j u (eqb-true _ _ t))))

key_high : (s : Standing) (m : ℕ) → m < most_processors → key_of s m < seat_count
key_high s m l =
    on_eq (key_of s m < seat_count) (key_of s m) no_seat (λ e. omega arith)
    (λ n. let w = key_on s m l n in omega (arith, key_own s m w))

-- what stands at x is the last whose key is x, as its number plus 1
pub stamped_last : (n m : ℕ) (f : ℕ → ℕ) (x : ℕ) → x < m
    → get_or (stamped_below n f (λ k. k + 1) (replicate m 0)) x 0 ≡ max_below n (λ k. cond (eqb (f k) x) (k + 1) 0)
unfolding stamped_below max_below
stamped_last zero m f x l = get_or-replicate m x 0 0 l
stamped_last (suc n) m f x l =
    let g : List ℕ = stamped_below n f (λ k. k + 1) (replicate m 0) in
    let s : ℕ = max_below n (λ k. cond (eqb (f k) x) (k + 1) 0) in
    let ih : get_or g x 0 ≡ s = stamped_last n m f x l in
    let len : length g ≡ m = stamped_length n f (λ k. k + 1) (replicate m 0) ∙ length-replicate m 0 in
    let low : s ≤ n = max_where_bound n n (λ k. eqb (f k) x) (λ k. k + 1) (λ k lk t. omega arith) in
    let later : n + 1 ≡ max s (n + 1) = omega arith in
    by_eq (λ (b : Bool). get_or (set g (f n) (n + 1)) x 0 ≡ max s (cond b (n + 1) 0)) (f n) x
    (λ e. rw e (get_or-set_same g x (n + 1) 0 (rw len l) ∙ later))
    (λ d. get_or-set_other g (f n) x (n + 1) 0 (λ e. d (sym e)) ∙ ih ∙ sym (max-zero s))

module _ (p : Plan) (v : Valid p) (ts : List Standing) (keys : List ℕ) (h : Keys p ts keys) where
  pub seat_high : (u : ℕ) → u < p.tasks → get_or keys u 0 < seat_count
  seat_high u l = rw (h.at u l) (key_high (standing ts u) (processor_of p u) (low_processor p v u l))

  -- and that of any row, task or not
  pub keys_low : (u : ℕ) → u < most_tasks → get_or keys u 0 < seat_count
  keys_low u l =
      on_le (get_or keys u 0 < seat_count) p.tasks u (λ m. omega (arith, h.rest u l m)) (λ m. seat_high u m)

  -- so the tables have their sizes
  pub sized_by : {figures seats : List ℕ} → Figures p figures → Seats p ts seats → Sized figures keys seats
  sized_by f t =
      let tables : SeatSized _ _ = record { figures_long = f.long; seats_long = t.long; seats_low = t.low } in
      record { tables = tables; keys_long = h.long; keys_low = keys_low }

  -- the end of the loop that seats the tasks
  pub seats_done : (n : ℕ) {t : List ℕ} → n ≡ p.tasks → t ≡ seats_below keys n → Seats p ts t
  seats_done n e f =
      let key : ℕ → ℕ = λ u. get_or keys u 0 in
      rw (f, e)
      (record {
        long = stamped_length p.tasks key (λ u. u + 1) (replicate seat_count 0) ∙ length-replicate {A = ℕ} seat_count 0;
        at = λ q k j lq lk lj. stamped_last p.tasks seat_count key (seat q k j) (omega arith) ∙ max_same p.tasks _ _
            (λ u l. rw (h.at u l, key_rank p ts q k j u (low_processor p v u l) lq lk lj));
        low = λ x l. let last = max_where_bound p.tasks p.tasks (λ u. eqb (key u) x) (λ u. u + 1) (λ u b t. omega arith) in
            omega (arith, v.tasks, stamped_last p.tasks seat_count key x l);
      })
