-- Laws of the demand of the tasks above a task.
use Rattle.analysis_tolerance.proofs.Ground.{ℕ, zero, suc, ◌+◌, ◌*◌, ◌-◌, ◌<◌, ◌≤◌, true, false, eqb, ◌≡◌, refl, sym, ap, ◌∙◌}
use Rattle.analysis_tolerance.proofs.Ground.{List, get_or, get_or-replicate, length-replicate, set, replicate, arith, sum_below, sum_bound, sum_step}
use Rattle.analysis_tolerance.proofs.Ground.{most_tasks, TaskRow, Plan, Valid, higher, ceil_div, demand, left, tolerance, most_period}
use Rattle.analysis_tolerance.proofs.Ground.{ceil_bound, HigherTasks, Timed, Scanned, demand_of, Counted, Passed, added_at, ends_after, ℤ, pos, ◌-ℤ◌, greatest_to}
use Rattle.folds.proofs.Ground.{◌≢◌, add-zero, set-get_or}
use Rattle.folds.proofs.Ranges.{cond_bound, sum_none}
use Rattle.folds.proofs.EachLaws.{each_length, each_later, each_at, each_step}
use Rattle.analysis_tolerance.proofs.Periods.{begun, begun_times}
use Rattle.folds.specs.Packed.{packed_below}
use Rattle.folds.specs.Signed.{max_z}
use Rattle.std.specs.Int.{int_max}
use Rattle.std.proofs.lemmas.Int.{ints}
use Rattle.folds.proofs.PackedLaws.{packed_length, packed_all, packed_sum, packed_step, packed_skip, count_taken, count_skipped}
use Rattle.folds.proofs.SignedLaws.{greatest_step, greatest_same}

-- what is added, in its range
pub added_high : {periods times : List ℕ} {m : ℕ} (ends : List ℕ) (t k : ℕ) → Timed periods times m → k ≤ m → added_at times ends k t ≤ k * most_period
unfolding added_at
added_high {periods} {times} {m} ends t k h l =
    sum_bound k most_period _ (λ j lj. cond_bound (eqb (get_or ends j 0) t) (get_or times j 0) most_period (λ b. h.time j (omega arith)))

-- a loop over the tasks that counts the periods which begin at t, come to task k: where they end, and what they add
module _ {periods times ends later : List ℕ} {m t : ℕ} (k : ℕ) (h : Counted periods times m t ends) (e : later ≡ ends_after periods ends k t) where
  -- the end of task k is as it was
  same : get_or later k 0 ≡ get_or ends k 0
  unfolding ends_after
  same = rw e (each_later 0 _ k k ends (omega arith))

  pub end_high : k < m → get_or later k 0 < most_period + most_period
  end_high l =
      omega (arith, same, h.end k l, h.time, h.tasks.period k l, (begun t (get_or periods k 0) (h.tasks.low k l)).last)

  -- a turn at whose task a period ends at t, and one at whose task none does
  module _ {added : ℕ} (a : added ≡ added_at times ends k t) where
    pub turn_begun : get_or later k 0 ≡ t
        → (set later k (get_or later k 0 + get_or periods k 0) ≡ ends_after periods ends (k + 1) t) × (added + get_or times k 0 ≡ added_at times ends (k + 1) t)
    unfolding ends_after added_at
    turn_begun q = (each_step 0 _ k ends e (grind arith), sum_step k _ a (grind (arith, same)))

    pub turn_left : get_or later k 0 ≢ t → (later ≡ ends_after periods ends (k + 1) t) × (added ≡ added_at times ends (k + 1) t)
    unfolding ends_after added_at
    turn_left d =
        let stays : set later k (get_or later k 0) ≡ later = set-get_or later k 0 in
        (sym stays ∙ each_step 0 _ k ends e (grind arith), sym (add-zero added) ∙ sum_step k _ {t = 0} a (grind (arith, same)))

-- at 0 no period has begun
module _ {periods times : List ℕ} {m : ℕ} (h : Timed periods times m) where
  none : (v : ℕ) → ceil_div 0 v ≡ 0
  none v = omega (arith, ceil_bound 0 v)

  pub counted_none : Counted periods times m 0 (replicate most_tasks 0)
  counted_none =
      record {
        tasks = h;
        time = omega arith;
        long = length-replicate {A = ℕ} most_tasks 0;
        end = λ k l. get_or-replicate {A = ℕ} most_tasks k 0 0 (omega (arith, h.few)) ∙ sym (rw (none (get_or periods k 0)) (omega arith));
      }

  pub demand_none : demand_of periods times m 0 ≡ 0
  unfolding demand_of
  demand_none = sum_none m _ (λ k l. rw (none (get_or periods k 0)) (omega arith))

-- from t to t + 1, by a pass that adds x
module _ {periods times ends later : List ℕ} {m t x : ℕ} (h : Counted periods times m t ends) (p : Passed periods times m t ends later x) where
  pub counted_next : t < most_period → Counted periods times m (t + 1) later
  unfolding ends_after
  counted_next l =
      rw p.moved
      (record {
        tasks = h.tasks;
        time = omega arith;
        long = each_length 0 _ m ends ∙ h.long;
        end = λ k lk. each_at 0 _ m k ends lk (omega (arith, h.long, h.tasks.few))
            ∙ rw (h.end k lk) (sym (begun_times t (get_or periods k 0) (h.tasks.low k lk) (get_or periods k 0)));
      })

  pub demand_next : demand_of periods times m t + x ≡ demand_of periods times m (t + 1)
  unfolding demand_of added_at sum_below
  demand_next = rw p.told (some m (omega arith))
    where
      some : (k : ℕ) → k ≤ m → demand_of periods times k t + added_at times ends k t ≡ demand_of periods times k (t + 1)
      some zero l = refl
      some (suc k) l =
          let one = begun_times t (get_or periods k 0) (h.tasks.low k l) (get_or times k 0) in
          let before = some k (omega arith) in
          rw (h.end k l) (omega arith)

-- what `own` and that demand leave of a time t + 1
abbrev pub left_of : List ℕ → List ℕ → ℕ → ℕ → ℕ → ℤ
left_of periods times m own t = pos (t + 1) -ℤ pos (own + demand_of periods times m (t + 1))

-- a turn of a loop from 1 that keeps the greatest of the numbers before t, by the library's word for the greater of two
pub greatest_next : (t : ℕ) (f : ℕ → ℤ) {s x z : ℤ} → 1 ≤ t → s ≡ greatest_to (t - 1) f → x ≡ f t → z ≡ int_max s x → z ≡ greatest_to (t + 1 - 1) f
greatest_next t f {s} {x} h p q r =
    let before : t + 1 - 1 ≡ t - 1 + 1 = omega arith in
    let same : t ≡ t - 1 + 1 = omega arith in
    rw before (greatest_step (t - 1) f p (q ∙ ap f same) (r ∙ max_same s x))
  where
    max_same : (a b : ℤ) → int_max a b ≡ max_z a b
    max_same a b = grind (arith, ints)

-- a turn that takes task n, and one that does not
module _ {p : Plan} {i n m : ℕ} {v u : List ℕ} (a : HigherTasks p i n m v u) where
  pub higher_taken : {x y : ℕ} → higher p i n ≡ true → x ≡ (p.task n).period → y ≡ (p.task n).execution
      → HigherTasks p i (n + 1) (m + 1) (set v m x) (set u m y)
  higher_taken e ex ey =
      record {
        count = count_taken n (higher p i) e a.count;
        few = omega (arith, a.few);
        period = packed_step n (higher p i) (λ j. (p.task j).period) _ a.period a.count ex e;
        time = packed_step n (higher p i) (λ j. (p.task j).execution) _ a.time a.count ey e;
      }

  pub higher_skipped : higher p i n ≡ false → HigherTasks p i (n + 1) m v u
  higher_skipped e =
      record {
        count = count_skipped n (higher p i) e a.count;
        few = omega (arith, a.few);
        period = packed_skip n (higher p i) (λ j. (p.task j).period) _ e a.period;
        time = packed_skip n (higher p i) (λ j. (p.task j).execution) _ e a.time;
      }

-- all tasks above task i of a valid plan: their number, ranges and demand, and the tolerance of task i
module _ (p : Plan) (v : Valid p) (i : ℕ) {m : ℕ} {periods times : List ℕ} (a : HigherTasks p i p.tasks m periods times) where
  -- what holds of every task's figure holds of those packed
  every : {l : List ℕ} (g : ℕ → ℕ) (P : ℕ → Type 0) → l ≡ packed_below p.tasks (higher p i) g (replicate most_tasks 0)
      → ((j : ℕ) → j < p.tasks → P (g j)) → (k : ℕ) → k < m → P (get_or l k 0)
  every g P e all = rw (a.count, e) (packed_all p.tasks most_tasks (higher p i) g P v.tasks (λ j l h. all j l))

  timed : Timed periods times m
  timed =
      record {
        periods_long = rw a.period (packed_length p.tasks (higher p i) (λ j. (p.task j).period) (replicate most_tasks 0));
        times_long = rw a.time (packed_length p.tasks (higher p i) (λ j. (p.task j).execution) (replicate most_tasks 0));
        few = omega (arith, a.few, v.tasks);
        low = every _ (λ (x : ℕ). 1 ≤ x) a.period (λ j l. let fits = v.every_task_fits j l in omega arith);
        period = every _ (λ (x : ℕ). x ≤ most_period) a.period (λ j l. let fits = v.every_task_fits j l in omega arith);
        time = every _ (λ (x : ℕ). x ≤ most_period) a.time (λ j l. let fits = v.every_task_fits j l in omega arith);
      }

  pub higher_scanned : {row : TaskRow} → i < p.tasks → row ≡ p.task i → Scanned periods times m row.execution row.period
  higher_scanned l e =
      let fits = v.every_task_fits i l in
      rw e (record { above = timed; own = omega arith; low = omega arith; high = omega arith })

  higher_demand : (t : ℕ) → demand_of periods times m t ≡ demand p i t
  unfolding demand_of demand
  higher_demand t =
      rw (a.count, a.period, a.time)
      (packed_sum p.tasks most_tasks (higher p i) (λ j. (p.task j).period) (λ j. (p.task j).execution) (λ (x y : ℕ). ceil_div t x * y) v.tasks)

  -- Equation 12
  pub higher_tolerance : {row : TaskRow} {z : ℤ} → row ≡ p.task i
      → z ≡ greatest_to (row.period - 1) (left_of periods times m row.execution) → z ≡ tolerance p i
  unfolding tolerance left
  higher_tolerance e q =
      (rw e at q)
      ∙ greatest_same ((p.task i).period - 1) _ _ (λ t. ap (λ (d : ℕ). pos (t + 1) -ℤ pos ((p.task i).execution + d)) (higher_demand (t + 1)))
