-- What the figures of the analysis are bound by, and how they hang together.
use Rattle.folds.proofs.Ground.{ℕ, zero, suc, ◌+◌, ◌*◌, ◌-◌, ◌<◌, ◌≤◌, min, Bool, true, false, cond, ◌&&◌, not, and-false, true≢false, ◌≡◌, refl, sym, ◌∙◌, eqb, ltb, mul-le-mul, suc-mul, mul-suc, div-zero, div-lt_iff_lt-mul, le_of_suc-le-suc, le_antisymm, arith, ltb-true, ltb-false, lt-ltb, le-ltb, leb-true, eqb-true, eq-eqb, ne_eqb, not-false}
use lib.Signed.{mag}
use Rattle.folds.specs.Below.{any_below, sum_below, max_below}
use Rattle.folds.proofs.Tests.{cond_both, and_parts, is_not_true, same_test, any_at, any_out, code_zero, code_next}
use Rattle.folds.proofs.Figures.{sum_bound, count_bound, sum_at, sum_same, max_same}
use Rattle.folds.proofs.SignedLaws.{sub_mag, less_mag, greatest_mag}
use Rattle.folds.proofs.Ranges.{cond_bound, max_where_bound, sum_where_bound, max_where_at, any_count, any_max, count_other, sum_none, sum_swap, sum_pick, count_times}
use Rattle.folds.proofs.Arrays.{by_eq}
use Rattle.plan_reading.specs.Plan.{Plan, TaskFits, Valid}
use Rattle.analysis_equations.specs.Sharing.{processor_of, priority_of, section_by, section_on, uses, used_on, global, global_by, higher, lower}
use Rattle.analysis_equations.specs.HoldTimes.{longest_on, longest_off, interference, hold_time, hold_at, user_on, fellow, budget, wait_time}
use Rattle.analysis_equations.specs.Blocking.{ceil_div, global_count, count_on, ceiling, blocks, longest_local, blocking1, longest_global, blocking2, fellow_holds, section_wait, waiting_on, waiting_side}
use Rattle.analysis_equations.specs.Requirement.{demand, left, tolerance, slack, asks}
use Rattle.analysis_equations.specs.Questions.{task_number, sharing_code, use_code}
use Rattle.analysis_equations.specs.Bounds.{most_interference, most_hold, most_budget, most_wait, most_fellow_holds, most_turns, most_section_wait, most_side, most_blocking1, most_blocking2, most_period, most_demand_of_one, most_demand}

-- a quotient rounded up is at most the number divided
pub ceil_bound : (a b : ℕ) → ceil_div a b ≤ a
ceil_bound a zero = rw div-zero (omega arith)
ceil_bound a (suc b) =
    let h : a + (suc b - 1) < suc a * suc b = omega (arith, suc-mul a (suc b), mul-suc a b) in
    le_of_suc-le-suc ((div-lt_iff_lt-mul {k = suc b} (omega arith)).1 h)

-- a test within a test, in another order
cond_swap : (a b d : Bool) (x : ℕ) → cond (a && b && d) x 0 ≡ cond (a && d) (cond b x 0) 0
cond_swap true true d x = refl
cond_swap true false true x = refl
cond_swap true false false x = refl
cond_swap false b d x = refl

-- laws of every plan
module _ (p : Plan) where
  -- a section's task uses its resource, and who uses q has a section on it
  pub uses_at : (s : ℕ) → s < p.sections → uses p (p.section s).task (p.section s).resource ≡ true
  unfolding uses
  uses_at s l =
      any_at p.sections s (section_on p (p.section s).task (p.section s).resource) l (rw (eq-eqb (p.section s).task _ refl, eq-eqb (p.section s).resource _ refl))

  pub uses_out : (i q : ℕ) (C : Type 0) → uses p i q ≡ true → ((s : ℕ) → s < p.sections → (p.section s).task ≡ i → (p.section s).resource ≡ q → C) → C
  unfolding uses
  uses_out i q C u h =
      any_out p.sections (section_on p i q) C u
      (λ s l t. let a = and_parts (eqb (p.section s).task i) _ t in h s l (eqb-true _ _ a.0) (eqb-true _ _ a.1))

  -- a processor uses what its tasks use
  pub used_at : (i q : ℕ) → i < p.tasks → uses p i q ≡ true → used_on p (processor_of p i) q ≡ true
  unfolding used_on
  used_at i q l u =
      any_at p.tasks i (user_on p (processor_of p i) q) l (rw (eq-eqb (processor_of p i) (processor_of p i) refl) u)

  pub used_out : (k q : ℕ) (C : Type 0) → used_on p k q ≡ true → ((i : ℕ) → i < p.tasks → processor_of p i ≡ k → uses p i q ≡ true → C) → C
  unfolding used_on
  used_out k q C u h =
      any_out p.tasks (user_on p k q) C u
      (λ i l t. let a = and_parts (eqb (processor_of p i) k) (uses p i q) t in h i l (eqb-true _ _ a.0) a.1)

  -- a hold time is at most its processor's budget
  pub hold_budget : (i q : ℕ) → i < p.tasks → uses p i q ≡ true → global p q ≡ true → hold_time p i q ≤ budget p (processor_of p i) q
  unfolding budget
  hold_budget i q l u g =
      rw g (max_where_at p.tasks i (user_on p (processor_of p i) q) (λ j. hold_time p j q) l (rw (eq-eqb (processor_of p i) (processor_of p i) refl) u))

  -- a budget is 0 where none uses q
  pub budget_unused : (k q : ℕ) → used_on p k q ≡ false → budget p k q ≡ 0
  unfolding budget used_on
  budget_unused k q off =
      omega (arith, cond_bound (global p q) _ 0 (λ g. max_where_bound p.tasks 0 (user_on p k q) (λ i. hold_time p i q) (λ i l t. absurd (true≢false (sym (any_at p.tasks i (user_on p k q) l t) ∙ off)))))

  -- a processor waits for the budget of each other
  pub wait_at_lem : (k l q : ℕ) → l < p.processors → (l ≡ k → ⊥) → budget p l q ≤ wait_time p k q
  unfolding wait_time
  wait_at_lem k l q h d =
      let s = rw (ne_eqb l k d) at (sum_at p.processors l (λ m. cond (eqb m k) 0 (budget p m q)) h) in omega (arith, s)

  -- what budgets, and sums over fellow tasks, are made of
  pub budget_holds : (k q : ℕ) → budget p k q ≡ max_below p.tasks (λ i. cond (eqb (processor_of p i) k) (hold_at p i q) 0)
  unfolding budget hold_at
  budget_holds k q = go (global p q)
    where
      go : (b : Bool) → cond b (max_below p.tasks (λ i. cond (user_on p k q i) (hold_time p i q) 0)) 0 ≡ max_below p.tasks (λ i. cond (eqb (processor_of p i) k) (cond (b && uses p i q) (hold_time p i q) 0) 0)
      go true = max_same p.tasks _ _ (λ i l. cond_both (eqb (processor_of p i) k) (uses p i q) (hold_time p i q))
      go false = omega (arith, max_where_bound p.tasks 0 (λ i. eqb (processor_of p i) k) (λ i. 0) (λ i l t. omega arith))

  pub fellow_holds_lem : (i q : ℕ) → global p q ≡ true → fellow_holds p i q ≡ sum_below p.tasks (λ j. cond (eqb (processor_of p j) (processor_of p i) && not (eqb j i)) (hold_at p j q) 0)
  unfolding fellow_holds hold_at
  fellow_holds_lem i q g =
      rw g (sum_same p.tasks _ _ (λ j l. cond_swap (eqb (processor_of p j) (processor_of p i)) (uses p j q) (not (eqb j i)) (hold_time p j q)))

  -- who uses q has a section on it, and the user of a global resource has a global section
  pub uses_count : (i q : ℕ) → uses p i q ≡ ltb 0 (count_on p i q)
  unfolding uses count_on
  uses_count i q = any_count p.sections (section_on p i q)

  unused_count : (i q : ℕ) → uses p i q ≡ false → count_on p i q ≡ 0
  unused_count i q off = omega (arith, ltb-false 0 (count_on p i q) (sym (uses_count i q) ∙ off))

  -- as often y as i has sections on q
  count_on_times : (i q y : ℕ) → count_on p i q * y ≡ sum_below p.sections (λ s. cond (section_on p i q s) y 0)
  unfolding count_on
  count_on_times i q y = count_times p.sections y (section_on p i q)

  pub uses_asks : (i q : ℕ) → uses p i q ≡ true → global p q ≡ true → asks p i ≡ true
  unfolding asks global_count
  uses_asks i q u g =
      uses_out i q _ u
      (λ s l t r. sym (any_count p.sections (global_by p i)) ∙ any_at p.sections s (global_by p i) l (rw (eq-eqb (p.section s).task i t, r) g))

  -- 11, 12, or whether the task with a tag shares the resource
  pub unknown_tag_lem : (tag q : ℕ) → p.tasks ≤ task_number p tag → 11 ≡ use_code p tag q
  unfolding use_code
  unknown_tag_lem tag q h = rw (le-ltb (task_number p tag) p.tasks h)

  pub unknown_resource_lem : (tag q : ℕ) → task_number p tag < p.tasks → p.resources ≤ q → 12 ≡ use_code p tag q
  unfolding use_code
  unknown_resource_lem tag q l h = rw (lt-ltb (task_number p tag) p.tasks l, le-ltb q p.resources h)

  pub use_asked : (tag q : ℕ) → task_number p tag < p.tasks → q < p.resources → use_code p tag q ≡ sharing_code p (task_number p tag) q
  unfolding use_code
  use_asked tag q l h = rw (lt-ltb (task_number p tag) p.tasks l, lt-ltb q p.resources h)

  pub use_told : (tag q : ℕ) {i code : ℕ} → i ≡ task_number p tag → i < p.tasks → q < p.resources → code ≡ sharing_code p i q → code ≡ use_code p tag q
  use_told tag q e l m s = s ∙ rw e (sym (use_asked tag q (rw e at l) m))

  -- task i uses q, and q is global
  pub record Sharing (i q : ℕ) : Type 0 where
    pub task : i < p.tasks
    pub resource : q < p.resources
    pub used : uses p i q ≡ true
    pub shared : global p q ≡ true

  -- a question of which 11 to 14 are not told is about one of whom this holds
  pub use_clear : (tag q : ℕ) → use_code p tag q ≡ 0 → Sharing (task_number p tag) q
  unfolding use_code sharing_code
  use_clear tag q e =
      let i : ℕ = task_number p tag in
      let known = code_next (ltb i p.tasks) _ _ e in
      let there = code_next (ltb q p.resources) _ _ known in
      record {
        task = ltb-true i p.tasks (code_zero (ltb i p.tasks) _ _ e);
        resource = ltb-true q p.resources (code_zero (ltb q p.resources) _ _ known);
        used = code_zero (uses p i q) _ _ there;
        shared = code_zero (global p q) _ _ (code_next (uses p i q) _ _ there);
      }

  -- the hold time of a user of a global resource, and so of a fellow
  pub hold_shared : (i q : ℕ) → global p q ≡ true → uses p i q ≡ true → hold_at p i q ≡ hold_time p i q
  unfolding hold_at
  hold_shared i q g u = rw (g, u)

  pub fellow_hold : (i q j : ℕ) → global p q ≡ true → cond (fellow p i q j) (hold_at p j q) 0 ≡ cond (fellow p i q j) (hold_time p j q) 0
  unfolding hold_at
  fellow_hold i q j g = go (eqb (processor_of p j) (processor_of p i)) (uses p j q) (not (eqb j i))
    where
      go : (a u c : Bool) → cond ((a && u) && c) (cond (global p q && u) (hold_time p j q) 0) 0 ≡ cond ((a && u) && c) (hold_time p j q) 0
      go true true c = rw g
      go true false c = refl
      go false u c = refl

  -- a hold time is at most the budget of its processor
  pub hold_within : (i q : ℕ) → i < p.tasks → hold_at p i q ≤ budget p (processor_of p i) q
  unfolding hold_at
  hold_within i q l = cond_bound (global p q && uses p i q) (hold_time p i q) _ (λ b. let a = and_parts (global p q) (uses p i q) b in hold_budget i q l a.1 a.0)

  -- somebody uses a global resource
  pub global_out : (q : ℕ) (C : Type 0) → global p q ≡ true → ((i : ℕ) → i < p.tasks → uses p i q ≡ true → C) → C
  unfolding global
  global_out q C g h =
      count_other p.processors 0 (λ k. used_on p k q) C (leb-true 2 _ g) (λ k l d u. used_out k q C u (λ i m e t. h i m t))

  -- a task asks where it has a global section
  pub asks_not : (i : ℕ) {n : ℕ} → n ≡ global_count p i → n ≡ 0 → asks p i ≡ false
  unfolding asks
  asks_not i e z = le-ltb 0 (global_count p i) (omega arith)

  pub asks_some : (i : ℕ) {n : ℕ} → n ≡ global_count p i → (n ≡ 0 → ⊥) → asks p i ≡ true
  unfolding asks
  asks_some i e d = lt-ltb 0 (global_count p i) (omega (arith, d))

-- laws of a valid one
module _ (p : Plan) (v : Valid p) where
  -- who uses q has a section on it, so a longest one
  pub uses_longest : (i q : ℕ) → uses p i q ≡ ltb 0 (longest_on p i q)
  unfolding uses longest_on
  uses_longest i q = any_max p.sections (section_on p i q) (λ s. (p.section s).length) (λ s l. (v.section_fits s l).low)

  -- a section is at most 1000 long, and so is the longest of any
  some_high : (f : ℕ → Bool) → max_below p.sections (λ s. cond (f s) (p.section s).length 0) ≤ 1000
  some_high f = max_where_bound p.sections 1000 f (λ s. (p.section s).length) (λ s l t. (v.section_fits s l).high)

  pub longest_high : (i q : ℕ) → longest_on p i q ≤ 1000
  unfolding longest_on
  longest_high i q = some_high (section_on p i q)

  pub off_high : (j q : ℕ) → longest_off p j q ≤ 1000
  unfolding longest_off
  off_high j q = some_high (λ s. global_by p j s && not (eqb (p.section s).resource q))

  pub global_high : (j : ℕ) → longest_global p j ≤ 1000
  unfolding longest_global
  global_high j = some_high (global_by p j)

  pub local_high : (i : ℕ) → longest_local p i ≤ 1000
  unfolding longest_local
  local_high i = some_high (blocks p i)

  -- a user holds q for at least a tick
  pub hold_low : (i q : ℕ) → uses p i q ≡ true → 1 ≤ hold_time p i q
  unfolding hold_time
  hold_low i q u = omega (arith, ltb-true 0 (longest_on p i q) (sym (uses_longest i q) ∙ u))

  -- 13 for a task with no longest section on q, else 14 where it has no hold time of q, else neither: who uses a global resource
  -- holds it for a tick at least
  pub not_used : (i q : ℕ) → longest_on p i q ≡ 0 → 13 ≡ sharing_code p i q
  unfolding sharing_code
  not_used i q z = rw (uses_longest i q, z)

  pub not_shared : (i q : ℕ) → (longest_on p i q ≡ 0 → ⊥) → hold_at p i q ≡ 0 → 14 ≡ sharing_code p i q
  unfolding hold_at sharing_code
  not_shared i q d z =
      let used : uses p i q ≡ true = uses_longest i q ∙ lt-ltb 0 (longest_on p i q) (omega (arith, d)) in
      let zero : global p q ≡ true → hold_time p i q ≡ 0 = λ g. rw (g, used) at z in
      let local : global p q ≡ false = is_not_true (global p q) (λ g. omega (arith, zero g, hold_low i q used)) in
      rw (used, local)

  pub shared_use : (i q : ℕ) → (hold_at p i q ≡ 0 → ⊥) → (sharing_code p i q ≡ 0) × (hold_at p i q ≡ hold_time p i q)
  unfolding hold_at sharing_code
  shared_use i q = go (global p q) (uses p i q)
    where
      go : (g u : Bool) → (cond (g && u) (hold_time p i q) 0 ≡ 0 → ⊥) → (◌≡◌ {A = ℕ} (cond u (cond g 0 14) 13) 0) × (cond (g && u) (hold_time p i q) 0 ≡ hold_time p i q)
      go true true d = (refl, refl)
      go true false d = absurd (d refl)
      go false u d = absurd (d refl)

  -- a task holds for no time at all exactly where it has no section on q, or q is local
  pub hold_zero : (i q : ℕ) → eqb (hold_at p i q) 0 ≡ not (global p q && uses p i q)
  unfolding hold_at
  hold_zero i q = go (global p q) (uses p i q) refl
    where
      go : (g u : Bool) → uses p i q ≡ u → eqb (cond (g && u) (hold_time p i q) 0) 0 ≡ not (g && u)
      go true true e = ne_eqb (hold_time p i q) 0 (λ z. omega (arith, hold_low i q e))
      go true false e = refl
      go false u e = refl

  -- a resource is global exactly where some task has a hold time of it
  pub global_not : (q : ℕ) → ((i : ℕ) → i < p.tasks → hold_at p i q ≡ 0) → global p q ≡ false
  global_not q none =
      is_not_true (global p q) (λ g. global_out p q ⊥ g (λ i l u. omega (arith, hold_low i q u, hold_shared p i q g u, none i l)))

  pub global_at : (i q : ℕ) → (hold_at p i q ≡ 0 → ⊥) → global p q ≡ true
  global_at i q d = (and_parts (global p q) (uses p i q) (not-false _ (sym (hold_zero i q) ∙ ne_eqb (hold_at p i q) 0 d))).0

  pub interference_high : (i q : ℕ) → interference p i q ≤ most_interference
  unfolding interference
  interference_high i q =
      omega (arith, v.tasks, sum_where_bound p.tasks 1000 (higher p i) (λ j. longest_off p j q) (λ j l t. off_high j q))

  pub hold_high : (i q : ℕ) → hold_time p i q ≤ most_hold
  unfolding hold_time
  hold_high i q = omega (arith, longest_high i q, interference_high i q)

  pub budget_low : (k q : ℕ) → used_on p k q ≡ true → global p q ≡ true → 1 ≤ budget p k q
  budget_low k q u g =
      used_out p k q (1 ≤ budget p k q) u (λ i l e t. rw (← e) (omega (arith, hold_low i q t, hold_budget p i q l t g)))

  pub budget_high : (k q : ℕ) → budget p k q ≤ most_budget
  unfolding budget
  budget_high k q =
      cond_bound (global p q) _ most_budget (λ g. max_where_bound p.tasks most_budget (user_on p k q) (λ i. hold_time p i q) (λ i l t. omega (arith, hold_high i q)))

  -- a processor waits at least a tick for a global resource
  pub wait_low : (k q : ℕ) → global p q ≡ true → 1 ≤ wait_time p k q
  unfolding global
  wait_low k q g =
      count_other p.processors k (λ l. used_on p l q) (1 ≤ wait_time p k q) (leb-true 2 _ g)
      (λ l h d u. omega (arith, budget_low l q u g, wait_at_lem p k l q h d))

  pub wait_high : (k q : ℕ) → wait_time p k q ≤ most_wait
  unfolding wait_time
  wait_high k q =
      omega (arith, v.processors, sum_bound p.processors most_budget (λ l. cond (eqb l k) 0 (budget p l q)) (λ l h. other (eqb l k) (budget p l q) (budget_high l q)))
    where
      other : (b : Bool) (x : ℕ) → x ≤ most_budget → cond b 0 x ≤ most_budget
      other true x h = omega arith
      other false x h = h

  -- the sum s of a hold times and a + 1 wait times: a limit has 32 bits
  pub limit_high : (s a k q : ℕ) → a ≤ 64 → s ≤ a * most_hold → s + (a + 1) * wait_time p k q < 4294967296
  limit_high s a k q h l =
      let w : (a + 1) * wait_time p k q ≤ 65 * most_wait = mul-le-mul {n₁ = a + 1} {n₂ = 65} (omega arith) (wait_high k q) in omega (arith, w)

  -- who uses what, told by the sections alone
  pub used_section : (k q : ℕ) → used_on p k q ≡ any_below p.sections (λ s. eqb (processor_of p (p.section s).task) k && eqb (p.section s).resource q)
  used_section k q =
      same_test (used_on p k q) (any_below p.sections by)
      (λ e. used_out p k q _ e (λ i l h u. uses_out p i q _ u (λ s m t r. any_at p.sections s by m (rw (t, eq-eqb _ k h) (eq-eqb _ q r)))))
      (λ e. any_out p.sections by _ e (λ s l t. there s l (and_parts _ _ t)))
    where
      by : ℕ → Bool
      by s = eqb (processor_of p (p.section s).task) k && eqb (p.section s).resource q

      there : (s : ℕ) → s < p.sections → (eqb (processor_of p (p.section s).task) k ≡ true) × (eqb (p.section s).resource q ≡ true) → used_on p k q ≡ true
      there s l a =
          rw (← eqb-true (processor_of p (p.section s).task) k a.0, ← eqb-true (p.section s).resource q a.1) (used_at p (p.section s).task (p.section s).resource (v.section_fits s l).task (uses_at p s l))

  -- a resource past the last is used by none, and is local
  pub past_uses : (i q : ℕ) → p.resources ≤ q → uses p i q ≡ false
  past_uses i q h =
      is_not_true (uses p i q) (λ u. uses_out p i q ⊥ u (λ s l t r. omega (arith, (v.section_fits s l).resource)))

  pub past_global : (q : ℕ) → p.resources ≤ q → global p q ≡ false
  past_global q h = is_not_true (global p q) (λ g. global_out p q ⊥ g (λ i l u. true≢false (sym u ∙ past_uses i q h)))

  -- counts, blocking and the waiting side
  pub count_on_high : (i q : ℕ) → count_on p i q ≤ 255
  unfolding count_on
  count_on_high i q = omega (arith, v.sections, count_bound p.sections (section_on p i q))

  pub count_high : (i : ℕ) → global_count p i ≤ 255
  unfolding global_count
  count_high i = omega (arith, v.sections, count_bound p.sections (global_by p i))

  pub blocking1_high : (i : ℕ) → blocking1 p i ≤ most_blocking1
  unfolding blocking1
  blocking1_high i = let c : global_count p i + 1 ≤ 256 = omega (arith, count_high i) in mul-le-mul c (local_high i)

  pub blocking2_high : (i : ℕ) → blocking2 p i ≤ most_blocking2
  unfolding blocking2
  blocking2_high i =
      omega (arith, v.tasks, sum_where_bound p.tasks most_blocking1 (lower p i) (λ j. min (global_count p i + 1) (global_count p j) * longest_global p j) (λ j l t. one j))
    where
      one : (j : ℕ) → min (global_count p i + 1) (global_count p j) * longest_global p j ≤ most_blocking1
      one j =
          let c : min (global_count p i + 1) (global_count p j) ≤ 256 = omega (arith, count_high i) in
          mul-le-mul c (global_high j)

  pub fellow_high : (i q : ℕ) → fellow_holds p i q ≤ most_fellow_holds
  unfolding fellow_holds
  fellow_high i q =
      omega (arith, v.tasks, sum_where_bound p.tasks most_hold (λ j. user_on p (processor_of p i) q j && not (eqb j i)) (λ j. hold_time p j q) (λ j l t. hold_high j q))

  -- the wait of one section
  pub section_wait_high : (i q : ℕ) → section_wait p i q ≤ most_section_wait
  unfolding section_wait
  section_wait_high i q =
      let b : ℕ = budget p (processor_of p i) q in
      let c : ceil_div (2 * fellow_holds p i q) b + 1 ≤ most_turns + 1 = omega (arith, fellow_high i q, ceil_bound (2 * fellow_holds p i q) b) in
      let w = mul-le-mul c (wait_high (processor_of p i) q) in
      omega (arith, w, fellow_high i q)

  -- a section on a global resource waits at least a tick: there is another core on it
  pub section_wait_low : (i q : ℕ) → global p q ≡ true → 1 ≤ section_wait p i q
  unfolding section_wait
  section_wait_low i q g =
      let c : ℕ = ceil_div (2 * fellow_holds p i q) (budget p (processor_of p i) q) in
      let one : 1 * 1 ≤ (c + 1) * wait_time p (processor_of p i) q = mul-le-mul {n₁ = 1} {n₂ = c + 1} (omega arith) (wait_low (processor_of p i) q g) in
      omega (arith, one)

  -- the waiting side told by the sections: for each global section of i, its wait
  pub side_sections : (i : ℕ) → waiting_side p i ≡ sum_below p.sections (λ s. cond (global_by p i s) (section_wait p i (p.section s).resource) 0)
  unfolding waiting_side waiting_on
  side_sections i =
      sum_same p.resources _ _ (λ q l. by_resource q (global p q) refl)
      ∙ sum_swap p.resources p.sections term
      ∙ sum_same p.sections _ _ (λ s l. picked (global_by p i s) (p.section s).resource (v.section_fits s l).resource)
    where
      -- section s by resource q
      term : ℕ → ℕ → ℕ
      term q s = cond (global_by p i s) (cond (eqb (p.section s).resource q) (section_wait p i q) 0) 0

      shared_term : (q s : ℕ) → global p q ≡ true → cond (section_on p i q s) (section_wait p i q) 0 ≡ term q s
      shared_term q s g =
          by_eq (λ (b : Bool). cond (section_by p i s && b) (section_wait p i q) 0 ≡ cond (global_by p i s) (cond b (section_wait p i q) 0) 0)
          (p.section s).resource q
          (λ e. rw (e, g))
          (λ d. both (section_by p i s) (global_by p i s))
        where
          both : (a b : Bool) → cond (a && false) (section_wait p i q) 0 ≡ cond b 0 0
          both true true = refl
          both true false = refl
          both false true = refl
          both false false = refl

      local_term : (q s : ℕ) → global p q ≡ false → term q s ≡ 0
      local_term q s g =
          by_eq (λ (b : Bool). cond (global_by p i s) (cond b (section_wait p i q) 0) 0 ≡ 0) (p.section s).resource q
          (λ e. rw (e, g, and-false))
          (λ d. none (global_by p i s))
        where
          none : (a : Bool) → ◌≡◌ {A = ℕ} (cond a 0 0) 0
          none true = refl
          none false = refl

      -- the sections on a global q, counted: none of them where i does not use it
      used : (q : ℕ) (u : Bool) → uses p i q ≡ u → cond u (count_on p i q * section_wait p i q) 0 ≡ count_on p i q * section_wait p i q
      used q true e = refl
      used q false e = rw (unused_count p i q e) (omega arith)

      by_resource : (q : ℕ) (g : Bool) → global p q ≡ g
          → cond (g && uses p i q) (count_on p i q * section_wait p i q) 0 ≡ sum_below p.sections (term q)
      by_resource q true e =
          used q (uses p i q) refl ∙ count_on_times p i q (section_wait p i q) ∙ sum_same p.sections _ _ (λ s l. shared_term q s e)
      by_resource q false e = sym (sum_none p.sections (term q) (λ s l. local_term q s e))

      picked : (b : Bool) (x : ℕ) → x < p.resources
          → sum_below p.resources (λ q. cond b (cond (eqb x q) (section_wait p i q) 0) 0) ≡ cond b (section_wait p i x) 0
      picked true x l = sum_pick p.resources x (section_wait p i) l
      picked false x l = sum_none p.resources (λ q. 0) (λ q lq. refl)

  pub side_high : (i : ℕ) → waiting_side p i ≤ most_side
  side_high i =
      rw (side_sections i)
      (let wait : ℕ → ℕ = λ s. section_wait p i (p.section s).resource in
      let all = sum_where_bound p.sections most_section_wait (global_by p i) wait (λ s l t. section_wait_high i _) in
      omega (arith, v.sections, all))

  -- whoever has a requirement has a side of at least 1
  pub side_low : (i : ℕ) → asks p i ≡ true → 1 ≤ waiting_side p i
  unfolding asks global_count
  side_low i a =
      any_out p.sections (global_by p i) (1 ≤ waiting_side p i) (any_count p.sections (global_by p i) ∙ a)
      (λ s l t. let w : ℕ = section_wait p i (p.section s).resource in
      let term : sum_below s f + cond (global_by p i s) w 0 ≤ sum_below p.sections f = sum_at p.sections s f l in
      let low : 1 ≤ w = section_wait_low i (p.section s).resource (and_parts (section_by p i s) _ t).1 in
      let own : cond (global_by p i s) w 0 ≡ w = rw t in
      omega (arith, side_sections i, term, own, low))
    where
      f : ℕ → ℕ
      f s = cond (global_by p i s) (section_wait p i (p.section s).resource) 0

  -- the ceiling told by the sections alone: for each section on q, its task's priority
  pub ceiling_section : (q : ℕ) → ceiling p q ≡ max_below p.sections (λ s. cond (eqb (p.section s).resource q) (priority_of p (p.section s).task) 0)
  unfolding ceiling
  ceiling_section q =
      le_antisymm
      (max_where_bound p.tasks _ (λ i. uses p i q) (priority_of p) (λ i l u. uses_out p i q _ u
      (λ s m t r. rw t at (max_where_at p.sections s (λ j. eqb (p.section j).resource q) (λ j. priority_of p (p.section j).task) m (eq-eqb _ q r)))))
      (max_where_bound p.sections _ (λ s. eqb (p.section s).resource q) (λ s. priority_of p (p.section s).task)
      (λ s l t. max_where_at p.tasks (p.section s).task (λ i. uses p i q) (priority_of p) (v.section_fits s l).task (rw (← eqb-true (p.section s).resource q t) (uses_at p s l))))

  -- tolerance and slack
  pub demand_high : (i t : ℕ) → t < 65536 → demand p i t ≤ most_demand
  unfolding demand
  demand_high i t h =
      omega (arith, v.tasks, sum_where_bound p.tasks most_demand_of_one (higher p i) (λ j. ceil_div t (p.task j).period * (p.task j).execution) (λ j l e. one j (v.every_task_fits j l)))
    where
      one : (j : ℕ) → TaskFits p.processors (p.task j) → ceil_div t (p.task j).period * (p.task j).execution ≤ most_demand_of_one
      one j f =
          let c : ceil_div t (p.task j).period ≤ most_period = omega (arith, ceil_bound t (p.task j).period) in
          let x : (p.task j).execution ≤ most_period = omega (arith, f.within, f.period) in
          mul-le-mul c x

  pub left_mag : (i t : ℕ) → i < p.tasks → t < 65536 → mag (left p i t) < 1099511627776
  unfolding left
  left_mag i t l h =
      let f = v.every_task_fits i l in
      sub_mag t ((p.task i).execution + demand p i t) 1099511627776 (omega arith) (omega (arith, f.within, f.period, demand_high i t h))

  pub tolerance_mag : (i : ℕ) → i < p.tasks → mag (tolerance p i) < 1099511627776
  unfolding tolerance
  tolerance_mag i l =
      let f = v.every_task_fits i l in
      greatest_mag ((p.task i).period - 1) 1099511627776 (λ t. left p i (t + 1)) (λ t m. left_mag i (t + 1) l (omega (arith, f.period)))

  pub slack_mag : (i : ℕ) → i < p.tasks → mag (slack p i) < 2199023255552
  unfolding slack
  slack_mag i l =
      less_mag (tolerance p i) (blocking1 p i + blocking2 p i) 1099511627776 1099511627776 (tolerance_mag i l) (omega (arith, blocking1_high i, blocking2_high i))
