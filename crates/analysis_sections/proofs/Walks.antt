-- A walk through a processor's tasks from the highest down: which are passed, and what the rows hold that it makes.
use Rattle.analysis_sections.proofs.Ground.{ℕ, ◌+◌, ◌-◌, ◌<◌, ◌≤◌, max, Bool, true, false, cond, ◌&&◌, ◌≡◌, refl, sym, ap, ◌∙◌, List}
use Rattle.analysis_sections.proofs.Ground.{eqb, ltb, length, get_or, replicate, arith, lt-ltb, le-ltb, eq-eqb, max_below, sum_below}
use Rattle.analysis_sections.proofs.Ground.{max_same, by_eq, Plan, Valid, plan_of, Checked, valid_plan, processor_of, priority_of}
use Rattle.analysis_sections.proofs.Ground.{higher, part, ResourceRow, rank_of, Sits, AllAbove, Orders}
use Rattle.folds.proofs.Ground.{and-false}
use Rattle.folds.proofs.Figures.{max_bound, sum_same}
use Rattle.folds.proofs.Ranges.{max_insert, sum_none, sum_where_bound, sum_insert}
use Rattle.analysis_sections.proofs.Rows.{ltb_more, row_zeros, row_same}
use Rattle.analysis_sections.proofs.Ranks.{rank_order, rank_tasks, rank_distinct}

-- what stands at x in the order of processor k, for x below the number of tasks
module _ {f o : List ℕ} (k x : ℕ) (plan : Checked f) (h : Orders (plan_of f) o) (lk : k < 8) where
  pub order_there : x < (plan_of f).tasks → part k x < length o
  order_there l = omega (arith, (valid_plan f plan).tasks, h.long)

  module _ {w : ℕ} (l : x < (plan_of f).tasks) (e : w ≡ get_or o (part k x) 0) where
    pub next_sits : (w ≡ 0 → ⊥) → Sits (plan_of f) k x (w - 1)
    next_sits d = rw e (h.task k x lk (omega (arith, (valid_plan f plan).tasks)) (omega (arith, d)))

    pub last_sits : w ≡ 0 → AllAbove (plan_of f) k x
    last_sits z = h.last k x lk (omega (arith, (valid_plan f plan).tasks)) (sym e ∙ z)

-- no task has as many above it as there are tasks
pub all_above : (p : Plan) (k x : ℕ) → p.tasks ≤ x → AllAbove p k x
all_above p k x ge i l own = omega (arith, rank_tasks p i l)

module _ (p : Plan) (k : ℕ) where
  -- the tasks of processor k with fewer than x above them
  abbrev pub passed : ℕ → ℕ → Bool
  passed x j = eqb (processor_of p j) k && ltb (rank_of p j) x

  pub passed_none : (j : ℕ) → passed 0 j ≡ false
  passed_none j = rw (le-ltb (rank_of p j) 0 (omega arith)) (and-false (eqb (processor_of p j) k))

  -- once all are passed
  pub passed_all : {x : ℕ} → AllAbove p k x → (j : ℕ) → j < p.tasks → passed x j ≡ eqb (processor_of p j) k
  passed_all {x} h j l =
      by_eq (λ (b : Bool). (b && ltb (rank_of p j) x) ≡ b) (processor_of p j) k (λ e. lt-ltb (rank_of p j) x (h j l e)) (λ d. refl)

-- the next task
module _ {p : Plan} {k x i : ℕ} (s : Sits p k x i) where
  pub passed_own : passed p k (x + 1) i ≡ true
  passed_own = rw (eq-eqb (processor_of p i) k s.own) (lt-ltb (rank_of p i) (x + 1) (omega (arith, s.rank)))

  pub passed_new : passed p k x i ≡ false
  passed_new = rw (le-ltb (rank_of p i) x (omega (arith, s.rank))) (and-false (eqb (processor_of p i) k))

  -- those passed are those above it
  pub passed_above : (j : ℕ) → j < p.tasks → passed p k x j ≡ higher p i j
  passed_above j l =
      rw (← s.own, ← s.rank)
      (by_eq (λ (b : Bool). (b && ltb (rank_of p j) (rank_of p i)) ≡ (b && ltb (priority_of p i) (priority_of p j))) (processor_of p j) (processor_of p i)
      (λ e. rank_order p i j s.below l e)
      (λ d. refl))

  pub passed_other : Valid p → (j : ℕ) → j < p.tasks → (j ≡ i → ⊥) → passed p k (x + 1) j ≡ passed p k x j
  passed_other v j l d =
      by_eq (λ (b : Bool). (b && ltb (rank_of p j) (x + 1)) ≡ (b && ltb (rank_of p j) x)) (processor_of p j) k
      (λ e.
      let new : rank_of p j ≡ x → ⊥ = λ r. d (rank_distinct p v j i l s.below (e ∙ sym s.own) (r ∙ sym s.rank)) in
      ltb_more (rank_of p j) x new)
      (λ d. refl)

-- ── a figure over the tasks passed ──

-- its greatest, or its sum
pub record Fold (total : ℕ → (ℕ → ℕ) → ℕ) (join : ℕ → ℕ → ℕ) : Type 0 where
  pub none : (n : ℕ) (g : ℕ → ℕ) → ((j : ℕ) → j < n → g j ≡ 0) → total n g ≡ 0
  pub same : (n : ℕ) (g h : ℕ → ℕ) → ((j : ℕ) → j < n → g j ≡ h j) → total n g ≡ total n h
  pub insert : (n i : ℕ) (a b : ℕ → Bool) (g : ℕ → ℕ) → i < n → a i ≡ true → b i ≡ false → ((j : ℕ) → j < n → (j ≡ i → ⊥) → a j ≡ b j)
      → total n (λ j. cond (a j) (g j) 0) ≡ join (total n (λ j. cond (b j) (g j) 0)) (g i)

pub the_greatest : Fold max_below max
the_greatest =
    record {
      none = λ n g h. omega (arith, max_bound n 0 g (λ j l. omega (arith, h j l)));
      same = max_same;
      insert = λ n i a b g l t f h. max_insert n i a b g l t h f;
    }

pub the_sum : Fold sum_below ◌+◌
the_sum = record { none = sum_none; same = sum_same; insert = sum_insert }

module _ {total : ℕ → (ℕ → ℕ) → ℕ} {join : ℕ → ℕ → ℕ} (t : Fold total join) (p : Plan) (f : ℕ → ℕ → ℕ) (k : ℕ) where
  -- a row of it
  abbrev pub FoldBelow : ℕ → List ℕ → Type 0
  FoldBelow x = ResourceRow (λ q. total p.tasks (λ j. cond (passed p k x j) (f j q) 0))

  pub fold_none : FoldBelow 0 (replicate 16 0)
  fold_none = row_zeros _ (λ q l. t.none p.tasks _ (λ j lj. rw (passed_none p k j)))

  pub fold_step : Valid p → {x i : ℕ} {row next : List ℕ} {g : ℕ → ℕ} → Sits p k x i → FoldBelow x row
      → ((q : ℕ) → q < 16 → g q ≡ join (get_or row q 0) (f i q))
      → ResourceRow g next
      → FoldBelow (x + 1) next
  fold_step v {x} {i} s m e r =
      row_same _ _ r
      (λ q l.
      e q l
      ∙ ap (λ (y : ℕ). join y (f i q)) (m.at q l)
      ∙ sym (t.insert p.tasks i (passed p k (x + 1)) (passed p k x) (λ j. f j q) s.below (passed_own s) (passed_new s) (passed_other s v)))

  pub fold_done : {x : ℕ} {row : List ℕ} → AllAbove p k x → FoldBelow x row
      → ResourceRow (λ q. total p.tasks (λ j. cond (eqb (processor_of p j) k) (f j q) 0)) row
  fold_done h m =
      row_same _ _ m (λ q l. t.same p.tasks _ _ (λ j lj. ap (λ (b : Bool). cond b (f j q) 0) (passed_all p k h j lj)))

pub sums_high : (p : Plan) (f : ℕ → ℕ → ℕ) (k : ℕ) → Valid p → (x : ℕ) {row : List ℕ} → ((j q : ℕ) → f j q ≤ 1000) → FoldBelow the_sum p f k x row
    → (q : ℕ) → q < 16 → get_or row q 0 ≤ 64000
sums_high p f k v x h m q l =
    omega (arith, m.at q l, v.tasks, sum_where_bound p.tasks 1000 (passed p k x) (λ j. f j q) (λ j lj t. h j q))

-- what `used_row` cites at most of its goals
pub ruleset walk_laws = (valid_plan, the_sum, fold_none, fold_done, order_there, last_sits)
