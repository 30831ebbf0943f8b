-- What the walk through a processor's tasks makes of the rows: hold times, and the sums and maxima beside them.
use Rattle.analysis_hold_times.proofs.Ground.{ℕ, ◌+◌, ◌*◌, ◌-◌, ◌<◌, ◌≤◌, max, Bool, cond, ◌≡◌, refl, sym, ap, ◌∙◌, List, eqb}
use Rattle.analysis_hold_times.proofs.Ground.{length, get_or, replicate, arith, Plan, Valid, plan_of, valid_plan, longest_off}
use Rattle.analysis_hold_times.proofs.Ground.{hold_at, budget, figure_count, cell, Held, RowSet, ResourceRow, Walk, shared_on}
use Rattle.std.proofs.lemmas.Grind.{common_steps}
use Rattle.std.proofs.lemmas.Bool.Decides.{nat_tests}
use Rattle.folds.proofs.Figures.{sum_same}
use Rattle.analysis_equations.proofs.Laws.{uses_longest, budget_holds, off_high}
use Rattle.analysis_equations.specs.HoldTimes.{interference, hold_time}
use Rattle.analysis_sections.specs.Inner.{Sits, AllAbove, part}
use Rattle.analysis_sections.proofs.Rows.{row_same}
use Rattle.analysis_sections.proofs.Walks.{passed, passed_none, passed_own, passed_new, passed_above, passed_other, passed_all}
use Rattle.analysis_sections.proofs.Walks.{next_sits, the_greatest, the_sum, FoldBelow, fold_none, fold_step, fold_done, sums_high}
use Rattle.analysis_hold_times.specs.Inner.{Flagged, AddableAbove}
use Rattle.analysis_hold_times.proofs.Others.{shared_high, top_high, top_own, top_off}

module _ (p : Plan) (k : ℕ) (old : List ℕ) where
  -- the rows once the tasks with fewer than x above them are passed
  pub record HeldBelow (x : ℕ) (rows above most : List ℕ) : Type 0 where
    pub long : length rows ≡ figure_count
    pub added : FoldBelow the_sum p (longest_off p) k x above
    pub greatest : FoldBelow the_greatest p (hold_at p) k x most
    pub at : (j q : ℕ) → j < p.tasks → q < 16 → get_or rows (cell j q) 0 ≡ cond (passed p k x j) (hold_at p j q) (get_or old (cell j q) 0)
    pub rest : (j q : ℕ) → p.tasks ≤ j → q < 16 → get_or rows (cell j q) 0 ≡ get_or old (cell j q) 0

  pub held_none : length old ≡ figure_count → HeldBelow 0 old (replicate 16 0) (replicate 16 0)
  held_none e =
      record {
        long = e;
        added = fold_none the_sum p (longest_off p) k;
        greatest = fold_none the_greatest p (hold_at p) k;
        at = λ j q lj lq. rw (passed_none p k j);
        rest = λ j q lj lq. refl;
      }

  pub most_done : {x : ℕ} {rows above most : List ℕ} → HeldBelow x rows above most → AllAbove p k x → ResourceRow (budget p k) most
  most_done h all = row_same _ _ (fold_done the_greatest p (hold_at p) k all h.greatest) (λ q l. sym (budget_holds p k q))

  pub held_done : {x : ℕ} {rows above most : List ℕ} → HeldBelow x rows above most → AllAbove p k x → Held p k old rows
  held_done h all = let e = passed_all p k all in grind (arith)

-- where a task is next
module _ {f old order tops flags : List ℕ} {k : ℕ} (w : Walk f old order tops flags k) {x sits : ℕ} {rows above most : List ℕ}
    (h : HeldBelow (plan_of f) k old x rows above most) (l : x < (plan_of f).tasks) (told : sits ≡ get_or order (part k x) 0) (some : sits ≡ 0 → ⊥) where
  abbrev p : Plan
  p = plan_of f

  abbrev i : ℕ
  i = sits - 1

  v : Valid p
  v = valid_plan f w.plan

  s : Sits p k x i
  s = next_sits k x w.plan w.tasks w.processor l told some

  pub low : i < 64
  low = let n = s in omega (arith, v.tasks)

  -- its sections on global resources
  own_is : (q : ℕ) → q < 16 → get_or rows (cell i q) 0 * get_or flags q 0 ≡ shared_on p i q
  own_is q lq = let n = s in let e = passed_new s in grind (arith, common_steps)

  pub own_fits : Flagged rows flags i
  own_fits = record { long = h.long; task = low; low = λ q lq. rw (own_is q lq) (shared_high p v i q) }

  module _ {own : List ℕ} (r : ResourceRow (λ q. get_or rows (cell i q) 0 * get_or flags q 0) own) where
    pub held_fits : (q : ℕ) → q < 16 → (get_or own q 0 ≤ 1000) × (get_or above q 0 ≤ 64000)
    held_fits q lq =
        let a = sums_high p (longest_off p) k v x (off_high p v) h.added q lq in
        let e = own_is q lq in
        let b = shared_high p v i q in
        grind (arith)

    pub above_fits : AddableAbove above own (get_or tops i 0)
    above_fits =
        record {
          short = top_high p v tops i w.longest low;
          low = λ q lq. (held_fits q lq).1;
          within = λ q lq. let e = own_is q lq in let b = top_own p v tops i w.longest low q in grind (arith);
        }

    -- what those passed add is its interference
    above_own : (q : ℕ) → q < 16 → get_or above q 0 ≡ interference p i q
    unfolding interference
    above_own q lq =
        h.added.at q lq ∙ sum_same p.tasks _ _ (λ j lj. ap (λ (b : Bool). cond b (longest_off p j q) 0) (passed_above s j lj))

    -- and so its hold times
    held_at : (q : ℕ) → q < 16 → cond (eqb (get_or own q 0) 0) 0 (get_or own q 0 + get_or above q 0) ≡ hold_at p i q
    unfolding hold_at hold_time
    held_at q lq =
        let a = above_own q lq in
        let e = own_is q lq in
        let u = uses_longest p v i q in
        grind (arith, nat_tests)

    pub held_step : {held put next-above next-most : List ℕ}
        → ResourceRow (λ q. cond (eqb (get_or own q 0) 0) 0 (get_or own q 0 + get_or above q 0)) held
        → RowSet held i rows put
        → ResourceRow (λ q. get_or above q 0 + get_or tops i 0 - (get_or own q 0 - get_or tops (64 + i) 0)) next-above
        → ResourceRow (λ q. max (get_or most q 0) (get_or put (cell i q) 0)) next-most
        → HeldBelow p k old (x + 1) put next-above next-most
    held_step {put = put} d b a m =
        record {
          long = b.long ∙ h.long;
          added = fold_step the_sum p (longest_off p) k v s h.added
              (λ q l. let e = own_is q l in let o = top_own p v tops i w.longest low q in let t = top_off p v tops i w.longest low q in grind (arith)) a;
          greatest = fold_step the_greatest p (hold_at p) k v s h.greatest (λ q l. let e = held_at q l in grind (arith, nat_tests)) m;
          at = λ j q lj lq. let n = s in let o = passed_own s in let e = held_at q lq in let t = passed_other s v j lj in grind (arith, nat_tests);
          rest = λ j q lj lq. let n = s in grind (arith, nat_tests);
        }
