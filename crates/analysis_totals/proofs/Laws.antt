-- What the totals tell: of the users of a resource on a processor, and of the user of a global resource and its fellows.
use Rattle.std.proofs.Common.{ℕ, zero, suc, ◌+◌, ◌<◌, ◌≡◌, Bool, true, false, ◌&&◌, not, eqb, ltb, List, get_or, refl, sym, ap, ◌∙◌, arith}
use mathlib.Core.Bool.{and-true, and-false, not-not, true≢false}
use Rattle.folds.specs.Below.{any_below, count_below}
use Rattle.folds.proofs.Ground.{eq-eqb, ne_eqb, lt-ltb}
use Rattle.folds.proofs.Tests.{any_same, any_none}
use Rattle.folds.proofs.Figures.{count_set}
use Rattle.folds.proofs.Ranges.{any_count, sum_insert}
use Rattle.folds.proofs.Searches.{on_le}
use Rattle.sizes.specs.Sizes.{most_processors, most_resources}
use Rattle.plan_reading.specs.Plan.{plan_of, Plan, Valid}
use Rattle.plan_reading.proofs.Laws.{valid_plan}
use Rattle.analysis_equations.specs.Sharing.{processor_of, uses, used_on, global}
use Rattle.analysis_equations.specs.HoldTimes.{hold_at, wait_time, fellow}
use Rattle.analysis_equations.specs.Blocking.{fellow_holds}
use Rattle.analysis_equations.proofs.Laws.{hold_zero, past_global, fellow_holds_lem}
use Rattle.analysis_totals.specs.Totals.{users_below, holds_below, share_count, users_cell, sum_cell, wait_cell, Totals, SharingTask}
use Rattle.analysis_figures.proofs.Cells.{told}

module _ (p : Plan) (v : Valid p) where
  -- i is a task of processor k with a hold time of q
  abbrev holder : ℕ → ℕ → ℕ → Bool
  holder k q i = eqb (processor_of p i) k && not (eqb (hold_at p i q) 0)

  -- who uses a global resource is who holds it for some time
  holder_uses : (k q : ℕ) → global p q ≡ true → (j : ℕ) → holder k q j ≡ (eqb (processor_of p j) k && uses p j q)
  holder_uses k q g j = rw (hold_zero p v j q, g, not-not)

  used_held : (k q : ℕ) → (global p q && used_on p k q) ≡ any_below p.tasks (holder k q)
  unfolding used_on
  used_held k q = go (global p q) refl
    where
      go : (g : Bool) → global p q ≡ g → (g && any_below p.tasks (λ i. eqb (processor_of p i) k && uses p i q)) ≡ any_below p.tasks (holder k q)
      go true e = sym (any_same p.tasks _ _ (λ i l. holder_uses k q e i))
      go false e = sym (any_none p.tasks _ (λ i l. rw (hold_zero p v i q, e, and-false)))

  -- a processor has users of q exactly where q is global and it uses q
  pub users_told : {t : List ℕ} {k q : ℕ} → Totals p t → k < most_processors → q < most_resources
      → eqb (get_or t (users_cell k q) 0) 0 ≡ not (global p q && used_on p k q)
  unfolding users_below
  users_told {t} {k} {q} h lk lq =
      ap (λ (n : ℕ). eqb n 0) (h.sums.users k q lk lq) ∙ none (count_below p.tasks (holder k q))
      ∙ ap not (sym (used_held k q ∙ any_count p.tasks (holder k q)))
    where
      none : (n : ℕ) → eqb n 0 ≡ not (ltb 0 n)
      none zero = refl
      none (suc n) = ne_eqb (suc n) 0 (λ e. omega arith) ∙ ap not (sym (lt-ltb 0 (suc n) (omega arith)))

  -- task i is a user of q on its processor, and the others are its fellows
  module _ (i q : ℕ) (l : i < p.tasks) (g : global p q ≡ true) (u : uses p i q ≡ true) where
    users_fellows : users_below p p.tasks (processor_of p i) q ≡ count_below p.tasks (fellow p i q) + 1
    unfolding users_below
    users_fellows =
        count_set p.tasks i (fellow p i q) (holder (processor_of p i) q)
        (λ j lj d. rw (ne_eqb j i d, and-true) (sym (holder_uses (processor_of p i) q g j)))
        l (rw (eq-eqb i i refl, and-false))
        (holder_uses (processor_of p i) q g i ∙ rw (eq-eqb (processor_of p i) (processor_of p i) refl, u))

    holds_fellows : holds_below p p.tasks (processor_of p i) q ≡ fellow_holds p i q + hold_at p i q
    unfolding holds_below
    holds_fellows =
        sum_insert p.tasks i (λ j. eqb (processor_of p j) (processor_of p i)) (λ j. eqb (processor_of p j) (processor_of p i) && not (eqb j i))
        (λ j. hold_at p j q) l (eq-eqb (processor_of p i) (processor_of p i) refl) (rw (eq-eqb i i refl, and-false))
        (λ j lj d. rw (ne_eqb j i d, and-true))
        ∙ ap (λ (s : ℕ). s + hold_at p i q) (sym (fellow_holds_lem p i q g))

-- of a task that uses a global resource: the resource is the plan's; the users of the resource on its processor are its fellows and
-- itself, and so are their hold times; its processor's wait time stands in the table
module _ {f figures t : List ℕ} {i q : ℕ} (u : SharingTask f figures t i q) where
  pub user_resource : q < (plan_of f).resources
  user_resource =
      on_le (q < (plan_of f).resources) (plan_of f).resources q
      (λ h. absurd (true≢false (sym u.shared ∙ past_global _ (valid_plan f u.added.known.plan) q h))) (λ h. h)

  pub users_are : get_or t (users_cell (processor_of (plan_of f) i) q) 0 ≡ count_below (plan_of f).tasks (fellow (plan_of f) i q) + 1
  users_are =
      u.added.totals.sums.users _ q (grind (arith, told)) (grind (arith, told, user_resource))
      ∙ users_fellows _ (valid_plan f u.added.known.plan) i q u.task u.shared u.used

  pub holds_are : get_or t (share_count + users_cell (processor_of (plan_of f) i) q) 0 ≡ fellow_holds (plan_of f) i q + hold_at (plan_of f) i q
  holds_are =
      let cell : share_count + users_cell (processor_of (plan_of f) i) q ≡ sum_cell (processor_of (plan_of f) i) q = omega arith in
      rw cell (u.added.totals.sums.holds _ q (grind (arith, told)) (grind (arith, told, user_resource))
      ∙ holds_fellows _ (valid_plan f u.added.known.plan) i q u.task u.shared u.used)

  pub wait_is : get_or t (wait_cell (processor_of (plan_of f) i) q) 0 ≡ wait_time (plan_of f) (processor_of (plan_of f) i) q
  wait_is = u.added.totals.wait _ q ((valid_plan f u.added.known.plan).every_task_fits i u.task).processor user_resource

-- what the function that reads the totals of such a task relies on
pub ruleset users = (told, user_resource, users_are, holds_are, wait_is)
