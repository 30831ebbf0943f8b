-- The tables of longest sections, and which resources the processors use.
use Rattle.analysis_sections.proofs.Ground.{ℕ, ◌+◌, ◌-◌, ◌<◌, ◌≤◌, max, Bool, true, false, cond, ◌&&◌, ◌≡◌, refl, sym, ap, ◌∙◌, List}
use Rattle.analysis_sections.proofs.Ground.{eqb, ltb, length, get_or, set, replicate, length-replicate, arith, lt-ltb, eq-eqb, ne_eqb}
use Rattle.analysis_sections.proofs.Ground.{any_below, sum_below, max_below, count_below, max_same, count_step, count_bound, maxed_below}
use Rattle.analysis_sections.proofs.Ground.{maxed_length, valid_plan, Plan, Valid, processor_of, longest_on, cell, column, ResourceRow}
use Rattle.folds.proofs.Ground.{zero, suc, ◌||◌, and_comm}
use Rattle.analysis_equations.specs.Sharing.{section_on, uses, used_on}
use Rattle.analysis_equations.proofs.Laws.{uses_longest}
use Rattle.folds.proofs.Arrays.{maxed_at, maxed_step, cell_eqb}
use Rattle.plan_rules.specs.declared.SectionRow.{SectionRow}
use Rattle.analysis_sections.specs.Inner.{LongestAt, used_time}
use Rattle.analysis_sections.proofs.Rows.{by_lt, row_zeros, row_same}

-- the longer of two, as a sum
pub longer_sum : (a b : ℕ) {r : ℕ} → r ≡ b - a → a + r ≡ max a b
longer_sum a b e = omega (arith, e)

-- ── the tables of longest sections ──

-- figures of tasks and resources in a table: each has a place of its own
pub record Places (place : ℕ → ℕ → ℕ) (rows size : ℕ) : Type 0 where
  pub tasks : 64 ≤ rows
  pub fits : (j q : ℕ) → j < rows → q < 16 → place j q < size
  pub apart : (a b j q : ℕ) → a < rows → b < 16 → j < rows → q < 16 → eqb (place a b) (place j q) ≡ (eqb a j && eqb b q)

pub by_rows : Places cell 72 1152
by_rows =
    record {
      tasks = omega arith;
      fits = λ j q lj lq. omega arith;
      apart = λ a b j q la lb lj lq. cell_eqb 16 b q a j lb lq ∙ and_comm (eqb b q) (eqb a j);
    }

pub by_columns : Places column 64 1024
by_columns = record { tasks = omega arith; fits = λ j q lj lq. omega arith; apart = λ a b j q la lb lj lq. cell_eqb 64 a j b q la lj }

-- such a table after the sections below n
abbrev pub longest_below : Plan → (ℕ → ℕ → ℕ) → ℕ → ℕ → List ℕ
longest_below p place size n =
    maxed_below n (λ s. place (p.section s).task (p.section s).resource) (λ s. (p.section s).length) (replicate size 0)

module _ (p : Plan) (v : Valid p) {place : ℕ → ℕ → ℕ} {rows size : ℕ} (h : Places place rows size) where
  low_task : (s : ℕ) → s < p.sections → (p.section s).task < rows
  low_task s l = omega (arith, v.tasks, (v.section_fits s l).task, h.tasks)

  low_resource : (s : ℕ) → s < p.sections → (p.section s).resource < 16
  low_resource s l = omega (arith, v.resources, (v.section_fits s l).resource)

  longest_at : (n j q : ℕ) → n ≤ p.sections → j < rows → q < 16
      → get_or (longest_below p place size n) (place j q) 0 ≡ max_below n (λ s. cond (section_on p j q s) (p.section s).length 0)
  longest_at n j q l lj lq =
      maxed_at n size (λ s. place (p.section s).task (p.section s).resource) (λ s. (p.section s).length) (place j q) (h.fits j q lj lq)
      ∙ max_same n _ _
      (λ s ls.
      let low : s < p.sections = omega arith in
      ap (λ (b : Bool). cond b (p.section s).length 0) (h.apart _ _ j q (low_task s low) (low_resource s low) lj lq))

  -- a turn of the loop over the sections
  module _ (n : ℕ) {t : List ℕ} {row : SectionRow} (l : n < p.sections) (e : t ≡ longest_below p place size n) (er : row ≡ p.section n) where
    module _ {k : ℕ} (ek : k ≡ place row.task row.resource) where
      pub low_place : k < length t
      low_place = rw (ek, e, maxed_length, length-replicate, er) (h.fits _ _ (low_task n l) (low_resource n l))

      pub old_at : get_or t k 0 ≡ max_below n (λ s. cond (section_on p row.task row.resource s) (p.section s).length 0)
      old_at = rw (ek, e, er) (longest_at n _ _ (omega arith) (low_task n l) (low_resource n l))

      pub longest_step : {most : ℕ} → most ≡ max (get_or t k 0) row.length → set t k most ≡ longest_below p place size (n + 1)
      longest_step m = maxed_step n _ (λ s. (p.section s).length) (replicate size 0) e (ek ∙ rw er) (rw er) m

  -- its end
  pub longest_done : (n : ℕ) {t : List ℕ} → n ≡ p.sections → t ≡ longest_below p place size n → LongestAt place rows size p t
  unfolding longest_on
  longest_done n e g =
      rw (g, e)
      (record {
        long = maxed_length p.sections _ _ (replicate size 0) ∙ length-replicate {A = ℕ} size 0;
        at = λ j q lj lq. longest_at p.sections j q (omega arith) lj lq;
      })

-- that an index is within its table
pub ruleset place_laws = (valid_plan, by_rows, by_columns, low_place)

-- ── who uses what ──

module _ (p : Plan) where
  -- how many of the processors below k use each resource
  abbrev pub UsersBelow : ℕ → List ℕ → Type 0
  UsersBelow k = ResourceRow (λ q. count_below k (λ l. used_on p l q))

  pub users_none : UsersBelow 0 (replicate 16 0)
  unfolding count_below
  users_none = row_zeros _ (λ q l. refl)

  pub users_few : (k : ℕ) {users : List ℕ} → UsersBelow k users → (q : ℕ) → q < 16 → get_or users q 0 ≤ k
  users_few k u q l = rw (u.at q l) (count_bound k (λ l. used_on p l q))

-- a sum is not 0 where one of its parts is not
sum_any : (n : ℕ) (u : ℕ → Bool) (f : ℕ → ℕ) → ((i : ℕ) → i < n → u i ≡ ltb 0 (f i)) → any_below n u ≡ ltb 0 (sum_below n f)
unfolding any_below sum_below
sum_any zero u f h = refl
sum_any (suc n) u f h = rw (sum_any n u f (λ i l. h i (omega arith)), h n (omega arith)) (both (sum_below n f) (f n))
  where
    both : (a b : ℕ) → (ltb 0 a || ltb 0 b) ≡ ltb 0 (a + b)
    both a b =
        by_lt (λ (t : Bool). (t || ltb 0 b) ≡ ltb 0 (a + b)) 0 a (λ l. sym (lt-ltb 0 (a + b) (omega arith)))
        (λ l. let e : b ≡ a + b = omega arith in ap (ltb 0) e)

module _ (p : Plan) (v : Valid p) where
  -- a processor uses q where its time there is not 0
  time_used : (k q : ℕ) → ◌≡◌ {A = ℕ} (cond (eqb (used_time p k q) 0) 0 1) (cond (used_on p k q) 1 0)
  unfolding used_on
  time_used k q = rw (sum_any p.tasks _ (λ i. cond (eqb (processor_of p i) k) (longest_on p i q) 0) (λ i l. one (eqb (processor_of p i) k) i))
      (flag (used_time p k q))
    where
      one : (b : Bool) (i : ℕ) → (b && uses p i q) ≡ ltb 0 (cond b (longest_on p i q) 0)
      one true i = uses_longest p v i q
      one false i = refl

      flag : (n : ℕ) → ◌≡◌ {A = ℕ} (cond (eqb n 0) 0 1) (cond (ltb 0 n) 1 0)
      flag n =
          by_lt (λ (b : Bool). ◌≡◌ {A = ℕ} (cond (eqb n 0) 0 1) (cond b 1 0)) 0 n (λ l. rw (ne_eqb n 0 (λ z. omega arith)))
          (λ l. rw (eq-eqb n 0 (omega arith)))

  pub users_step : (k : ℕ) (users row : List ℕ) {next : List ℕ} → UsersBelow p k users → ResourceRow (used_time p k) row
      → ResourceRow (λ q. get_or users q 0 + cond (eqb (get_or row q 0) 0) 0 1) next
      → UsersBelow p (k + 1) next
  users_step k users row u r n =
      row_same _ _ n (λ q l. count_step k (λ l. used_on p l q) (u.at q l) (rw (r.at q l) (time_used k q)))
