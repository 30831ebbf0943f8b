-- The table of the sums of section lengths by task, and what it tells of the sections by value.
use Rattle.plan_layout.proofs.Ground.{ℕ, ◌+◌, ◌*◌, ◌%◌, ◌<◌, ◌≤◌, Bool, true, false, cond, ◌≡◌, ◌∙◌, List, eqb, get_or, replicate}
use Rattle.plan_layout.proofs.Ground.{arith, number, Bytes, all_at, all_same, sum_same, gathered_below, sections_above, most_tasks}
use Rattle.plan_layout.proofs.Ground.{most_sections, edition1, section_at, task_rows, section_rows, section_rows_ok, sums_fit, section_code}
use Rattle.folds.proofs.Figures.{sum_bound}
use Rattle.folds.proofs.Arrays.{gathered_at}
use Rattle.plan_rules.specs.Rules.{section_sum, sums_ok}
use Rattle.plan_rules.proofs.Laws.{section_facts}
use Rattle.plan_layout.proofs.Laws.{section_fields, task_read, section_read}

-- the task of section k, modulo 64, and its length
abbrev task_in : List ℕ → ℕ → ℕ
task_in part k = (section_at edition1 part k).task % 64

abbrev length_in : List ℕ → ℕ → ℕ
length_in part k = (section_at edition1 part k).length

-- the sums of the sections below i
abbrev pub sums_below : ℕ → List ℕ → List ℕ
sums_below i part = gathered_below i (task_in part) (length_in part) (replicate 64 0)

-- those of s sections that are passed
pub record Summed (part : List ℕ) (s : ℕ) (sums : List ℕ) (i : ℕ) : Type 0 where
  pub below : i ≤ s
  pub found : sums ≡ sums_below i part

-- a length is 16 bits, so that what stands in the table is small
length_small : (part : List ℕ) (k : ℕ) → Bytes part → (section_at edition1 part k).length ≤ 65535
unfolding number
length_small part k b = rw section_fields (omega (arith, b (k * 4 + 2), b (k * 4 + 2 + 1)))

pub sums_small : {s i t : ℕ} {part l : List ℕ} → Bytes part → Summed part s l i → t < 64 → get_or l t 0 ≤ i * 65535
sums_small {s} {i} {t} {part} b g less =
    rw (g.found, gathered_at i 64 (task_in part) (length_in part) t less)
    (sum_bound i 65535 _ (λ k lt. one (eqb (task_in part k) t) (length_in part k) (length_small part k b)))
  where
    one : (b : Bool) (m : ℕ) → m ≤ 65535 → cond b m 0 ≤ 65535
    one true m h = h
    one false m h = omega arith

module _ (n s r : ℕ) (part : List ℕ) (few : n ≤ most_tasks) (most : s ≤ most_sections) (ok : section_rows_ok edition1 s n r part ≡ true) where
  -- the task of a section that keeps its rule is below 64
  task_below : (k : ℕ) → k < s → task_in part k ≡ (section_at edition1 part k).task
  unfolding section_rows_ok
  task_below k less = let row = section_facts n r (section_at edition1 part k) (all_at s k _ ok less) in omega arith

  -- where all sections keep their rule, the table holds the sums of the sections by value
  sum_read : (t : ℕ) → t < 64 → get_or (sums_below s part) t 0 ≡ section_sum s (section_rows edition1 s part) t
  unfolding section_sum
  sum_read t less =
      gathered_at s 64 (task_in part) (length_in part) t less
      ∙ sum_same s _ _ (λ k lt. rw (task_below k lt, section_read edition1 s part k lt most))

  -- so that the two tests of the sums are one
  sums_read : (tasks : List ℕ) → sums_fit edition1 n (sums_below s part) tasks ≡ sums_ok n s (task_rows edition1 n tasks) (section_rows edition1 s part)
  unfolding sums_fit sums_ok
  sums_read tasks =
      all_same n _ _ (λ t less. rw (sum_read t (omega arith), task_read edition1 n tasks t less few))

  -- and its result is the code
  pub code_sums : (tasks : List ℕ) {i m : ℕ} {sums : List ℕ} {fit : Bool}
      → Summed part s sums i → s ≤ i → m ≡ n → fit ≡ sums_fit edition1 m sums tasks → cond fit 0 sections_above ≡ section_code edition1 n s r tasks part
  unfolding section_code
  code_sums tasks {i} g all e fit =
      let end : i ≡ s = omega arith in
      rw (fit, g.found, end, e, sums_read tasks, ok)
