-- Values that keep their rules, and how much they are; rows that agree below a count keep the same rules, and have the same bytes.
use Rattle.plan_writing.proofs.Ground.{ℕ, ◌+◌, ◌<◌, ◌≤◌, true, ◌&&◌, ◌≡◌, sym, ap, ap₂, ◌∙◌, List, ◌++◌, leb, length, take}
use Rattle.plan_writing.proofs.Ground.{drop, length-drop, drop_at, arith, most_resources, row_at, row_bytes, bytes_below, all_same}
use Rattle.plan_writing.proofs.Ground.{code_zero, sum_same, Bytes, solid, task_of, section_of, length_of, start_of, counts_ok, unique_ok}
use Rattle.plan_writing.proofs.Ground.{names_ok, sums_ok, TaskRow, Counts, Rows, InRange, counts_facts, known, values_tests, values_code}
use Rattle.folds.proofs.Ground.{◌*◌, Bool, cond, not, eqb, take-add, get_or-drop}
use Rattle.sizes.specs.Sizes.{most_name_bytes}
use Rattle.folds.specs.Below.{all_below}
use Rattle.folds.specs.Bytes.{width}
use Rattle.folds.proofs.Tests.{code_next}
use Rattle.folds.proofs.Figures.{sum_bound}
use Rattle.folds.proofs.Parts.{bytes_length, bytes_same}
use Rattle.folds.proofs.RowLaws.{row_length, rows_back, rows_forth}
use Rattle.plan_rules.specs.Rules.{tag_new, priority_new, lengths_ok, bytes_ok, differ, name_new, names_differ, section_sum}
use Rattle.plan_rules.specs.declared.SectionRow.{SectionRow}
use Rattle.plan_rules.proofs.Laws.{Passed, tests_facts, tests_pass, length_facts, names_facts}

-- values that keep every rule
pub record Kept (c : Counts) (rows : Rows) (names : List ℕ) : Type 0 where
  pub edition : known c.edition ≡ true
  pub counts : counts_ok c ≡ true
  pub tests : Passed (values_tests c rows names)

module _ (c : Counts) (rows : Rows) (names : List ℕ) where
  pub kept_facts : values_code c rows names ≡ 0 → Kept c rows names
  unfolding values_code
  kept_facts e =
      let e1 = code_next (known c.edition) _ 1 e in
      record {
        edition = code_zero (known c.edition) _ 1 e;
        counts = code_zero (counts_ok c) _ 2 e1;
        tests = tests_facts (values_tests c rows names) (code_next (counts_ok c) _ 2 e1);
      }

  pub kept_code : Kept c rows names → values_code c rows names ≡ 0
  unfolding values_code
  kept_code k = rw (k.edition, k.counts) (tests_pass (values_tests c rows names) k.tests)

-- how much the names are
names_length : (r : ℕ) (lengths names : List ℕ) → names_ok r lengths names ≡ true → length names ≤ r * most_name_bytes
names_length r lengths names e =
    let n = names_facts r lengths names e in
    omega (arith, sum_bound r most_name_bytes (length_of lengths) (λ k l. (length_facts r k lengths n.ranges l).high))

-- values that keep every rule, and how much they are
pub record Sized (c : Counts) (rows : Rows) (names : List ℕ) : Type 0 where
  pub rules : Kept c rows names
  pub ranges : InRange c
  pub short : length names ≤ most_resources * most_name_bytes

pub sized : (c : Counts) (rows : Rows) (names : List ℕ) → values_code c rows names ≡ 0 → Sized c rows names
sized c rows names e =
    let k = kept_facts c rows names e in
    let g = counts_facts c k.counts in
    record { rules = k; ranges = g; short = omega (arith, names_length c.resources rows.lengths names k.tests.names) }

-- two lists of tasks
module _ (n : ℕ) (x y : List TaskRow) (same : (i : ℕ) → i < n → task_of x i ≡ task_of y i) where
  pub unique_same : unique_ok n x ≡ unique_ok n y
  unfolding unique_ok tag_new priority_new
  unique_same = all_same n _ _ (λ i l. ap₂ ◌&&◌ (earlier i l differ_tag) (earlier i l differ_place))
    where
      differ_tag : TaskRow → TaskRow → Bool
      differ_tag a b = not (eqb a.tag b.tag)

      differ_place : TaskRow → TaskRow → Bool
      differ_place a b = not (eqb a.processor b.processor && eqb a.priority b.priority)

      earlier : (i : ℕ) → i < n → (t : TaskRow → TaskRow → Bool) → all_below i (λ j. t (task_of x i) (task_of x j)) ≡ all_below i (λ j. t (task_of y i) (task_of y j))
      earlier i l t = all_same i _ _ (λ j m. ap₂ t (same i l) (same j (omega arith)))

  pub sums_same : (s : ℕ) (u v : List SectionRow) → ((i : ℕ) → i < s → section_of u i ≡ section_of v i) → sums_ok n s x u ≡ sums_ok n s y v
  unfolding sums_ok section_sum
  sums_same s u v alike =
      all_same n _ _
      (λ t l. ap₂ leb (sum_same s _ _ (λ i m. ap (λ (k : SectionRow). cond (eqb k.task t) k.length 0) (alike i m)))
      (ap (λ (a : TaskRow). a.execution) (same t l)))

-- two lists of name lengths
module _ (r : ℕ) (x y : List ℕ) (same : (i : ℕ) → i < r → length_of x i ≡ length_of y i) where
  pub start_same : (i : ℕ) → i ≤ r → start_of x i ≡ start_of y i
  start_same i l = sum_same i _ _ (λ k m. same k (omega arith))

  pub names_same : (names : List ℕ) → names_ok r x names ≡ names_ok r y names
  unfolding names_ok lengths_ok names_differ name_new differ
  names_same names =
      ap₂ (λ (s : ℕ) (b : Bool). eqb s (length names) && b) (start_same r (omega arith))
      (ap₂ (λ (a b : Bool). a && (bytes_ok names && b))
      (all_same r _ _ (λ i l. ap (λ (k : ℕ). leb 1 k && leb k most_name_bytes) (same i l)))
      (all_same r _ _ (λ i l. all_same i _ _ (λ j m. rw (same i l, same j (omega arith), start_same i (omega arith), start_same j (omega arith))))))

-- in f, from `at` on, stand rows of the widths ws whose numbers below n are g's
abbrev pub Stand : List ℕ → (ℕ → List ℕ) → ℕ → List ℕ → ℕ → Type 0
Stand ws g n f at = (i : ℕ) → i < n → row_at ws (drop at f) i ≡ g i

module _ (ws : List ℕ) (g : ℕ → List ℕ) (n : ℕ) where
  pub rows_length : length (bytes_below n (λ k. row_bytes ws (g k))) ≡ n * width ws
  rows_length = bytes_length (width ws) (λ k. row_bytes ws (g k)) (λ k. row_length ws (g k)) n

  -- rows that were written stand behind what was written before them
  pub rows_stand : (f a b : List ℕ) (at : ℕ) → solid ws ≡ true → ((i : ℕ) → length (g i) ≡ length ws)
      → f ≡ a ++ (bytes_below n (λ k. row_bytes ws (g k)) ++ b) → length a ≡ at → Stand ws g n f at
  rows_stand f a b at p e q la i l =
      rw (q, drop_at a (bytes_below n (λ k. row_bytes ws (g k)) ++ b) at la) (rows_back ws g n i b p (e i) l)

-- written behind the file up to where they stand, rows make the file up to their end
pub rows_joined : (ws : List ℕ) (g : ℕ → List ℕ) (n : ℕ) (f : List ℕ) (at end : ℕ) {x : List ℕ} → Bytes f → Stand ws g n f at
    → at + n * width ws ≡ end → end ≤ length f → x ≡ take at f → x ++ bytes_below n (λ k. row_bytes ws (g k)) ≡ take end f
rows_joined ws g n f at end b h e l q =
    let part : List ℕ = drop at f in
    let bytes : bytes_below n (λ k. row_bytes ws (g k)) ≡ take (n * width ws) part =
    bytes_same n (λ k. row_bytes ws (g k)) (λ k. row_bytes ws (row_at ws part k)) (λ i l. ap (row_bytes ws) (sym (h i l))) ∙ rows_forth ws part n (λ i. rw get_or-drop (b (at + i))) (omega (arith, length-drop at f)) in
    rw (q, bytes, ← e, take-add)
