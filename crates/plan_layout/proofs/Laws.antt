-- What the rows of a part tell of the rows by value: the same rows, under the same rules.
use Rattle.plan_layout.proofs.Ground.{ℕ, ◌+◌, ◌*◌, ◌<◌, ◌≤◌, true, ◌&&◌, ◌≡◌, refl, ap, ◌∙◌, List, eqb, get_or, replicate}
use Rattle.plan_layout.proofs.Ground.{arith, most_tasks, most_sections, sum_below, all_at, all_same, sum_same, number, row_at, fields}
use Rattle.plan_layout.proofs.Ground.{no_task, no_section, section_ok, task_of, Edition, edition1, format_of, task_at, length_at, section_at}
use Rattle.plan_layout.proofs.Ground.{task_rows, length_rows, section_rows, task_rows_ok, length_rows_ok, section_rows_ok}
use Rattle.folds.proofs.Ground.{[], ◌∷◌, length-replicate, add-zero, eqb-true}
use Rattle.sizes.specs.Sizes.{most_resources}
use Rattle.folds.proofs.Tests.{all_from}
use Rattle.folds.proofs.Arrays.{placed_at}
use Rattle.folds.proofs.RowLaws.{number_drop, number_byte}
use Rattle.plan_rules.specs.Rules.{task_ok, tasks_ok, sections_ok, length_of, section_of}
use Rattle.plan_rules.proofs.Laws.{test_rest, test_last, facts}
use Rattle.plan_layout.specs.Layout.{header_in, counts_of, length_said, task_spare, start_at, resource_spare}

-- where the numbers of a header stand in a file of edition 1
module _ (f : List ℕ) where
  pub header_fields : header_in f ≡ get_or f 0 0 ∷ get_or f 1 0 ∷ get_or f 2 0 ∷ get_or f 3 0 ∷ number 2 f 4 ∷ number 2 f 6 ∷ number 2 f 8 ∷ number 2 f 10 ∷ number 2 f 12 ∷ number 2 f 14 ∷ []
  unfolding header_in fields
  header_fields = simp number_byte

  pub counts_fields : counts_of f ≡ record { edition = get_or f 0 0; processors = get_or f 1 0; tasks = get_or f 2 0; resources = get_or f 3 0; sections = number 2 f 4 }
  unfolding counts_of
  counts_fields = rw header_fields

  pub length_field_said : length_said f ≡ number 2 f 14
  unfolding length_said
  length_field_said = rw header_fields

  -- the numbers of a header by what they say
  pub header_parts : header_in f ≡ (counts_of f).edition ∷ (counts_of f).processors ∷ (counts_of f).tasks ∷ (counts_of f).resources ∷ (counts_of f).sections ∷ get_or (header_in f) 5 0 ∷ get_or (header_in f) 6 0 ∷ get_or (header_in f) 7 0 ∷ get_or (header_in f) 8 0 ∷ length_said f ∷ []
  unfolding header_in counts_of length_said fields
  header_parts = refl

-- where the fields of row i stand in its part
module _ (part : List ℕ) (i : ℕ) where
  pub task_fields : task_at edition1 part i ≡ record { processor = get_or part (i * 8) 0; tag = get_or part (i * 8 + 1) 0; priority = get_or part (i * 8 + 2) 0; period = number 2 part (i * 8 + 4); execution = number 2 part (i * 8 + 6) }
  unfolding task_at row_at fields
  task_fields = simp (number_drop, number_byte, add-zero)

  pub task_spare_lem : task_spare edition1 part i ≡ get_or part (i * 8 + 3) 0
  unfolding task_spare row_at fields
  task_spare_lem = simp (number_drop, number_byte)

  pub start_field : start_at edition1 part i ≡ number 2 part (i * 4)
  unfolding start_at row_at fields
  start_field = simp (number_drop, add-zero)

  pub length_field : length_at edition1 part i ≡ get_or part (i * 4 + 2) 0
  unfolding length_at row_at fields
  length_field = simp (number_drop, number_byte)

  pub resource_spare_lem : resource_spare edition1 part i ≡ get_or part (i * 4 + 3) 0
  unfolding resource_spare row_at fields
  resource_spare_lem = simp (number_drop, number_byte)

  pub section_fields : section_at edition1 part i ≡ record { task = get_or part (i * 4) 0; resource = get_or part (i * 4 + 1) 0; length = number 2 part (i * 4 + 2) }
  unfolding section_at row_at fields
  section_fields = simp (number_drop, number_byte, add-zero)

-- what the checks of a task row and of a resource row say
pub record TaskKept (e : Edition) (part : List ℕ) (p i : ℕ) : Type 0 where
  pub rule : task_ok (format_of e).most_tag p (task_at e part i) ≡ true
  pub spare : task_spare e part i ≡ 0

pub record ResourceKept (e : Edition) (part : List ℕ) (i : ℕ) : Type 0 where
  pub start : start_at e part i ≡ sum_below i (length_at e part)
  pub spare : resource_spare e part i ≡ 0

module _ (e : Edition) (n : ℕ) (part : List ℕ) where
  -- row i by value is row i of the part
  pub task_read : (i : ℕ) → i < n → n ≤ most_tasks → task_of (task_rows e n part) i ≡ task_at e part i
  unfolding task_rows
  task_read i l h = placed_at n i (task_at e part) (replicate most_tasks no_task) no_task l (rw length-replicate h)

  pub length_read : (i : ℕ) → i < n → n ≤ most_resources → length_of (length_rows e n part) i ≡ length_at e part i
  unfolding length_rows
  length_read i l h = placed_at n i (length_at e part) (replicate most_resources 0) 0 l (rw length-replicate h)

  pub section_read : (i : ℕ) → i < n → n ≤ most_sections → section_of (section_rows e n part) i ≡ section_at e part i
  unfolding section_rows
  section_read i l h = placed_at n i (section_at e part) (replicate most_sections no_section) no_section l (rw length-replicate h)

  -- so a name starts where the lengths of the part say
  pub start_read : (i : ℕ) → i ≤ n → n ≤ most_resources → sum_below i (length_of (length_rows e n part)) ≡ sum_below i (length_at e part)
  start_read i l h = sum_same i (length_of (length_rows e n part)) (length_at e part) (λ k lt. length_read k (omega arith) h)

  -- a row that passed its check
  pub task_kept : (p i : ℕ) → task_rows_ok e n p part ≡ true → i < n → TaskKept e part p i
  unfolding task_rows_ok
  task_kept p i k l =
      let a = all_at n i (λ j. task_ok (format_of e).most_tag p (task_at e part j) && eqb (task_spare e part j) 0) k l in
      record { rule = test_rest _ (eqb (task_spare e part i) 0) a; spare = eqb-true _ _ (test_last (task_ok (format_of e).most_tag p (task_at e part i)) _ a) }

  pub resource_kept : (i : ℕ) → length_rows_ok e n part ≡ true → i < n → ResourceKept e part i
  unfolding length_rows_ok
  resource_kept i k l =
      let a = all_at n i (λ j. eqb (start_at e part j) (sum_below j (length_at e part)) && eqb (resource_spare e part j) 0) k l in search facts

  -- rows that passed their check keep the rules of rows by value
  pub tasks_kept : (p : ℕ) → n ≤ most_tasks → task_rows_ok e n p part ≡ true → tasks_ok n (format_of e).most_tag p (task_rows e n part) ≡ true
  unfolding tasks_ok
  tasks_kept p h k = all_from n _ (λ i l. ap (task_ok (format_of e).most_tag p) (task_read i l h) ∙ (task_kept p i k l).rule)

  pub sections_kept : (m r : ℕ) → n ≤ most_sections → sections_ok n m r (section_rows e n part) ≡ section_rows_ok e n m r part
  unfolding section_rows_ok sections_ok
  sections_kept m r h = all_same n _ _ (λ i l. ap (section_ok m r) (section_read i l h))
