-- What counts, rows and lengths that keep their rules have, and the laws of the numbers of names.
use Rattle.plan_rules.proofs.Ground.{ℕ, ◌+◌, ◌-◌, ◌*◌, ◌<◌, ◌≤◌, Bool, true, ◌&&◌, not, ◌≡◌, refl, sym, ◌∙◌, List, leb, eqb, length}
use Rattle.plan_rules.proofs.Ground.{get_or, replicate, add_assoc, arith, eq-eqb, most_resources, most_name_bytes, sum_below, number}
use Rattle.plan_rules.proofs.Ground.{length_of, start_of, lengths_ok, same_bytes, differ, name_new, names_differ, names_ok, digest_of}
use Rattle.plan_rules.proofs.Ground.{digests_of, number_new, numbers_differ}
use Rattle.folds.proofs.Ground.{◌/◌, false, cond, and_comm, true≢false, ap, ap₂, ltb, add-zero, le-leb, ltb-true, ltb-false, leb-true, eqb-true, eqb-false, not-true}
use Rattle.sizes.specs.Sizes.{most_processors, most_tasks, most_sections, most_section_ticks}
use Rattle.folds.proofs.Tests.{and_parts, is_not_true, code_zero, code_next, all_at, all_from}
use Rattle.folds.proofs.RowLaws.{number_same}
use Rattle.folds.proofs.Arrays.{cell_eqb, placed_at}
use Rattle.plan_rules.specs.declared.Counts.{Counts}
use Rattle.plan_rules.specs.declared.TaskRow.{TaskRow}
use Rattle.plan_rules.specs.declared.SectionRow.{SectionRow}
use Rattle.plan_rules.specs.Rules.{task_of, counts_ok, task_ok, tasks_ok, tags_ok, section_ok, tag_new, priority_new, unique_ok, Tests, tests_code}

-- tests that hold together hold each
pub test_rest : (a b : Bool) → (a && b) ≡ true → a ≡ true
test_rest a b h = (and_parts a b h).0

pub test_last : (a b : Bool) → (a && b) ≡ true → b ≡ true
test_last a b h = (and_parts a b h).1

-- what a row of tests says of the numbers in it: for `search`
pub ruleset facts = (test_rest, test_last, leb-true, ltb-true, eqb-true)

-- counts in their ranges
pub record InRange (c : Counts) : Type 0 where
  pub processor : 1 ≤ c.processors
  pub processors : c.processors ≤ most_processors
  pub task : 1 ≤ c.tasks
  pub tasks : c.tasks ≤ most_tasks
  pub resource : 1 ≤ c.resources
  pub resources : c.resources ≤ most_resources
  pub sections : c.sections ≤ most_sections

pub counts_facts : (c : Counts) → counts_ok c ≡ true → InRange c
counts_facts c h = search facts

-- a task that keeps its rule in a plan of p processors
pub record Task (most p : ℕ) (t : TaskRow) : Type 0 where
  pub processor : t.processor < p
  pub tag : t.tag ≤ most
  pub priority : 1 ≤ t.priority
  pub execution : 1 ≤ t.execution
  pub period : t.execution ≤ t.period

pub task_facts : (most p : ℕ) (t : TaskRow) → task_ok most p t ≡ true → Task most p t
task_facts most p t h = search facts

pub task_at_lem : (n most p i : ℕ) (tasks : List TaskRow) → tasks_ok n most p tasks ≡ true → i < n → Task most p (task_of tasks i)
unfolding tasks_ok
task_at_lem n most p i tasks h l = task_facts most p (task_of tasks i) (all_at n i (λ k. task_ok most p (task_of tasks k)) h l)

-- tasks that keep their rule have tags for which a row has room
pub tags_kept : (n most p : ℕ) (tasks : List TaskRow) → tasks_ok n most p tasks ≡ true → tags_ok n most tasks ≡ true
unfolding tags_ok
tags_kept n most p tasks h = all_from n _ (λ i l. le-leb _ _ (task_at_lem n most p i tasks h l).tag)

-- tasks i and j have neither one tag, nor one priority on one processor
pub record New (tasks : List TaskRow) (i j : ℕ) : Type 0 where
  pub tag : (task_of tasks i).tag ≡ (task_of tasks j).tag → ⊥
  pub priority : (task_of tasks i).processor ≡ (task_of tasks j).processor → (task_of tasks i).priority ≡ (task_of tasks j).priority → ⊥

pub unique_facts : (n i j : ℕ) (tasks : List TaskRow) → unique_ok n tasks ≡ true → i < n → j < i → New tasks i j
unfolding unique_ok tag_new priority_new
unique_facts n i j tasks h l m =
    let row : ℕ → TaskRow = task_of tasks in
    let place : ℕ → Bool = λ k. eqb (row i).processor (row k).processor && eqb (row i).priority (row k).priority in
    let both = all_at n i (λ k. tag_new tasks k && priority_new tasks k) h l in
    let tag = all_at i j (λ k. not (eqb (row i).tag (row k).tag)) (test_rest (tag_new tasks i) _ both) m in
    let priority = all_at i j (λ k. not (place k)) (test_last (tag_new tasks i) _ both) m in
    record {
      tag = eqb-false _ _ (not-true _ tag);
      priority = λ p q. true≢false (sym (ap₂ ◌&&◌ (eq-eqb _ _ p) (eq-eqb _ _ q)) ∙ not-true (place j) priority);
    }

-- what is unlike whatever came before it stands once
pub once : (n : ℕ) (Like : ℕ → ℕ → Type 0) → ((i j : ℕ) → Like i j → Like j i) → ((i j : ℕ) → i < n → j < i → Like i j → ⊥)
    → (i j : ℕ) → i < n → j < n → Like i j → i ≡ j
once n Like turn new i j l m s =
    let up : i ≤ j = ltb-false j i (is_not_true _ (λ b. new i j l (ltb-true j i b) s)) in
    let down : j ≤ i = ltb-false i j (is_not_true _ (λ b. new j i m (ltb-true i j b) (turn i j s))) in
    omega arith

-- names that keep their rules
pub record Names (r : ℕ) (lengths names : List ℕ) : Type 0 where
  pub total : sum_below r (length_of lengths) ≡ length names
  pub ranges : lengths_ok r lengths ≡ true

pub names_facts : (r : ℕ) (lengths names : List ℕ) → names_ok r lengths names ≡ true → Names r lengths names
unfolding names_ok
names_facts r lengths names h = search facts

-- checks 5 to 9, all of which hold
pub record Passed (t : Tests) : Type 0 where
  pub tasks : t.tasks ≡ true
  pub unique : t.unique ≡ true
  pub names : t.names ≡ true
  pub sections : t.sections ≡ true
  pub sums : t.sums ≡ true

pub tests_facts : (t : Tests) → tests_code t ≡ 0 → Passed t
tests_facts t e =
    let e2 = code_next t.tasks _ 4 e in
    let e3 = code_next t.unique _ 5 e2 in
    let e4 = code_next t.names _ 6 e3 in
    let e5 = code_next t.sections _ 7 e4 in
    record {
      tasks = code_zero t.tasks _ 4 e;
      unique = code_zero t.unique _ 5 e2;
      names = code_zero t.names _ 6 e3;
      sections = code_zero t.sections _ 7 e4;
      sums = code_zero t.sums _ 8 e5;
    }

pub tests_pass : (t : Tests) → Passed t → tests_code t ≡ 0
tests_pass t p = rw (p.tasks, p.unique, p.names, p.sections, p.sums)

-- a section that keeps its rule in a plan of n tasks and r resources
pub record Section (n r : ℕ) (s : SectionRow) : Type 0 where
  pub task : s.task < n
  pub resource : s.resource < r
  pub low : 1 ≤ s.length
  pub high : s.length ≤ most_section_ticks

pub section_facts : (n r : ℕ) (s : SectionRow) → section_ok n r s ≡ true → Section n r s
section_facts n r s h = search facts

-- a processor and a priority below 256 as one number
pub place_eqb : (p q a b : ℕ) → a < 256 → b < 256 → eqb (p * 256 + a) (q * 256 + b) ≡ (eqb p q && eqb a b)
place_eqb p q a b la lb = cell_eqb 256 a b p q la lb ∙ and_comm (eqb a b) (eqb p q)

-- a name length that keeps its rule
pub record Length (l : ℕ) : Type 0 where
  pub low : 1 ≤ l
  pub high : l ≤ most_name_bytes

pub length_facts : (r i : ℕ) (lengths : List ℕ) → lengths_ok r lengths ≡ true → i < r → Length (length_of lengths i)
unfolding lengths_ok
length_facts r i lengths h l =
    let a = all_at r i (λ k. leb 1 (length_of lengths k) && leb (length_of lengths k) most_name_bytes) h l in search facts

-- the number of name i among those of r names
pub digest_at : (r i : ℕ) (lengths names : List ℕ) → i < r → r ≤ most_resources → get_or (digests_of r lengths names) i 0 ≡ digest_of names (start_of lengths i) (length_of lengths i)
unfolding digests_of
digest_at r i lengths names l h =
    placed_at r i (λ k. digest_of names (start_of lengths k) (length_of lengths k)) (replicate most_resources 0) 0 l h

-- the same bytes have one number
pub digest_same : (names : List ℕ) (a b len : ℕ) → 1 ≤ len → same_bytes names a b len ≡ true → digest_of names a len ≡ digest_of names b len
unfolding same_bytes digest_of
digest_same names a b len h e = go (ltb len 4) refl
  where
    same : (k : ℕ) → k < len → get_or names (a + k) 0 ≡ get_or names (b + k) 0
    same k l = eqb-true _ _ (all_at len k (λ j. eqb (get_or names (a + j) 0) (get_or names (b + j) 0)) e l)

    four : (o : ℕ) → o + 4 ≤ len → number 4 names (a + o) ≡ number 4 names (b + o)
    four o l =
        number_same 4 names (a + o) (b + o)
        (λ k m. ap (λ (n : ℕ). get_or names n 0) (add_assoc a o k) ∙ same (o + k) (omega arith) ∙ sym (ap (λ (n : ℕ). get_or names n 0) (add_assoc b o k)))

    short : ℕ → ℕ
    short at = get_or names at 0 + 256 * get_or names (at + len / 2) 0 + 65536 * get_or names (at + (len - 1)) 0

    long : ℕ → ℕ
    long at = number 4 names at + 3 * number 4 names (at + (len - 4) / 2) + 5 * number 4 names (at + (len - 4))

    go : (t : Bool) → ltb len 4 ≡ t → cond t (short a) (long a) ≡ cond t (short b) (long b)
    go true t = omega (arith, simp add-zero at (same 0 (omega arith)), same (len / 2) (omega arith), same (len - 1) (omega arith))
    go false t =
        let l : 4 ≤ len = ltb-false len 4 t in
        omega (arith, simp add-zero at (four 0 (omega arith)), four ((len - 4) / 2) (omega arith), four (len - 4) (omega arith))

-- names whose numbers differ are not equal
pub digest_differ : (lengths names : List ℕ) (i j a b : ℕ) → 1 ≤ length_of lengths i → (digest_of names a (length_of lengths i) ≡ digest_of names b (length_of lengths j) → ⊥) → differ lengths names i j a b ≡ true
unfolding differ
digest_differ lengths names i j a b h d =
    either (eqb (length_of lengths i) (length_of lengths j)) (same_bytes names a b (length_of lengths i))
    (λ e f. d (digest_same names a b (length_of lengths i) h f ∙ ap (digest_of names b) (eqb-true (length_of lengths i) (length_of lengths j) e)))
  where
    either : (x y : Bool) → (x ≡ true → y ≡ true → ⊥) → not (x && y) ≡ true
    either true true g = absurd (g refl refl)
    either true false g = refl
    either false y g = refl

pub digests_differ : (r : ℕ) (lengths names : List ℕ) → r ≤ most_resources → lengths_ok r lengths ≡ true → numbers_differ r (digests_of r lengths names) ≡ true → names_differ r lengths names ≡ true
unfolding numbers_differ number_new names_differ name_new
digests_differ r lengths names h ok t =
    let l : List ℕ = digests_of r lengths names in
    all_from r (name_new lengths names)
    (λ i p. all_from i (λ j. differ lengths names i j (start_of lengths i) (start_of lengths j))
    (λ j q. digest_differ lengths names i j (start_of lengths i) (start_of lengths j) (length_facts r i lengths ok p).low
    (λ e. eqb-false (get_or l i 0) (get_or l j 0) (not-true _ (all_at i j (λ k. not (eqb (get_or l i 0) (get_or l k 0))) (all_at r i (number_new l) t p) q)) (digest_at r i lengths names p h ∙ e ∙ sym (digest_at r j lengths names (omega arith) h)))))
