-- What a file that passed its checks tells.
use Rattle.plan_reading.proofs.Ground.{ℕ, ◌+◌, ◌≤◌, ◌≡◌, sym, ap, length, length-drop, arith, counts_ok, Counts}
use Rattle.plan_reading.proofs.Ground.{known, header_length, counts_of, resources_at, sections_at, names_at, offsets_ok, task_rows_of}
use Rattle.plan_reading.proofs.Ground.{lengths_of, sections_of, plan_of, counts_code, header_code}
use Rattle.folds.proofs.Ground.{suc, ◌*◌, ◌<◌, Bool, true, false, cond, refl, List, eqb, ltb, get_or, drop, List·getD-eq-default, get_or-drop, ltb-true, ltb-false, eqb-true}
use Rattle.folds.specs.Bytes.{number}
use Rattle.folds.proofs.Tests.{code_zero, code_next, first_zero, then_zero, all_at}
use Rattle.folds.proofs.Figures.{sum_at}
use Rattle.folds.proofs.RowLaws.{Bytes}
use Rattle.folds.proofs.Parts.{part_rest, part_span}
use Rattle.plan_rules.specs.Rules.{task_of, unique_ok, names_ok, sums_ok, Tests}
use Rattle.plan_rules.specs.declared.TaskRow.{TaskRow}
use Rattle.sizes.specs.Sizes.{most_name_bytes}
use Rattle.plan_layout.specs.Editions.{format_of}
use Rattle.plan_layout.specs.Layout.{header_in, edition_in, length_said, tasks_at, task_at, section_at, task_rows_ok, length_rows_ok, section_rows_ok, parts_tests, parts_code, names_of, start_at, length_at}
use Rattle.plan_rules.proofs.Laws.{facts, InRange, counts_facts, task_facts, unique_facts, once, names_facts, section_facts, length_facts, tests_facts}
use Rattle.plan_layout.proofs.Laws.{task_read, length_read, start_read, task_fields, task_kept, resource_kept}
use Rattle.plan_reading.specs.Plan.{Checked, TaskFits, SectionFits, Valid}
use Rattle.plan_reading.specs.Checks.{rows_code, check_code}

-- the header
pub record Header (f : List ℕ) : Type 0 where
  pub long : header_length ≤ length f
  pub whole : length_said f ≡ length f
  pub edition : known (counts_of f).edition ≡ true
  pub counts : counts_ok (counts_of f) ≡ true
  pub ranges : InRange (counts_of f)
  pub tasks_at_lem : get_or (header_in f) 5 0 ≡ tasks_at (counts_of f)
  pub resources_at_lem : get_or (header_in f) 6 0 ≡ resources_at (counts_of f)
  pub sections_at_lem : get_or (header_in f) 7 0 ≡ sections_at (counts_of f)
  pub names_at_lem : get_or (header_in f) 8 0 ≡ names_at (counts_of f)
  pub ends : names_at (counts_of f) ≤ length f

first_fails : (b : Bool) (k m : ℕ) → cond b (suc m) k ≡ 0 → b ≡ false
first_fails true k m e = let bad : ⊥ = omega arith in absurd bad
first_fails false k m e = refl

first_next : (b : Bool) (k m : ℕ) → cond b (suc m) k ≡ 0 → k ≡ 0
first_next true k m e = let bad : ⊥ = omega arith in absurd bad
first_next false k m e = e

pub header_facts : (f : List ℕ) → header_code f ≡ 0 → Header f
unfolding header_code counts_code offsets_ok
header_facts f e =
    let e1 = first_next (ltb (length f) header_length) _ 0 e in
    let e2 = code_next (eqb (length_said f) (length f)) _ 0 e1 in
    let e3 = code_next (known (counts_of f).edition) _ 1 e2 in
    let e4 = code_next (counts_ok (counts_of f)) _ 2 e3 in
    let ok : counts_ok (counts_of f) ≡ true = code_zero _ _ 2 e3 in
    let o = code_zero (offsets_ok (counts_of f) f) _ 3 e4 in
    record {
      long = ltb-false _ _ (first_fails (ltb (length f) header_length) _ 0 e);
      whole = eqb-true _ _ (code_zero _ _ 0 e1);
      edition = code_zero _ _ 1 e2;
      counts = ok;
      ranges = counts_facts (counts_of f) ok;
      tasks_at_lem = search facts;
      resources_at_lem = search facts;
      sections_at_lem = search facts;
      names_at_lem = search facts;
      ends = search facts;
    }

-- a whole plan
pub record Whole (f : List ℕ) : Type 0 where
  pub header : Header f
  pub tasks : task_rows_ok (edition_in f) (counts_of f).tasks (counts_of f).processors (drop (tasks_at (counts_of f)) f) ≡ true
  pub unique : unique_ok (counts_of f).tasks (task_rows_of f) ≡ true
  pub starts : length_rows_ok (edition_in f) (counts_of f).resources (drop (resources_at (counts_of f)) f) ≡ true
  pub names : names_ok (counts_of f).resources (lengths_of f) (names_of f) ≡ true
  pub sections : section_rows_ok (edition_in f) (counts_of f).sections (counts_of f).tasks (counts_of f).resources (drop (sections_at (counts_of f)) f) ≡ true
  pub sums : sums_ok (counts_of f).tasks (counts_of f).sections (task_rows_of f) (sections_of f) ≡ true

pub header_clear : (f : List ℕ) → check_code f ≡ 0 → header_code f ≡ 0
unfolding check_code
header_clear f e = first_zero (header_code f) (rows_code f) e

-- what checks 5 to 9 ask of it
abbrev asked : List ℕ → Tests
asked f =
    parts_tests (counts_of f) (drop (tasks_at (counts_of f)) f) (drop (resources_at (counts_of f)) f) (drop (sections_at (counts_of f)) f) (names_of f)

pub whole_facts : (f : List ℕ) → check_code f ≡ 0 → Whole f
unfolding check_code parts_code
whole_facts f e =
    let p = tests_facts (asked f) (then_zero (header_code f) _ e) in
    record {
      header = header_facts f (first_zero (header_code f) _ e);
      tasks = p.tasks;
      unique = p.unique;
      starts = search facts;
      names = search facts;
      sections = p.sections;
      sums = p.sums;
    }

-- where the name of resource q starts within the names, and its length, as its row says
abbrev pub start_in : List ℕ → ℕ → ℕ
start_in f q = start_at (edition_in f) (drop (resources_at (counts_of f)) f) q

abbrev pub length_in : List ℕ → ℕ → ℕ
length_in f q = length_at (edition_in f) (drop (resources_at (counts_of f)) f) q

-- a name that is asked for rightly lies in the file, and is as long as its rule says
pub record Named (f : List ℕ) (q : ℕ) : Type 0 where
  pub whole : Whole f
  pub below : q < (counts_of f).resources
  pub fits : names_at (counts_of f) + (start_in f q + length_in f q) ≤ length f
  pub short : length_in f q ≤ most_name_bytes

pub name_facts : (f : List ℕ) (q : ℕ) → check_code f ≡ 0 → q < (counts_of f).resources → Named f q
name_facts f q e l =
    let part : List ℕ = drop (resources_at (counts_of f)) f in
    let each : ℕ → ℕ = length_at (edition_in f) part in
    let r : ℕ = (counts_of f).resources in
    let w = whole_facts f e in
    let h = w.header in
    let row = resource_kept (edition_in f) r part q w.starts l in
    let n = names_facts r (lengths_of f) (names_of f) w.names in
    let total = start_read (edition_in f) r part r (omega arith) h.ranges.resources in
    let rule = length_facts r q (lengths_of f) n.ranges l in
    record {
      whole = w;
      below = l;
      fits = omega (arith, sum_at r q each l, row.start, length-drop (names_at (counts_of f)) f, n.total, h.ends);
      short = omega (arith, rule.high, length_read (edition_in f) r part q l h.ranges.resources);
    }

-- what a name's part of the file is proved by: for `search`
pub ruleset named = (whole_facts, name_facts, part_rest, part_span)

-- the plan of a file has the counts in its header
pub plan_resources : (f : List ℕ) → (plan_of f).resources ≡ (counts_of f).resources
unfolding plan_of
plan_resources f = refl

-- what is read past the end of a file is 0, so a byte too
checked_bytes : (f : List ℕ) → Checked f → Bytes f
checked_bytes f h k = go (ltb k (length f)) refl
  where
    go : (b : Bool) → ltb k (length f) ≡ b → get_or f k 0 < 256
    go true t = h.bytes k (ltb-true _ _ t)
    go false t = rw (List·getD-eq-default f 0 (ltb-false _ _ t)) (omega arith)

bytes_drop : (n : ℕ) (s : List ℕ) → Bytes s → Bytes (drop n s)
bytes_drop n s b i = rw get_or-drop (b (n + i))

word_below_lem : (s : List ℕ) (at : ℕ) → Bytes s → number 2 s at < 65536
unfolding number
word_below_lem s at b = omega (arith, b at, b (at + 1))

-- task i by value is that of its row
row_read : (f : List ℕ) → Whole f → (i : ℕ) → i < (counts_of f).tasks → task_of (task_rows_of f) i ≡ task_at (edition_in f) (drop (tasks_at (counts_of f)) f) i
row_read f w i l = task_read (edition_in f) (counts_of f).tasks (drop (tasks_at (counts_of f)) f) i l w.header.ranges.tasks

-- a checked file holds a plan in its ranges
pub valid_plan : (f : List ℕ) → Checked f → Valid (plan_of f)
unfolding plan_of section_rows_ok
valid_plan f h =
    record {
      processor = r.processor;
      processors = r.processors;
      task = r.task;
      tasks = r.tasks;
      resource = r.resource;
      resources = r.resources;
      sections = r.sections;
      every_task_fits = every_task_fits;
      unique = unique;
      section_fits = section_fits;
    }
  where
    c : Counts
    c = counts_of f

    w : Whole f
    w = whole_facts f h.none

    r : InRange c
    r = w.header.ranges

    part : List ℕ
    part = drop (tasks_at c) f

    task : ℕ → TaskRow
    task = task_at (edition_in f) part

    every_task_fits : (i : ℕ) → i < c.tasks → TaskFits c.processors (task i)
    every_task_fits i l =
        let b : Bytes part = bytes_drop (tasks_at c) f (checked_bytes f h) in
        let kept = task_kept (edition_in f) c.tasks part c.processors i w.tasks l in
        let t = task_facts (format_of (edition_in f)).most_tag c.processors (task i) kept.rule in
        let priority : (task i).priority ≡ get_or part (i * 8 + 2) 0 = ap (λ (v : TaskRow). v.priority) (task_fields part i) in
        let period : (task i).period ≡ number 2 part (i * 8 + 4) = ap (λ (v : TaskRow). v.period) (task_fields part i) in
        record {
          processor = t.processor;
          tag = omega (arith, t.tag);
          low = t.priority;
          high = omega (arith, b (i * 8 + 2));
          execution = t.execution;
          within = t.period;
          period = omega (arith, word_below_lem part (i * 8 + 4) b);
        }

    unique : (i j : ℕ) → i < c.tasks → j < c.tasks → (task i).processor ≡ (task j).processor → (task i).priority ≡ (task j).priority → i ≡ j
    unique i j l m p q =
        let row : ℕ → TaskRow = task_of (task_rows_of f) in
        let like : ℕ → ℕ → Type 0 = λ a b. ((row a).processor ≡ (row b).processor) × ((row a).priority ≡ (row b).priority) in
        once c.tasks like (λ a b s. (sym s.0, sym s.1))
        (λ a b k m s. (unique_facts c.tasks a b (task_rows_of f) w.unique k m).priority s.0 s.1) i j l m
        (rw (row_read f w i l, row_read f w j m) (p, q))

    section_fits : (s : ℕ) → s < c.sections → SectionFits c.tasks c.resources (section_at (edition_in f) (drop (sections_at c) f) s)
    section_fits s l =
        let part : List ℕ = drop (sections_at c) f in
        let t = section_facts c.tasks c.resources (section_at (edition_in f) part s) (all_at c.sections s _ w.sections l) in
        record { task = t.task; resource = t.resource; low = t.low; high = t.high }

-- and its tags are unique
pub tags_differ : (f : List ℕ) → Checked f → (i j : ℕ) → i < (plan_of f).tasks → j < (plan_of f).tasks → ((plan_of f).task i).tag ≡ ((plan_of f).task j).tag → i ≡ j
unfolding plan_of
tags_differ f h i j l m e =
    let w = whole_facts f h.none in
    let n : ℕ = (counts_of f).tasks in
    let row : ℕ → TaskRow = task_of (task_rows_of f) in
    once n (λ a b. (row a).tag ≡ (row b).tag) (λ a b s. sym s) (λ a b k m s. (unique_facts n a b (task_rows_of f) w.unique k m).tag s) i j l m
    (rw (row_read f w i l, row_read f w j m) e)
