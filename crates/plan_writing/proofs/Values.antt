-- The rows of values in a file: they stand at their places, and the checks of a file's parts say of them what the rules of values say.
use Rattle.plan_writing.proofs.Ground.{ℕ, ◌<◌, true, ◌&&◌, ◌≡◌, sym, ap, ap₂, ◌∙◌, List, ◌++◌, append_assoc, length, get_or, drop}
use Rattle.plan_writing.proofs.Ground.{length-append, arith, eq-eqb, bytes_below, all_same, sum_same, task_of, section_of, length_of}
use Rattle.plan_writing.proofs.Ground.{start_of, counts_ok, tags_ok, unique_ok, names_ok, sums_ok, TaskRow, Counts, Rows, InRange}
use Rattle.plan_writing.proofs.Ground.{counts_facts, tags_kept, Edition, format_of, laid, tasks_at, resources_at, sections_at, names_at}
use Rattle.plan_writing.proofs.Ground.{section_numbers, resource_numbers, task_at, task_spare, start_at, length_at, resource_spare}
use Rattle.plan_writing.proofs.Ground.{section_at, task_rows, length_rows, section_rows, parts_code, values_tests, faithful, task_read}
use Rattle.plan_writing.proofs.Ground.{length_read, section_read, header_bytes, task_bytes, resource_bytes, section_bytes, file_length}
use Rattle.plan_writing.proofs.Ground.{file_of, header_length_lem}
use Rattle.folds.proofs.Ground.{false, and-true, true≢false, []}
use Rattle.folds.proofs.Tests.{all_from, is_not_true}
use Rattle.plan_rules.specs.Rules.{task_ok, section_ok, tasks_ok, sections_ok, tests_code}
use Rattle.plan_layout.specs.Layout.{section_in, task_rows_ok, length_rows_ok, section_rows_ok, file_code}
use Rattle.plan_writing.proofs.Same.{unique_same, sums_same, names_same, Stand, rows_length, rows_stand}

-- the numbers in row i of each group
abbrev pub task_width : Edition → Rows → ℕ → List ℕ
task_width e rows i = (format_of e).task_numbers (task_of rows.tasks i)

abbrev pub resource_width : Rows → ℕ → List ℕ
resource_width rows i = resource_numbers (start_of rows.lengths i) (length_of rows.lengths i)

abbrev pub section_width : Rows → ℕ → List ℕ
section_width rows i = section_numbers (section_of rows.sections i)

-- number j of a row
abbrev pub at : ℕ → List ℕ → ℕ
at j v = get_or v j 0

-- the rows of these values stand at their places in f
pub record RowsIn (f : List ℕ) (c : Counts) (rows : Rows) : Type 0 where
  pub task : Stand (format_of (laid c)).task (task_width (laid c) rows) c.tasks f (tasks_at c)
  pub resource : Stand (format_of (laid c)).resource (resource_width rows) c.resources f (resources_at c)
  pub section : Stand (format_of (laid c)).section (section_width rows) c.sections f (sections_at c)

-- the bytes of each group of rows
abbrev pub task_part : Counts → Rows → List ℕ
task_part c rows = bytes_below c.tasks (task_bytes (laid c) rows.tasks)

abbrev pub resource_part : Counts → Rows → List ℕ
resource_part c rows = bytes_below c.resources (resource_bytes (laid c) rows.lengths)

abbrev pub section_part : Counts → Rows → List ℕ
section_part c rows = bytes_below c.sections (section_bytes (laid c) rows.sections)

-- the header h, and the rows behind it
abbrev pub headed : List ℕ → Counts → Rows → List ℕ
headed h c rows = ((h ++ task_part c rows) ++ resource_part c rows) ++ section_part c rows

module _ (c : Counts) (rows : Rows) (h : List ℕ) (lh : length h ≡ tasks_at c) where
  tasks_end : length (h ++ task_part c rows) ≡ resources_at c
  unfolding task_bytes
  tasks_end = length-append h _ ∙ omega (arith, lh, rows_length (format_of (laid c)).task (task_width (laid c) rows) c.tasks)

  resources_end : length ((h ++ task_part c rows) ++ resource_part c rows) ≡ sections_at c
  unfolding resource_bytes
  resources_end = length-append (h ++ _) _ ∙ omega (arith, tasks_end, rows_length (format_of (laid c)).resource (resource_width rows) c.resources)

  pub sections_end : length (headed h c rows) ≡ names_at c
  unfolding section_bytes
  sections_end = length-append ((h ++ _) ++ _) _ ∙ omega (arith, resources_end, rows_length (format_of (laid c)).section (section_width rows) c.sections)

  -- whatever comes after them
  pub rows_in : (x : List ℕ) → RowsIn (headed h c rows ++ x) c rows
  unfolding task_bytes resource_bytes section_bytes
  rows_in x =
      let e = faithful (laid c) in
      let t : List ℕ = task_part c rows in
      let r : List ℕ = resource_part c rows in
      let s : List ℕ = section_part c rows in
      let f : List ℕ = headed h c rows ++ x in
      record {
        task =
            rows_stand (format_of (laid c)).task (task_width (laid c) rows) c.tasks f h (r ++ (s ++ x)) (tasks_at c)
            e.task_solid (λ i. e.task_long (task_of rows.tasks i)) (simp append_assoc) lh;
        resource =
            rows_stand (format_of (laid c)).resource (resource_width rows) c.resources f (h ++ t) (s ++ x) (resources_at c)
            e.resource_solid (λ i. e.resource_long) (simp append_assoc) tasks_end;
        section =
            rows_stand (format_of (laid c)).section (section_width rows) c.sections f ((h ++ t) ++ r) x (sections_at c)
            e.section_solid (λ i. e.section_long) (simp append_assoc) resources_end;
      }

-- a file in which the rows of values stand: its rows are theirs
module _ (f : List ℕ) (c : Counts) (rows : Rows) (h : RowsIn f c rows) where
  abbrev tasks : List ℕ
  tasks = drop (tasks_at c) f

  abbrev resources : List ℕ
  resources = drop (resources_at c) f

  abbrev sections : List ℕ
  sections = drop (sections_at c) f

  pub task_same : (i : ℕ) → i < c.tasks → task_at (laid c) tasks i ≡ task_of rows.tasks i
  unfolding task_at
  task_same i l = ap (format_of (laid c)).task_in (h.task i l) ∙ (faithful (laid c)).task_back (task_of rows.tasks i)

  pub length_same : (i : ℕ) → i < c.resources → length_at (laid c) resources i ≡ length_of rows.lengths i
  unfolding length_at
  length_same i l = ap (at 1) (h.resource i l)

  pub start_same : (i : ℕ) → i < c.resources → start_at (laid c) resources i ≡ start_of rows.lengths i
  unfolding start_at
  start_same i l = ap (at 0) (h.resource i l)

  pub section_same : (i : ℕ) → i < c.sections → section_at (laid c) sections i ≡ section_of rows.sections i
  unfolding section_at
  section_same i l = ap section_in (h.section i l)

  -- and each check of them says what the rule of the values says
  pub tasks_checked : task_rows_ok (laid c) c.tasks c.processors tasks ≡ tasks_ok c.tasks (format_of (laid c)).most_tag c.processors rows.tasks
  unfolding task_rows_ok tasks_ok task_spare
  tasks_checked =
      all_same c.tasks _ _
      (λ i l. ap₂ ◌&&◌ (ap (task_ok (format_of (laid c)).most_tag c.processors) (task_same i l))
      (eq-eqb _ _ (ap (format_of (laid c)).spare_in (h.task i l) ∙ (faithful (laid c)).spare_back (task_of rows.tasks i)))
      ∙ and-true _)

  pub starts_checked : length_rows_ok (laid c) c.resources resources ≡ true
  unfolding length_rows_ok resource_spare
  starts_checked =
      all_from c.resources _
      (λ i l. ap₂ ◌&&◌ (eq-eqb _ _ (start_same i l ∙ sym (sum_same i _ _ (λ j m. length_same j (omega arith)))))
      (eq-eqb _ _ (ap (at 2) (h.resource i l))))

  pub sections_checked : section_rows_ok (laid c) c.sections c.tasks c.resources sections
      ≡ sections_ok c.sections c.tasks c.resources rows.sections
  unfolding section_rows_ok sections_ok
  sections_checked = all_same c.sections _ _ (λ i l. ap (section_ok c.tasks c.resources) (section_same i l))

  module _ (g : InRange c) where
    task_loaded : (i : ℕ) → i < c.tasks → task_of (task_rows (laid c) c.tasks tasks) i ≡ task_of rows.tasks i
    task_loaded i l = task_read (laid c) c.tasks tasks i l g.tasks ∙ task_same i l

    pub unique_checked : unique_ok c.tasks (task_rows (laid c) c.tasks tasks) ≡ unique_ok c.tasks rows.tasks
    unique_checked = unique_same c.tasks _ _ task_loaded

    pub names_checked : (names : List ℕ)
        → names_ok c.resources (length_rows (laid c) c.resources resources) names ≡ names_ok c.resources rows.lengths names
    names_checked names =
        names_same c.resources _ _ (λ i l. length_read (laid c) c.resources resources i l g.resources ∙ length_same i l) names

    pub sums_checked : sums_ok c.tasks c.sections (task_rows (laid c) c.tasks tasks) (section_rows (laid c) c.sections sections)
        ≡ sums_ok c.tasks c.sections rows.tasks rows.sections
    sums_checked =
        sums_same c.tasks _ _ task_loaded c.sections _ _ (λ i l. section_read (laid c) c.sections sections i l g.sections ∙ section_same i l)

    parts_checked : (names : List ℕ) → file_code c f names ≡ tests_code (values_tests c rows names)
    unfolding parts_code
    parts_checked names =
        rw (tasks_checked, unique_checked, starts_checked, names_checked names, sections_checked, sums_checked)

-- the rows in a file of their own, with no names and with anything behind it, are checked as the values are
pub parts_values : (c : Counts) (rows : Rows) (names x : List ℕ) {f : List ℕ} → counts_ok c ≡ true → f ≡ file_of c rows [] ++ x
    → file_code c f names ≡ tests_code (values_tests c rows names)
unfolding file_of
parts_values c rows names x {f} ok e =
    let h : List ℕ = header_bytes c (file_length c []) in
    let whole : f ≡ headed h c rows ++ x = e ∙ append_assoc (headed h c rows) [] x in
    rw whole (parts_checked (headed h c rows ++ x) c rows (rows_in c rows h (header_length_lem c (file_length c [])) x) (counts_facts c ok) names)

-- a tag that a row has no room for breaks 5
pub tags_fail : (n most p : ℕ) (tasks : List TaskRow) → tags_ok n most tasks ≡ false → tasks_ok n most p tasks ≡ false
tags_fail n most p tasks e = is_not_true _ (λ k. true≢false (sym (tags_kept n most p tasks k) ∙ e))
