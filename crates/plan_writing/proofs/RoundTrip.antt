-- Demand 2: a file and the values that it holds. Both round trips go by what the file has at each place.
use Rattle.plan_writing.proofs.Ground.{ℕ, ◌+◌, ◌<◌, ◌≡◌, refl, sym, ap, ap₂, ◌∙◌, List, ◌++◌, append_assoc, length, get_or, take, drop}
use Rattle.plan_writing.proofs.Ground.{length-append, length-drop, drop_at, arith, le-leb, eq-eqb, most_resources, row_at, row_bytes}
use Rattle.plan_writing.proofs.Ground.{Bytes, solid, length_of, start_of, names_ok, Counts, Rows, InRange, counts_facts, Edition}
use Rattle.plan_writing.proofs.Ground.{format_of, laid, counts_of, tasks_at, resources_at, sections_at, names_at, section_numbers}
use Rattle.plan_writing.proofs.Ground.{resource_numbers, task_at, task_spare, start_at, length_at, resource_spare, section_at, task_rows}
use Rattle.plan_writing.proofs.Ground.{length_rows, section_rows, parts_code, rows_of, names_of, faithful, task_read, length_read}
use Rattle.plan_writing.proofs.Ground.{section_read, whole_facts, refusal, none_failed, header_bytes, task_bytes, resource_bytes}
use Rattle.plan_writing.proofs.Ground.{section_bytes, file_length, file_of, header_length_lem, trimmed}
use Rattle.folds.proofs.Ground.{subst, replicate, take-append-drop, drop-drop, lt-ltb, le-ltb}
use Rattle.sizes.specs.Sizes.{most_tasks, most_sections}
use Rattle.folds.proofs.Arrays.{placed_same}
use Rattle.folds.proofs.RowLaws.{fields_back, fields_forth}
use Rattle.plan_rules.specs.Rules.{no_task, no_section}
use Rattle.plan_layout.specs.Editions.{Format}
use Rattle.plan_layout.specs.Layout.{header_numbers, edition_in, header_in, counts_in, length_said, offsets_ok}
use Rattle.plan_layout.proofs.Laws.{header_parts, start_read, task_kept, resource_kept, tasks_kept, sections_kept}
use Rattle.plan_reading.specs.Checks.{counts_code, header_code, check_code}
use Rattle.plan_reading.specs.Plan.{name_part}
use Rattle.plan_reading.proofs.Laws.{Header, Whole}
use Rattle.plan.specs.Reading.{name_refusal, name_of}
use Rattle.plan_writing.specs.RoundTrip.{name_in, SameFile, WrittenThenRead, ReadThenWritten}
use Rattle.plan_writing.proofs.Same.{Kept, kept_facts, kept_code, rows_joined}
use Rattle.plan_writing.proofs.Values.{task_width, resource_width, section_width, at, RowsIn, task_part, resource_part, section_part}
use Rattle.plan_writing.proofs.Values.{headed, sections_end, rows_in, task_same, length_same, start_same, section_same}
use Rattle.plan_writing.proofs.Values.{tasks_checked, unique_checked, starts_checked, names_checked, sections_checked, sums_checked}

-- the file f has the numbers of these values at their places, and ends with the names
pub record Holds (f : List ℕ) (c : Counts) (rows : Rows) (names : List ℕ) : Type 0 where
  pub size : length f ≡ file_length c names
  pub header : header_in f ≡ header_numbers c (file_length c names)
  pub stand : RowsIn f c rows
  pub rest : drop (names_at c) f ≡ names

-- the file of values holds them
pub file_holds : (c : Counts) (rows : Rows) (names : List ℕ) → Holds (file_of c rows names) c rows names
unfolding file_of header_bytes header_in solid
file_holds c rows names =
    let v : List ℕ = header_numbers c (file_length c names) in
    let h : List ℕ = header_bytes c (file_length c names) in
    let rest : List ℕ = task_part c rows ++ (resource_part c rows ++ (section_part c rows ++ names)) in
    let lh : length h ≡ tasks_at c = header_length_lem c (file_length c names) in
    let behind : headed h c rows ++ names ≡ h ++ rest = simp append_assoc in
    record {
      size = length-append (headed h c rows) names ∙ omega (arith, sections_end c rows h lh);
      header = rw behind (fields_back (format_of (laid c)).header v rest refl refl);
      stand = rows_in c rows h lh names;
      rest = drop_at (headed h c rows) names (names_at c) (sections_end c rows h lh);
    }

-- a file that holds values of its own counts: its rows are theirs
module _ (f : List ℕ) (rows : Rows) (names : List ℕ) (h : Holds f (counts_of f) rows names) where
  rows_held : rows_of f ≡ trimmed (counts_of f) rows
  unfolding trimmed task_rows length_rows section_rows
  rows_held =
      let t = placed_same _ _ _ (replicate most_tasks no_task) (task_same f (counts_of f) rows h.stand) in
      let l = placed_same _ _ _ (replicate most_resources 0) (length_same f (counts_of f) rows h.stand) in
      let s = placed_same _ _ _ (replicate most_sections no_section) (section_same f (counts_of f) rows h.stand) in
      λ i. record { tasks = t i; lengths = l i; sections = s i }

  -- the part of it that is a name is that name of theirs
  name_held : (r : ℕ) → r < (counts_of f).resources → name_part f r ≡ name_in rows.lengths names r
  unfolding name_part
  name_held r l =
      let start : ℕ = start_of rows.lengths r in
      let behind : drop (names_at (counts_of f) + start) f ≡ drop start names =
      sym (drop-drop start (names_at (counts_of f)) f) ∙ ap (λ (x : List ℕ). drop start x) h.rest in
      rw (length_same f (counts_of f) rows h.stand r l, start_same f (counts_of f) rows h.stand r l)
      (ap (λ (x : List ℕ). take (length_of rows.lengths r) x) behind)

  -- and it passes every check where they keep their rules
  header_held : Kept (counts_of f) rows names → Header f
  unfolding length_said
  header_held k =
      let field : (j : ℕ) → at j (header_in f) ≡ at j (header_numbers (counts_of f) (file_length (counts_of f) names)) = λ j. ap (at j) h.header in
      record {
        long = omega (arith, h.size);
        whole = field 9 ∙ sym h.size;
        edition = k.edition;
        counts = k.counts;
        ranges = counts_facts (counts_of f) k.counts;
        tasks_at_lem = field 5;
        resources_at_lem = field 6;
        sections_at_lem = field 7;
        names_at_lem = field 8;
        ends = omega (arith, h.size);
      }

  whole_held : Kept (counts_of f) rows names → Whole f
  whole_held k =
      let c : Counts = counts_of f in
      let g : InRange c = counts_facts c k.counts in
      let t = k.tests in
      record {
        header = header_held k;
        tasks = tasks_checked f c rows h.stand ∙ t.tasks;
        unique = unique_checked f c rows h.stand g ∙ t.unique;
        starts = starts_checked f c rows h.stand;
        names = names_checked f c rows h.stand g (names_of f) ∙ ap (names_ok c.resources rows.lengths) h.rest ∙ t.names;
        sections = sections_checked f c rows h.stand ∙ t.sections;
        sums = sums_checked f c rows h.stand g ∙ t.sums;
      }

-- a file that passes every check is not refused
header_read : (f : List ℕ) → Header f → header_code f ≡ 0
unfolding header_code counts_code offsets_ok
header_read f h =
    rw (
      le-ltb _ _ h.long,
      eq-eqb _ _ h.whole,
      h.edition,
      h.counts,
      eq-eqb _ _ h.tasks_at_lem,
      eq-eqb _ _ h.resources_at_lem,
      eq-eqb _ _ h.sections_at_lem,
      eq-eqb _ _ h.names_at_lem,
      le-leb _ _ h.ends,
    )

whole_read : (f : List ℕ) → Whole f → refusal f ≡ 0
unfolding refusal check_code parts_code
whole_read f w =
    rw (header_read f w.header, w.tasks, w.unique, w.starts, w.names, w.sections, w.sums)

-- the question for the name of a resource of such a file is answered
name_clear : (f : List ℕ) (r : ℕ) → refusal f ≡ 0 → r < (counts_of f).resources → name_refusal f r ≡ 0
unfolding name_refusal
name_clear f r e l = rw (e, lt-ltb _ _ l)

name_given : (f : List ℕ) (r : ℕ) → refusal f ≡ 0 → r < (counts_of f).resources → name_of f r ≡ name_part f r
unfolding name_of
name_given f r e l = rw (name_clear f r e l)

-- a file has the counts of the values that it holds
counts_held : (f : List ℕ) (c : Counts) (rows : Rows) (names : List ℕ) → Holds f c rows names → counts_of f ≡ c
unfolding counts_of
counts_held f c rows names h = ap counts_in h.header

pub written_then_read : WrittenThenRead
written_then_read c rows names e =
    let f : List ℕ = file_of c rows names in
    let counts : counts_of f ≡ c = counts_held f c rows names (file_holds c rows names) in
    let h : Holds f (counts_of f) rows names = subst (λ (k : Counts). Holds f k rows names) (sym counts) (file_holds c rows names) in
    let k : Kept (counts_of f) rows names = subst (λ (k : Counts). Kept k rows names) (sym counts) (kept_facts c rows names e) in
    let none : refusal f ≡ 0 = whole_read f (whole_held f rows names h k) in
    let below : (r : ℕ) → r < c.resources → r < (counts_of f).resources = λ r l. omega (arith, ap (λ (k : Counts). k.resources) counts) in
    record {
      accepted = none;
      counts = counts;
      rows_read = rows_held f rows names h ∙ ap (λ (k : Counts). trimmed k rows) counts;
      names_read = h.rest;
      name_answered = λ r l. name_clear f r none (below r l);
      name_read = λ r l. name_given f r none (below r l) ∙ name_held f rows names h r (below r l);
    }

-- the numbers of a row that passed its check are those of what is read from it
module _ (e : Edition) (part : List ℕ) (i : ℕ) where
  task_row_lem : task_spare e part i ≡ 0 → row_at (format_of e).task part i ≡ (format_of e).task_numbers (task_at e part i)
  unfolding task_spare task_at
  task_row_lem z = (faithful e).task_forth part i z

  resource_row : resource_spare e part i ≡ 0 → row_at (format_of e).resource part i ≡ resource_numbers (start_at e part i) (length_at e part i)
  unfolding resource_spare start_at length_at
  resource_row z = (faithful e).resource_forth part i z

  section_row_lem : row_at (format_of e).section part i ≡ section_numbers (section_at e part i)
  unfolding section_at
  section_row_lem = (faithful e).section_forth part i

-- a file that passes every check holds the values that are read from it
read_holds : (f : List ℕ) → Whole f → Holds f (counts_of f) (rows_of f) (names_of f)
read_holds f w =
    let h : Header f = w.header in
    let c : Counts = counts_of f in
    let e : Edition = edition_in f in
    let g : InRange c = h.ranges in
    let tasks : List ℕ = drop (tasks_at c) f in
    let resources : List ℕ = drop (resources_at c) f in
    let sections : List ℕ = drop (sections_at c) f in
    let size : length f ≡ file_length c (names_of f) = omega (arith, length-drop (names_at c) f, h.ends) in
    record {
      size = size;
      header = header_parts f ∙ rw (h.tasks_at_lem, h.resources_at_lem, h.sections_at_lem, h.names_at_lem, h.whole, size);
      stand = record {
        task = λ i l.
            task_row_lem e tasks i (task_kept e c.tasks tasks c.processors i w.tasks l).spare
            ∙ ap (format_of e).task_numbers (sym (task_read e c.tasks tasks i l g.tasks));
        resource = λ i l.
            let row = resource_kept e c.resources resources i w.starts l in
            resource_row e resources i row.spare
            ∙ ap₂ resource_numbers (row.start ∙ sym (start_read e c.resources resources i (omega arith) g.resources))
            (sym (length_read e c.resources resources i l g.resources));
        section = λ i l. section_row_lem e sections i ∙ ap section_numbers (sym (section_read e c.sections sections i l g.sections));
      };
      rest = refl;
    }

-- and they keep every rule
read_kept : (f : List ℕ) → Whole f → Kept (counts_of f) (rows_of f) (names_of f)
read_kept f w =
    let c : Counts = counts_of f in
    let g : InRange c = w.header.ranges in
    record {
      edition = w.header.edition;
      counts = w.header.counts;
      tests = record {
        tasks = tasks_kept (laid c) c.tasks (drop (tasks_at c) f) c.processors g.tasks w.tasks;
        unique = w.unique;
        names = w.names;
        sections = sections_kept (laid c) c.sections (drop (sections_at c) f) c.tasks c.resources g.sections ∙ w.sections;
        sums = w.sums;
      };
    }

-- a file of bytes is the file of what it holds
holds_file : (f : List ℕ) (c : Counts) (rows : Rows) (names : List ℕ) → Bytes f → Holds f c rows names → file_of c rows names ≡ f
unfolding file_of header_bytes header_in task_bytes resource_bytes section_bytes
holds_file f c rows names b h =
    let form : Format = format_of (laid c) in
    let head : header_bytes c (file_length c names) ≡ take (tasks_at c) f =
    ap (row_bytes form.header) (sym h.header) ∙ fields_forth form.header f 0 b (omega (arith, h.size)) in
    let tasks =
    rows_joined form.task (task_width (laid c) rows) c.tasks f (tasks_at c) (resources_at c) b
    h.stand.task (omega arith) (omega (arith, h.size)) head in
    let resources =
    rows_joined form.resource (resource_width rows) c.resources f (resources_at c) (sections_at c) b
    h.stand.resource (omega arith) (omega (arith, h.size)) tasks in
    let sections =
    rows_joined form.section (section_width rows) c.sections f (sections_at c) (names_at c) b
    h.stand.section (omega arith) (omega (arith, h.size)) resources in
    ap₂ ◌++◌ sections (sym h.rest) ∙ take-append-drop (names_at c) f

pub read_then_written : ReadThenWritten
read_then_written f b e =
    let w : Whole f = whole_facts f (none_failed f e) in
    record {
      accepted = kept_code (counts_of f) (rows_of f) (names_of f) (read_kept f w);
      file = holds_file f (counts_of f) (rows_of f) (names_of f) b (read_holds f w);
    }

-- so the names of the values that are read are those that the question for names gives
pub names_of_values : (f : List ℕ) → ((i : ℕ) → get_or f i 0 < 256) → refusal f ≡ 0
    → (r : ℕ) → r < (counts_of f).resources → name_of f r ≡ name_in (rows_of f).lengths (names_of f) r
names_of_values f b e r l =
    let s : SameFile f = read_then_written f b e in
    subst (λ (g : List ℕ). name_of g r ≡ name_in (rows_of f).lengths (names_of f) r) s.file
    ((written_then_read (counts_of f) (rows_of f) (names_of f) s.accepted).name_read r l)
