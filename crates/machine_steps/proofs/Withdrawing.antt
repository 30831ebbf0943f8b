-- A waiting task leaves its queue: the state after it shows what the rule makes of what it showed, and is sound.
use Rattle.machine_steps.proofs.Ground.{ℕ, suc, ◌+◌, ◌-◌, ◌/◌, ◌<◌, ◌≤◌, Bool, true, false, cond, ◌≡◌, refl, sym, ap, ap₂}
use Rattle.machine_steps.proofs.Ground.{◌∙◌, ◌≢◌, ◌⊎◌, inl, inr, ⊎_elim, List, eqb, get_or, set, get_or-set_same, get_or-set_other, arith}
use Rattle.machine_steps.proofs.Ground.{eq-eqb, eqb-true, ne_eqb, lt-ltb, max_below, max_at, any_at, by_eq, on_eq, on_le}
use Rattle.machine_steps.proofs.Ground.{each_at, Plan, Valid, processor_of, hold_at, terms, change, LineRow, Standing}
use Rattle.machine_steps.proofs.Ground.{State, no_line, no_standing, none_in_line, moved_up, standing, line_at, slot, rank, shows, shown_line}
use Rattle.machine_steps.proofs.Ground.{queue_at, seat, Good, Whole, hold_resource, low_processor, replicate}
use Rattle.machine_steps.proofs.Ground.{besides, closed, closed_up, dropped, withdrawn_lines}
use Rattle.folds.proofs.Ground.{add-one, le-ltb, length-replicate, get_or-replicate}
use Rattle.folds.proofs.Tests.{any_none}
use Rattle.folds.proofs.Arrays.{placed_at, placed_later}
use Rattle.queue_rules.specs.Rules as Rules
use Rattle.queue_ranks.proofs.Ranked.{At}
use Rattle.queue_ranks.proofs.Reading.{Waiting, waits}
use Rattle.queue_ranks.proofs.Drop.{Drops, withdrawn_stays, withdrawn_goes}
use Rattle.queue_ranks.proofs.DropKeeps.{drop_ranked, stays_queued, goes_queued, drop_timed, goes_behind}
use Rattle.machine_state.proofs.Tables.{Stands, rank_in}
use Rattle.machine_state.proofs.Wholes.{rank_of_lem, rank_none, hold_task}
use Rattle.machine_steps.specs.Inner.{Withdrawing, withdrawn_by}
use Rattle.machine_steps.proofs.Ready.{Tabled, seat_taken, seat_empty}
use Rattle.machine_steps.proofs.Falling.{key_queue, key_none}
use Rattle.machine_steps.proofs.Joins.{rank_away}
use Rattle.machine_steps.proofs.Shown.{Shown, Changes, changed_whole, changed_shows}

-- ── a row of the queue that a task in this place leaves: it is that task's, is behind it, or is ahead of it ──
module _ (j : ℕ) (r : Standing) where
  closed_own : r.place ≡ j → closed true j r ≡ none_in_line
  unfolding closed
  closed_own e = simp (eq-eqb r.place j e)

  closed_behind : j < r.place → closed true j r ≡ moved_up r
  unfolding closed
  closed_behind a = simp (ne_eqb r.place j (λ e. omega arith), lt-ltb j r.place a)

  closed_ahead : r.place < j → closed true j r ≡ r
  unfolding closed
  closed_ahead a = simp (ne_eqb r.place j (λ e. omega arith), le-ltb j r.place (omega arith))

  closed_cases : (P : Standing → Type 0) → P none_in_line → P (moved_up r) → P r → P (closed true j r)
  closed_cases P own behind ahead =
      on_le (P (closed true j r)) r.place j
      (λ a. on_eq (P (closed true j r)) r.place j (λ e. rw (closed_own e) own) (λ n. rw (closed_ahead (omega arith)) ahead))
      (λ a. rw (closed_behind a) behind)

-- ── a queue without the processor in slot a ──
module _ (l : LineRow) (k a : ℕ) (at : slot l a ≡ k) (once : (j : ℕ) → j < a → slot l j ≢ k) where
  drop_before : (j : ℕ) → j < a → j < 7 → slot (dropped l k) j ≡ slot l j
  unfolding dropped
  drop_before j b s =
      placed_at 7 j (besides l.queue k) (replicate 8 255) 0 s (rw length-replicate (omega arith))
      ∙ rw (any_none (j + 1) (λ i. eqb (slot l i) k) (λ i c. ne_eqb (slot l i) k (once i (omega arith))))

  drop_after : (j : ℕ) → a ≤ j → j < 7 → slot (dropped l k) j ≡ slot l (suc j)
  unfolding dropped
  drop_after j b s =
      placed_at 7 j (besides l.queue k) (replicate 8 255) 0 s (rw length-replicate (omega arith))
      ∙ rw (any_at (j + 1) a (λ i. eqb (slot l i) k) (omega arith) (eq-eqb (slot l a) k at), add-one)

  drop_rest : (c : ℕ) → a < c → ((j : ℕ) → c ≤ j → j < 8 → slot l j ≡ 255) → (j : ℕ) → c - 1 ≤ j → j < 8 → slot (dropped l k) j ≡ 255
  unfolding dropped
  drop_rest c b rest j d s =
      on_eq (slot (dropped l k) j ≡ 255) j 7
      (λ e. rw e (placed_later 7 7 (besides l.queue k) (replicate 8 255) 0 (omega arith) ∙ get_or-replicate 8 7 255 0 (omega arith)))
      (λ n. drop_after j (omega arith) (omega arith) ∙ rest (suc j) (omega arith) (omega arith))

module _ (p : Plan) (v : Valid p) (s : State) (w : Whole p s) {figures keys seats : List ℕ} (t : Tabled p s figures keys seats)
    (q i : ℕ) (lq : q < 16) (lt : i < p.tasks) (waiting : Rules.waiting i ((shows p s).lines q) ≡ true) where
  abbrev k : ℕ
  k = processor_of p i

  abbrev place : ℕ
  place = (standing s.tasks i).place

  abbrev after : List Standing
  after = closed_up keys (queue_at k q) place s.tasks

  abbrev R : ℕ → ℕ → ℕ
  R = rank p s.tasks q

  abbrev l : LineRow
  l = line_at s q

  -- the line as it was; i has a rank in it, and another holds
  was : Good p s.tasks q l
  was = w.lines q lq

  low : k < 8
  low = low_processor p v i lt

  x : Waiting p.tasks (terms p q) R l.queued (slot l) i
  unfolding shows
  x = waits was.ranked was.queued i lt l.hold_left l.budget_left waiting

  own : Stands (standing s.tasks i) k q k (R k i - 1)
  own = rank_of_lem p s.tasks q k i x.stood

  -- what the code relies on
  pub withdraw_ready : Withdrawing keys seats q i (processor_of p i) s
  withdraw_ready = record {
    keys_long = t.keys_at.long;
    seats_long = t.seats_at.long;
    resource = lq;
    task = omega (arith, v.tasks);
    core = low;
    some = x.held;
  }

  -- ── the rows ──
  -- the key of row u names the queue that i leaves
  abbrev closing : ℕ → Bool
  closing u = eqb (get_or keys u 0 / 64) (queue_at k q)

  row : (u : ℕ) → u < 64 → standing after u ≡ closed (closing u) place (standing s.tasks u)
  unfolding closed_up
  row u b = each_at no_standing (λ u r. closed (closing u) place r) 64 u s.tasks b (omega (arith, t.tasks_long))

  -- u stands in it
  record Inside (u : ℕ) : Type 0 where
    core : processor_of p u ≡ k
    resource : (standing s.tasks u).resource ≡ q

  row_in : (u : ℕ) → u < p.tasks → Inside u → standing after u ≡ closed true place (standing s.tasks u)
  row_in u b y =
      let key : get_or keys u 0 / 64 ≡ queue_at k q =
      key_queue p v s w t u b (omega (arith, y.resource)) ∙ ap₂ queue_at y.core y.resource in
      row u (omega (arith, v.tasks)) ∙ ap (λ (d : Bool). closed d place (standing s.tasks u)) (eq-eqb _ _ key)

  closing_in : (u : ℕ) → u < 64 → closing u ≡ true → Inside u
  closing_in u b e =
      let key : get_or keys u 0 / 64 ≡ queue_at k q = eqb-true _ _ e in
      ⊎_elim
      (λ none. let bad : ⊥ = omega (arith, key_none p v s w t u b none, low) in absurd bad)
      (λ h. let lu = hold_task p v u _ h in
      let there = key_queue p v s w t u lu (omega (arith, v.resources, hold_resource p v u _ h)) in
      let small = low_processor p v u lu in
      record { core = omega (arith, low); resource = omega (arith, low) })
      (w.rows u b)

  -- a row that stays, or is closed up
  by_row : (C : Type 0) (u : ℕ) → u < 64 → (standing after u ≡ standing s.tasks u → C)
      → (Inside u → standing after u ≡ closed true place (standing s.tasks u) → C) → C
  unfolding closed
  by_row C u b kept changed = go (closing u) refl
    where
      row_as : {d : Bool} → closing u ≡ d → standing after u ≡ closed d place (standing s.tasks u)
      row_as e = row u b ∙ ap (λ (d : Bool). closed d place (standing s.tasks u)) e

      go : (d : Bool) → closing u ≡ d → C
      go true e = changed (closing_in u b e) (row_as e)
      go false e = kept (row_as e)

  -- ── the ranks ──
  rank_kept : (u : ℕ) → standing after u ≡ standing s.tasks u → (r m : ℕ) → rank p after r m u ≡ rank p s.tasks r m u
  unfolding rank
  rank_kept u e r m = rw e

  drops : Drops p.tasks R (rank p after q) k i
  drops = record {
    inside = lt;
    stood = x.stood;
    out = let gone = row_in i lt (record { core = refl; resource = own.resource }) ∙ closed_own place (standing s.tasks i) refl in
        rank_away p after q k i (λ e. omega (arith, lq, ap (λ (r : Standing). r.resource) gone));
    ahead = λ u b a. by_row (rank p after q k u ≡ R k u) u (omega (arith, v.tasks)) (λ e. rank_kept u e q k)
        (λ y e. let at : R k u ≡ (standing s.tasks u).place + 1 =
        rank_in p s.tasks q k (standing s.tasks u).place u (record { core = y.core; resource = y.resource; place = refl }) in
        rank_kept u (e ∙ closed_ahead place (standing s.tasks u) (omega (arith, own.place))) q k);
    behind = λ u b a. let y = rank_of_lem p s.tasks q k u (omega arith) in
        let e = row_in u b (record { core = y.core; resource = y.resource })
        ∙ closed_behind place (standing s.tasks u) (omega (arith, own.place, y.place, x.stood)) in
        rank_in p after q k (R k u - 1 - 1) u (record {
          core = y.core;
          resource = ap (λ (r : Standing). r.resource) e ∙ y.resource;
          place = ap (λ (r : Standing). r.place) e ∙ ap (λ (j : ℕ). j - 1) y.place;
        }) ∙ omega (arith, x.stood);
    kept = λ m u n b. by_row (rank p after q m u ≡ R m u) u (omega (arith, v.tasks)) (λ e. rank_kept u e q m)
        (λ y _. let away : m ≢ processor_of p u = λ e. n (e ∙ y.core) in rank_none p after q m u away ∙ sym (rank_none p s.tasks q m u away));
  }

  ranks_kept : (r : ℕ) → r < 16 → r ≢ q → (m u : ℕ) → u < p.tasks → rank p s.tasks r m u ≡ rank p after r m u
  ranks_kept r lr n m u b =
      by_row (rank p s.tasks r m u ≡ rank p after r m u) u (omega (arith, v.tasks)) (λ e. sym (rank_kept u e r m))
      (λ y e. let was : (standing s.tasks u).resource ≢ r = λ z. n (sym z ∙ y.resource) in
      rank_away p s.tasks r m u was
      ∙ sym (rank_away p after r m u (rw e (closed_cases place (standing s.tasks u) (λ z. z.resource ≢ r) (λ z. omega arith) was was))))

  rows_kept : (u : ℕ) → u < 64 → (standing after u ≡ none_in_line) ⊎ (1 ≤ hold_at p u (standing after u).resource)
  rows_kept u b =
      by_row (Fits (standing after u)) u b (λ e. rw e (w.rows u b))
      (λ y e. ⊎_elim (λ none. let bad : ⊥ = omega (arith, lq, y.resource, ap (λ (r : Standing). r.resource) none) in absurd bad)
      (λ h. rw e (closed_cases place (standing s.tasks u) Fits (inl refl) (inr h) (inr h))) (w.rows u b))
    where
      Fits : Standing → Type 0
      Fits r = (r ≡ none_in_line) ⊎ (1 ≤ hold_at p u r.resource)

  -- ── the line ──
  abbrev ruled : Rules.Line
  ruled = Rules.withdrawn i (shown_line p s.tasks q l)

  -- its processor has another task
  stays : 2 ≤ max_below p.tasks (R k) → Shown p after q l ruled
  stays a = record {
    good = record {
      small = was.small;
      ranked = drop_ranked drops was.ranked;
      queued = stays_queued drops was.ranked was.queued a;
      rest = was.rest;
      timed = drop_timed drops was.ranked was.timed x.held x.held refl x.behind;
    };
    shows = sym (withdrawn_stays drops was.ranked was.queued x.held x.behind l.hold_left l.budget_left a);
  }

  -- it has none, and goes
  goes : max_below p.tasks (R k) ≤ 1 → Shown p after q (dropped l k) ruled
  unfolding dropped
  goes a =
      let at : At l.queued (slot l) k = was.queued.stands k (omega (arith, x.stood, max_at p.tasks i (R k) lt)) in
      let some : 1 ≤ at.index = goes_behind drops was.ranked (slot l) at.index x.behind a at.is in
      let once : (j : ℕ) → j < at.index → slot l j ≢ k =
      λ j b e. omega (arith, was.queued.once j at.index (omega (arith, at.within)) at.within (e ∙ sym at.is)) in
      let before : (j : ℕ) → j < at.index → slot (dropped l k) j ≡ slot l j =
      λ j b. drop_before l k at.index at.is once j b (omega (arith, at.within, was.small)) in
      let behind : (j : ℕ) → at.index ≤ j → j < l.queued - 1 → slot (dropped l k) j ≡ slot l (suc j) =
      λ j b c. drop_after l k at.index at.is once j b (omega (arith, was.small)) in
      record {
        good = record {
          small = omega (arith, was.small);
          ranked = drop_ranked drops was.ranked;
          queued = goes_queued drops was.ranked at.index (slot (dropped l k)) was.queued a at.within at.is before behind;
          rest = drop_rest l k at.index at.is once l.queued at.within was.rest;
          timed = drop_timed drops was.ranked was.timed x.held (omega (arith, at.within)) (before 0 some) x.behind;
        };
        shows = sym (withdrawn_goes drops was.ranked was.queued x.held x.behind l.hold_left l.budget_left
            at.index (slot (dropped l k)) a at.within at.is before behind);
      }

  -- ── the whole state ──
  abbrev L : State
  L = withdrawn_by keys seats q i k s

  line_goes : max_below p.tasks (R k) ≤ 1 → line_at L q ≡ dropped l k
  unfolding withdrawn_lines
  line_goes a =
      rw (seat_empty p v s w t.seats_at q k lq low 1 a (omega arith))
      (get_or-set_same s.lines q (dropped l k) no_line (omega (arith, t.lines_long)))

  line_stays : 2 ≤ max_below p.tasks (R k) → line_at L q ≡ l
  unfolding withdrawn_lines
  line_stays a = simp (ne_eqb (get_or seats (seat q k 1) 0) 0 (λ e. omega (arith, seat_taken p v s w t.seats_at q k lq low 1 a)))

  line_after_lem : Shown p after q (line_at L q) ruled
  line_after_lem =
      on_le (Shown p after q (line_at L q) ruled) 2 (max_below p.tasks (R k))
      (λ a. rw (line_stays a) (stays a)) (λ a. rw (line_goes (omega arith)) (goes (omega arith)))

  changes : Changes p s L q (Rules.withdrawn i)
  unfolding shows withdrawn_lines
  changes = record {
    lines_long = t.lines_long;
    resource = lq;
    line = line_after_lem;
    others = λ r n. by_eq (λ (b : Bool). get_or (cond b (set s.lines q (dropped l k)) s.lines) r no_line ≡ line_at s r)
        (get_or seats (seat q k 1) 0) 0 (λ e. get_or-set_other s.lines q r (dropped l k) no_line n) (λ e. refl);
    ranks = ranks_kept;
    rows = rows_kept;
  }

  pub withdrawn_whole : Whole p (withdrawn_by keys seats q i (processor_of p i) s)
  withdrawn_whole = changed_whole w changes

  pub withdrawn_shows : shows p (withdrawn_by keys seats q i (processor_of p i) s)
      ≡ record { lines = change (shows p s).lines q (Rules.withdrawn i) }
  withdrawn_shows = changed_shows w changes
