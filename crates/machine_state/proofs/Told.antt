-- A sound state is told by what it shows: each row of a resource, and each row of a task.
use Rattle.machine_state.proofs.Ground.{ℕ, zero, suc, ◌+◌, ◌<◌, ◌≤◌, Bool, true, false, cond, not, ◌≡◌, refl, sym, ap, ◌∙◌, ⊎_elim}
use Rattle.machine_state.proofs.Ground.{◌≢◌, List, eqb, leb, length, arith, eq-eqb, ne_eqb, lt-ltb, le-ltb, le-leb, lt-leb}
use Rattle.machine_state.proofs.Ground.{most_processors, most_tasks, most_resources, max_below, all_from, find_none, max_at, on_eq}
use Rattle.machine_state.proofs.Ground.{on_le, find_is, Plan, Valid, processor_of, hold_at, queue_of, View, list_from, task_ranked}
use Rattle.machine_state.proofs.Ground.{turn_of, queue_from, list_length, task_rank, full, sole, Standing, LineRow, State, no_standing}
use Rattle.machine_state.proofs.Ground.{no_line, none_in_line, standing, line_at, slot, rank, shows, sound, slot_of, line_of, resource_of}
use Rattle.machine_state.proofs.Ground.{standing_of, state_of}
use Rattle.queue_rules.specs.Rules.{in_line, tasks_of, ahead_of}
use Rattle.queue_ranks.proofs.Lists.{list_get}
use Rattle.queue_ranks.proofs.Reading.{tasks_in, in_line_lem, out_line}
use Rattle.machine_state.specs.Shows.{in_line_at}
use Rattle.machine_state.specs.Rows.{place_of}
use Rattle.machine_state.proofs.Good.{Good, Whole}
use Rattle.machine_state.proofs.Wholes.{row_same, rank_own, hold_task, hold_resource, whole_of}

-- two rows of a resource that agree in what the struct has room for
pub record SameRow (a b : LineRow) : Type 0 where
  pub queued : a.queued ≡ b.queued
  pub slots : (j : ℕ) → j < most_processors → slot a j ≡ slot b j
  pub hold : a.hold_left ≡ b.hold_left
  pub budget : a.budget_left ≡ b.budget_left

-- ── the slots of a queue over ranks ──
module _ (n : ℕ) (R : ℕ → ℕ → ℕ) (g : ℕ → ℕ) where
  slot_there : (c a x j : ℕ) → x ≡ a + j → j < c → slot_of (list_from c a (λ i. turn_of n R (g i))) j ≡ g x
  unfolding list_from
  slot_there zero a x j e l = let bad : ⊥ = omega arith in absurd bad
  slot_there (suc c) a x zero e l = let same : a ≡ x = omega arith in ap g same
  slot_there (suc c) a x (suc j) e l = slot_there c (suc a) x j (omega arith) (omega arith)

  slot_none : (c a j : ℕ) → c ≤ j → slot_of (list_from c a (λ i. turn_of n R (g i))) j ≡ 255
  unfolding list_from
  slot_none zero a j l = refl
  slot_none (suc c) a zero l = let bad : ⊥ = omega arith in absurd bad
  slot_none (suc c) a (suc j) l = slot_none c (suc a) j (omega arith)

-- ── the tasks ahead of i, which stands at j and not before ──
ahead_from : (i : ℕ) (f : ℕ → ℕ) (c a j : ℕ) → a ≤ j → j < a + c → f j ≡ i → ((k : ℕ) → k < j → a ≤ k → f k ≢ i)
    → length (ahead_of i (list_from c a f)) + a ≡ j
unfolding list_from
ahead_from i f zero a j b l e h = let bad : ⊥ = omega arith in absurd bad
ahead_from i f (suc c) a j b l e h =
    on_eq (length (ahead_of i (list_from (suc c) a f)) + a ≡ j) a j
    (λ z. rw (eq-eqb (f a) i (ap f z ∙ e)) (omega arith))
    (λ z. rw (ne_eqb (f a) i (h a (omega arith) (omega arith)))
    (omega (arith, ahead_from i f c (suc a) j (omega arith) (omega arith) e (λ k x y. h k x (omega arith)))))

module _ (p : Plan) (v : Valid p) (s : State) (w : Whole p s) where
  -- ── the row of a resource ──
  line_told : (q : ℕ) → q < most_resources → SameRow (line_at s q) (line_of ((shows p s).lines q))
  unfolding shows
  line_told q l =
      let row = line_at s q in
      let ranks = rank p s.tasks q in
      let queue = queue_from p.tasks ranks row.queued (slot row) in
      record {
        queued = sym (list_length row.queued 0 (λ i. turn_of p.tasks ranks (slot row i)));
        slots = λ j b. on_le (slot row j ≡ slot_of queue j) row.queued j
            (λ a. (w.lines q l).rest j a b ∙ sym (slot_none p.tasks ranks (slot row) row.queued 0 j a))
            (λ a. sym (slot_there p.tasks ranks (slot row) row.queued 0 j j (omega arith) a))
            ∙ sym (list_get most_processors 0 j j (slot_of queue) 0 (omega arith) b);
        hold = refl;
        budget = refl;
      }

  -- ── the row of a task ──
  -- the tasks of processor k in line for q
  pub ahead_list : (q k : ℕ) → q < most_resources
      → tasks_of k (queue_of ((shows p s).lines q)) ≡ list_from (max_below p.tasks (rank p s.tasks q k)) 1 (task_ranked p.tasks (rank p s.tasks q k))
  unfolding shows
  ahead_list q k l = tasks_in (w.lines q l).queued k

  -- in line for q are exactly the tasks whose row names q
  pub stands_is : (i : ℕ) → i < p.tasks → (q : ℕ) → q < p.resources → in_line i ((shows p s).lines q) ≡ eqb (standing s.tasks i).resource q
  unfolding shows rank
  stands_is i lt q l =
      let g : Good p s.tasks q (line_at s q) = w.lines q (omega (arith, v.resources)) in
      in_line_lem g.ranked g.queued i lt ∙ rw (eq-eqb (processor_of p i) (processor_of p i) refl) (go (eqb (standing s.tasks i).resource q))
    where
      go : (b : Bool) → leb 1 (cond b ((standing s.tasks i).place + 1) 0) ≡ b
      go true = le-leb 1 ((standing s.tasks i).place + 1) (omega arith)
      go false = lt-leb 1 0 (omega arith)

  -- and no number past the last task
  stands_not : (i : ℕ) → p.tasks ≤ i → (q : ℕ) → q < p.resources → in_line i ((shows p s).lines q) ≡ false
  unfolding shows
  stands_not i past q l =
      let g : Good p s.tasks q (line_at s q) = w.lines q (omega (arith, v.resources)) in
      out_line g.ranked g.queued i past

  module _ (i : ℕ) where
    abbrev row : Standing
    row = standing s.tasks i

    -- a task in line
    pub place_is : i < p.tasks → row.resource < most_resources → place_of p (shows p s) i row.resource ≡ row.place
    place_is lt l =
        let k = processor_of p i in
        let ranks : ℕ → ℕ = rank p s.tasks row.resource k in
        let r = (w.lines row.resource l).ranked in
        let own : ranks i ≡ row.place + 1 = rank_own p s.tasks i in
        let most : row.place + 1 ≤ max_below p.tasks ranks = omega (arith, max_at p.tasks i ranks lt) in
        let at : task_ranked p.tasks ranks (row.place + 1) ≡ i = rw (← own) (sole r k i lt (omega arith)) in
        let count = ahead_from i (task_ranked p.tasks ranks) (max_below p.tasks ranks) 1 (row.place + 1) (omega arith) (omega arith) at
        (λ j b a e. omega (arith, ap ranks e, task_rank p.tasks j ranks (full r k j a (omega arith)))) in
        ap (λ (us : List ℕ). length (ahead_of i us)) (ahead_list row.resource k l) ∙ omega (arith, count)

    row_in : 1 ≤ hold_at p i row.resource → row ≡ standing_of p (shows p s) i
    unfolding standing_of resource_of
    row_in h =
        let lt = hold_task p v i row.resource h in
        let l = hold_resource p v i row.resource h in
        let found = find_is p.resources row.resource (λ q. in_line i ((shows p s).lines q)) l
        (stands_is i lt row.resource l ∙ eq-eqb row.resource _ refl)
        (λ q b. stands_is i lt q (omega arith) ∙ ne_eqb row.resource q (λ e. omega arith)) in
        rw (found, lt-ltb row.resource p.resources l)
        (row_same row (in_line_at row.resource (place_of p (shows p s) i row.resource)) refl (sym (place_is lt (omega (arith, v.resources)))))

    row_out : row ≡ none_in_line → row ≡ standing_of p (shows p s) i
    unfolding standing_of resource_of
    row_out e =
        let away : (q : ℕ) → q < p.resources → row.resource ≢ q = λ q b z. omega (arith, ap (λ (r : Standing). r.resource) e, v.resources) in
        let none = find_none p.resources (λ q. in_line i ((shows p s).lines q))
        (all_from p.resources (λ q. not (in_line i ((shows p s).lines q)))
        (λ q b. ap not (on_le (in_line i ((shows p s).lines q) ≡ false) p.tasks i (λ past. stands_not i past q b)
        (λ lt. stands_is i lt q b ∙ ne_eqb row.resource q (away q b))))) in
        rw (none, le-ltb p.resources p.resources (omega arith)) e

    row_told : i < most_tasks → row ≡ standing_of p (shows p s) i
    row_told l = ⊎_elim row_out row_in (w.rows i l)

-- ── the whole state ──
-- the rows of the state that some lines tell
module _ (p : Plan) (s : View) where
  pub line_at_lem : (q : ℕ) → q < most_resources → line_at (state_of p s) q ≡ line_of (s.lines q)
  line_at_lem q l = list_get most_resources 0 q q (λ r. line_of (s.lines r)) no_line (omega arith) l

  pub standing_at : (i : ℕ) → i < most_tasks → standing (state_of p s).tasks i ≡ standing_of p s i
  standing_at i l = list_get most_tasks 0 i i (standing_of p s) no_standing (omega arith) l

-- two states that agree in all rows that the struct has room for
pub record SameRows (s t : State) : Type 0 where
  pub lines : (q : ℕ) → q < most_resources → SameRow (line_at s q) (line_at t q)
  pub tasks : (i : ℕ) → i < most_tasks → standing s.tasks i ≡ standing t.tasks i

-- what a sound state shows tells all of it
pub rows_told : (p : Plan) → Valid p → (s : State) → sound p s ≡ true → SameRows s (state_of p (shows p s))
rows_told p v s h =
    let w = whole_of p v s h in
    record {
      lines = λ q l. rw (line_at_lem p (shows p s) q l) (line_told p v s w q l);
      tasks = λ i l. row_told p v s w i l ∙ sym (standing_at p (shows p s) i l);
    }
