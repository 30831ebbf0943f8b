-- Task i joins the line of q: the state stays sound, and shows what the rule makes of that line.
use Rattle.machine_steps.proofs.Ground.{ℕ, ◌+◌, ◌<◌, ◌≤◌, Bool, cond, and-false, ◌≡◌, refl, sym, ap, ◌∙◌, ◌≢◌, ◌⊎◌, inr, List, eqb}
use Rattle.machine_steps.proofs.Ground.{length, get_or, set, List·getD-eq-default, get_or-set_same, get_or-set_other, arith, eq-eqb}
use Rattle.machine_steps.proofs.Ground.{ne_eqb, max_below, Plan, Valid, processor_of, hold_at, budget, terms, change, Standing, LineRow}
use Rattle.machine_steps.proofs.Ground.{State, no_standing, no_line, standing, line_at, slot, rank, shown_line, shows, none_in_line}
use Rattle.machine_steps.proofs.Ground.{in_line_at, Good, Whole, hold_within, by_eq, on_eq, on_le, Ranked, Timed, hold_resource}
use Rattle.machine_steps.proofs.Ground.{pushed, joined_lines}
use Rattle.folds.proofs.Ground.{add-one}
use Rattle.queue_rules.specs.Rules as Rules
use Rattle.queue_rules.specs.Rules.{entered}
use Rattle.queue_ranks.proofs.Ranked.{At, queued_few}
use Rattle.queue_ranks.proofs.Join.{Joins, enter_free, enter_new, enter_there}
use Rattle.queue_ranks.proofs.JoinKeeps.{join_ranked, join_queued, join_queued_new, join_timed, join_timed_new}
use Rattle.machine_state.proofs.Wholes.{rank_none}
use Rattle.machine_steps.specs.Inner.{joined}
use Rattle.machine_steps.proofs.Shown.{Shown, Changes, changed_whole, changed_shows}

-- a task has no rank for another resource than its row names
pub rank_away : (p : Plan) (ts : List Standing) (q k u : ℕ) → (standing ts u).resource ≢ q → rank p ts q k u ≡ 0
unfolding rank
rank_away p ts q k u n = rw (ne_eqb (standing ts u).resource q n, and-false)

-- how many fellows of task i are in line for q, and the state once it joined them
abbrev pub ahead_of : Plan → State → ℕ → ℕ → ℕ
ahead_of p s i q = max_below p.tasks (rank p s.tasks q (processor_of p i))

abbrev pub entering : Plan → State → ℕ → ℕ → State
entering p s i q = joined s q i (processor_of p i) (ahead_of p s i q) (hold_at p i q) (budget p (processor_of p i) q)

module _ (p : Plan) (v : Valid p) (s : State) (w : Whole p s) (len : length s.tasks ≡ 64) (wide : length s.lines ≡ 16) (i q : ℕ)
    (lt : i < p.tasks) (some : 1 ≤ hold_at p i q) (idle : standing s.tasks i ≡ none_in_line) where
  abbrev k : ℕ
  k = processor_of p i

  abbrev ahead : ℕ
  ahead = ahead_of p s i q

  abbrev after : List Standing
  after = (entering p s i q).tasks

  low : q < 16
  low = omega (arith, v.resources, hold_resource p v i q some)

  -- the row of i, before and after, and the others
  resource : (standing s.tasks i).resource ≡ 255
  resource = ap (λ (x : Standing). x.resource) idle

  row : standing after i ≡ in_line_at q ahead
  row = get_or-set_same s.tasks i (in_line_at q ahead) no_standing (omega (arith, v.tasks))

  row_other : (u : ℕ) → u ≢ i → standing after u ≡ standing s.tasks u
  row_other u n = get_or-set_other s.tasks i u (in_line_at q ahead) no_standing n

  joins : Joins p.tasks (terms p q) (rank p s.tasks q) (rank p after q) i
  unfolding rank
  joins =
      record {
        inside = lt;
        out = rank_away p s.tasks q k i (λ e. omega (arith, low, resource));
        new = rw (row, eq-eqb k k refl, eq-eqb q q refl) (add-one ahead);
        elsewhere = λ j ne. rank_none p after q j i ne ∙ sym (rank_none p s.tasks q j i ne);
        kept = λ j u _ d. rw (row_other u d);
      }

  -- ── the line of q ──
  abbrev l : LineRow
  l = line_at s q

  abbrev slots : List ℕ
  slots = set l.queue l.queued k

  -- with the task's processor at its tail
  abbrev entry : LineRow
  entry = pushed l k (hold_at p i q) (budget p k q)

  -- what the rule makes of it
  abbrev ruled : Rules.Line
  ruled = entered (terms p q) i (shown_line p s.tasks q l)

  was : Good p s.tasks q l
  was = w.lines q low

  ranked : Ranked p.tasks (terms p q) (rank p after q)
  ranked = join_ranked joins was.ranked some

  -- there is a slot for its processor, where that is not queued
  pub join_room : ahead_of p s i q ≡ 0 → (line_at s q).queued < 8
  join_room z =
      let next = join_queued_new joins more was.queued z (v.every_task_fits i lt).processor
      (λ j b. rw (ne_eqb j l.queued (λ e. omega arith))) (rw (eq-eqb l.queued l.queued refl)) in
      omega (arith, v.processors, queued_few next)
    where
      more : ℕ → ℕ
      more j = cond (eqb j l.queued) k (slot l j)

  -- its processor is queued
  there : 1 ≤ ahead → Shown p after q l ruled
  there a =
      let at : At l.queued (slot l) k = was.queued.stands k a in
      let held : 1 ≤ l.queued = omega (arith, at.within) in
      record {
        good = let timed = join_timed joins l.queued (slot l) was.queued was.timed held held refl in
            record { small = was.small; ranked = ranked; queued = join_queued joins was.queued a; rest = was.rest; timed = timed };
        shows = sym (enter_there joins l.queued (slot l) l.hold_left l.budget_left was.queued a);
      }

  -- its processor joins: in the slot of the tail stands 255, so it is there
  slot_same : (j : ℕ) → j < l.queued → get_or slots j 0 ≡ slot l j
  slot_same j b = get_or-set_other l.queue l.queued j k 0 (λ e. omega arith)

  slot_last : ahead ≡ 0 → get_or slots l.queued 0 ≡ k
  slot_last z =
      get_or-set_same l.queue l.queued k 0
      (on_le (l.queued < length l.queue) (length l.queue) l.queued
      (λ past. omega (arith, was.rest l.queued (omega arith) (join_room z), List·getD-eq-default l.queue 0 past)) (λ b. b))

  pushed_good : (h b : ℕ) → ahead ≡ 0
      → Timed p.tasks (terms p q) (rank p after q) (l.queued + 1) (λ j. get_or slots j 0) h b
      → Good p after q (record { queued = l.queued + 1; queue = slots; hold_left = h; budget_left = b })
  pushed_good h b z t =
      record {
        small = omega (arith, join_room z);
        ranked = ranked;
        queued = join_queued_new joins _ was.queued z (v.every_task_fits i lt).processor slot_same (slot_last z);
        rest = λ j a c. get_or-set_other l.queue l.queued j k 0 (λ e. omega arith) ∙ was.rest j (omega arith) c;
        timed = t;
      }

  -- a held line
  behind : ahead ≡ 0 → 1 ≤ l.queued
      → Shown p after q (record { queued = l.queued + 1; queue = slots; hold_left = l.hold_left; budget_left = l.budget_left }) ruled
  behind z a =
      record {
        good = pushed_good l.hold_left l.budget_left z
            (join_timed joins (l.queued + 1) _ was.queued was.timed a (omega arith) (slot_same 0 a));
        shows = sym (enter_new joins l.queued (slot l) _ l.hold_left l.budget_left a was.queued z slot_same (slot_last z));
      }

  -- a free one
  first : ahead ≡ 0 → l.queued ≡ 0
      → Shown p after q (record { queued = 1; queue = set l.queue 0 k; hold_left = hold_at p i q; budget_left = budget p k q }) ruled
  first z none =
      let last : get_or (set l.queue 0 k) 0 0 ≡ k = rw none at (slot_last z) in
      record {
        good = rw none at (pushed_good (hold_at p i q) (budget p k q) z
            (rw none (join_timed_new joins _ z last some (hold_within p i q lt))));
        shows = sym (enter_free joins l.queued (slot l) _ l.hold_left l.budget_left none z last);
      }

  joins_line : Shown p after q (line_at (entering p s i q) q) ruled
  unfolding joined_lines pushed
  joins_line =
      on_eq (Shown p after q (line_at (entering p s i q) q) ruled) ahead 0
      (λ z. rw (eq-eqb ahead 0 z, get_or-set_same s.lines q entry no_line (omega (arith, low)))
      (on_eq (Shown p after q entry ruled) l.queued 0
      (λ e. rw (eq-eqb l.queued 0 e) (first z e)) (λ n. rw (ne_eqb l.queued 0 n) (behind z (omega arith)))))
      (λ n. rw (ne_eqb ahead 0 n) (there (omega arith)))

  -- the ranks for the other lines stay
  apart_rank : (r : ℕ) → r < 16 → r ≢ q → (j u : ℕ) → u < p.tasks → rank p s.tasks r j u ≡ rank p after r j u
  unfolding rank
  apart_rank r lr n j u b =
      on_eq (rank p s.tasks r j u ≡ rank p after r j u) u i
      (λ e. rw e (rank_away p s.tasks r j i (λ f. omega (arith, resource))
      ∙ sym (rank_away p after r j i (λ f. n (sym f ∙ ap (λ (x : Standing). x.resource) row)))))
      (λ d. rw (row_other u d))

  -- ── the whole state ──
  changes : Changes p s (entering p s i q) q (entered (terms p q) i)
  unfolding shows joined_lines
  changes =
      record {
        lines_long = wide;
        resource = low;
        line = joins_line;
        others = λ r n. by_eq (λ (b : Bool). get_or (cond b (set s.lines q entry) s.lines) r no_line ≡ line_at s r) ahead 0
            (λ e. get_or-set_other s.lines q r entry no_line n) (λ e. refl);
        ranks = apart_rank;
        rows = λ u b. on_eq ((standing after u ≡ none_in_line) ⊎ (1 ≤ hold_at p u (standing after u).resource)) u i
            (λ e. rw (e, row) (inr some)) (λ n. rw (row_other u n) (w.rows u b));
      }

  pub joined_whole : Whole p (entering p s i q)
  joined_whole = changed_whole w changes

  pub joined_shows : shows p (entering p s i q) ≡ record { lines = change (shows p s).lines q (entered (terms p q) i) }
  joined_shows = changed_shows w changes
