-- States that agree in all rows that the struct has room for, and in the list of their tasks, are sound together and show the same.
use Rattle.image.proofs.Ground.{ℕ, ◌<◌, ◌≡◌, sym, ap, ◌∙◌, List, length, arith, fun_ext, on_le, most_resources, Plan}
use Rattle.image.proofs.Ground.{queue_from, turn_of, list_same, State, line_at, no_line, slot, rank, shows}
use Rattle.image.proofs.Ground.{Good, Whole, SameRow, SameRows}
use Rattle.folds.proofs.Ground.{List·getD-eq-default}
use Rattle.queue_rules.specs.Rules as Rules
use Rattle.queue_rules.specs.Rules.{Turn}
use Rattle.queue_ranks.proofs.Ranked.{At}
use Rattle.machine_state.specs.Shows.{shown_line}

module _ (p : Plan) (s t : State) (rows : SameRows s t) (tasks : s.tasks ≡ t.tasks) (w : Whole p s) where
  slots : (q : ℕ) → q < most_resources → (j : ℕ) → j < (line_at t q).queued → slot (line_at t q) j ≡ slot (line_at s q) j
  slots q l j b = sym ((rows.lines q l).slots j (omega (arith, (w.lines q l).small, (rows.lines q l).queued)))

  good : (q : ℕ) → q < most_resources → Good p t.tasks q (line_at t q)
  good q l =
      let e : SameRow (line_at s q) (line_at t q) = rows.lines q l in
      let g : Good p s.tasks q (line_at s q) = w.lines q l in
      let n = e.queued in
      let at : (j : ℕ) → j < (line_at t q).queued → slot (line_at t q) j ≡ slot (line_at s q) j = slots q l in
      rw (← tasks)
      (record {
        small = omega (arith, n, g.small);
        ranked = g.ranked;
        queued = record {
          placed = λ i b. rw (at i b) (g.queued.placed i (omega arith));
          served = λ i b. rw (at i b) (g.queued.served i (omega arith));
          once = λ i j a b f. g.queued.once i j (omega arith) (omega arith) (sym (at i a) ∙ f ∙ at j b);
          stands = λ k a. let x : At (line_at s q).queued (slot (line_at s q)) k = g.queued.stands k a in
              record { index = x.index; within = omega (arith, x.within); is = at x.index (omega (arith, x.within)) ∙ x.is };
        };
        rest = λ i a b. sym (e.slots i b) ∙ g.rest i (omega arith) b;
        timed = record {
          idle = λ z. let x = g.timed.idle (omega arith) in (sym e.hold ∙ x.0, sym e.budget ∙ x.1);
          runs = λ a. rw (at 0 (omega arith), ← e.hold, ← e.budget) (g.timed.runs (omega arith));
        };
      })

  pub same_whole : Whole p t
  same_whole = record { rows = rw (← tasks) w.rows; lines = good }

  -- what they show
  shown_line_lem : (q : ℕ) → q < most_resources → shown_line p t.tasks q (line_at t q) ≡ shown_line p s.tasks q (line_at s q)
  shown_line_lem q l =
      let e : SameRow (line_at s q) (line_at t q) = rows.lines q l in
      let R = rank p s.tasks q in
      let x : queue_from p.tasks R (line_at t q).queued (slot (line_at t q)) ≡ queue_from p.tasks R (line_at t q).queued (slot (line_at s q)) =
      list_same (line_at t q).queued 0 (λ i. turn_of p.tasks R (slot (line_at t q) i)) (λ i. turn_of p.tasks R (slot (line_at s q) i))
      (λ i a b. ap (turn_of p.tasks R) (slots q l i (omega arith))) in
      rw (← tasks, e.queued, e.hold, e.budget)
      (ap (λ (y : List Turn). Rules.line (line_at t q).hold_left (line_at t q).budget_left y) x)

  pub same_shown : length s.lines ≡ most_resources → length t.lines ≡ most_resources → shows p t ≡ shows p s
  unfolding shows
  same_shown a b =
      ap (λ (ls : ℕ → Rules.Line). record { lines = ls })
      (fun_ext (λ q. on_le (shown_line p t.tasks q (line_at t q) ≡ shown_line p s.tasks q (line_at s q)) most_resources q
      (λ l. rw (List·getD-eq-default s.lines no_line {n = q} (rw a l), List·getD-eq-default t.lines no_line {n = q} (rw b l), ← tasks))
      (λ l. shown_line_lem q l)))
