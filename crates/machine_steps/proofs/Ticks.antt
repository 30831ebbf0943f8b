-- A tick: the state after it shows what the rules make of what it showed, and is sound; and the two words of its answer.
use Rattle.machine_steps.proofs.Ground.{ℕ, zero, suc, ◌-◌, ◌<◌, ◌≤◌, Bool, true, false, ◌&&◌, and-false, ◌≡◌, refl, sym, ap, ap₂}
use Rattle.machine_steps.proofs.Ground.{◌∙◌, ◌≢◌, List, eqb, ltb, arith, eqb-true, eq-eqb, ne_eqb, lt-ltb, any_below, word_below}
use Rattle.machine_steps.proofs.Ground.{and_parts, same_test, any_at, any_out, word_same, each_at, Plan, Valid, terms, held}
use Rattle.machine_steps.proofs.Ground.{regranted, list_from, queue_from, LineRow, State, no_line, line_at, slot, rank, shown_line, shows}
use Rattle.machine_steps.proofs.Ground.{queue_at, Good, Whole, on_eq, same_eqb, passed, stepped, cuts_holder, lost_queue, ended_of}
use Rattle.machine_steps.proofs.Ground.{stepped_lines, cut_word, grant_word}
use Rattle.folds.proofs.EachLaws.{each_length}
use Rattle.queue_rules.specs.Rules as Rules
use Rattle.queue_ranks.proofs.Leave.{tick_none, tick_some}
use Rattle.queue_ranks.proofs.LeaveKeeps.{tick_timed}
use Rattle.machine_steps.specs.Inner.{ticked_by}
use Rattle.machine_steps.proofs.Ready.{Tabled, low_slot}
use Rattle.machine_steps.proofs.Falling.{mark, Ended, ended_by, ranks_leave, ranks_stay, rows_after}
use Rattle.machine_steps.proofs.Marks.{cut_queued}
use Rattle.machine_steps.proofs.Shown.{Shown, shown_as, stays_shown, past_row, past_shows, all_shown}
use Rattle.machine_steps.proofs.Passed.{passed_shown}

on_test : (A : Type 0) (b : Bool) → (b ≡ true → A) → (b ≡ false → A) → A
on_test A true f g = f refl
on_test A false f g = g refl

-- a line is cut where one tick of the hold is left, and held where somebody is queued
cut_line : (n : ℕ) (R : ℕ → ℕ → ℕ) (c : ℕ) (g : ℕ → ℕ) (h b : ℕ) → (1 ≤ c → 1 ≤ h)
    → (ltb 0 c && eqb h 1) ≡ Rules.cut (Rules.line h b (queue_from n R c g))
unfolding list_from
cut_line n R zero g h b some = refl
cut_line n R (suc c) g h b some =
    let a : 1 ≤ h = some (omega arith) in rw (lt-ltb 0 (suc c) (omega arith)) (same_eqb h 1 (h - 1) 0 (λ e. omega arith) (λ e. omega arith))

held_line : (n : ℕ) (R : ℕ → ℕ → ℕ) (c : ℕ) (g : ℕ → ℕ) (h b : ℕ) → ltb 0 c ≡ held (Rules.line h b (queue_from n R c g))
unfolding list_from
held_line n R zero g h b = refl
held_line n R (suc c) g h b = lt-ltb 0 (suc c) (omega arith)

module _ (p : Plan) (v : Valid p) (s : State) (w : Whole p s) where
  abbrev key : ℕ → ℕ
  key = lost_queue s.lines

  key_mark : (q : ℕ) → q < 16 → mark (cuts_holder (line_at s q)) ≡ mark (ltb (key q) 128)
  key_mark q lq =
      on_test (mark (cuts_holder (line_at s q)) ≡ mark (ltb (key q) 128)) (cuts_holder (line_at s q))
      (λ e. rw (e, lt-ltb (queue_at (slot (line_at s q) 0) q) 128 (omega (arith, low_slot p v s w q 0 lq (cut_queued (line_at s q) e))))) (λ e. rw e)

  key_at_lem : (k q : ℕ) → k < 8 → q < 16 → any_below 16 (λ r. eqb (key r) (queue_at k q)) ≡ (cuts_holder (line_at s q) && eqb (slot (line_at s q) 0) k)
  key_at_lem k q lk lq =
      same_test _ _
      (λ a. any_out 16 (λ r. eqb (key r) (queue_at k q)) _ a (λ r lr e. out r lr (eqb-true _ _ e)))
      (λ a. let b = and_parts (cuts_holder (line_at s q)) (eqb (slot (line_at s q) 0) k) a in
      any_at 16 q (λ r. eqb (key r) (queue_at k q)) lq (eq-eqb (key q) (queue_at k q) (rw (b.0, eqb-true (slot (line_at s q) 0) k b.1))))
    where
      out : (r : ℕ) → r < 16 → key r ≡ queue_at k q → (cuts_holder (line_at s q) && eqb (slot (line_at s q) 0) k) ≡ true
      out r lr e =
          on_test ((cuts_holder (line_at s q) && eqb (slot (line_at s q) 0) k) ≡ true) (cuts_holder (line_at s r))
          (λ c. let f : queue_at (slot (line_at s r) 0) r ≡ queue_at k q = rw c at e in
          let low : slot (line_at s r) 0 < 8 = low_slot p v s w r 0 lr (cut_queued (line_at s r) c) in
          let i : r ≡ q = omega arith in
          let h : slot (line_at s r) 0 ≡ k = omega arith in
          rw (← i, c) (eq-eqb _ k h))
          (λ c. let f : 128 ≡ queue_at k q = rw c at e in let bad : ⊥ = omega arith in absurd bad)

  ended : Ended s (λ q. cuts_holder (line_at s q)) (ended_of s.lines)
  unfolding ended_of
  ended = ended_by s (λ q. cuts_holder (line_at s q)) 16 key (λ q. mark (cuts_holder (line_at s q))) key_mark key_at_lem

module _ (p : Plan) (v : Valid p) (s : State) (w : Whole p s) {figures keys seats : List ℕ} (t : Tabled p s figures keys seats) where
  abbrev T : State
  T = ticked_by figures keys seats s

  -- ── the line of q ──
  module _ (q : ℕ) (lq : q < 16) where
    abbrev l : LineRow
    l = line_at s q

    -- with a tick less of both
    abbrev less : LineRow
    less = record { queued = l.queued; queue = l.queue; hold_left = l.hold_left - 1; budget_left = l.budget_left - 1 }

    -- what the rules make of it
    abbrev next : Rules.Line
    next = Rules.ticked (terms p q) (shown_line p s.tasks q l)

    tick_free : l.queued ≡ 0 → Shown p T.tasks q l next
    tick_free e =
        let on : cuts_holder l ≡ false = rw e in
        shown_as (stays_shown p s.tasks T.tasks q l (ranks_stay p v s w t (ended p v s w) q lq on) (w.lines q lq))
        (sym (tick_none p.tasks (terms p q) (rank p s.tasks q) l.queued (slot l) l.hold_left l.budget_left e))

    tick_cut : 1 ≤ l.queued → l.hold_left ≡ 1 → Shown p T.tasks q (passed figures seats q less) next
    tick_cut a e =
        let on : cuts_holder l ≡ true = rw (lt-ltb 0 l.queued a) (eq-eqb l.hold_left 1 e) in
        shown_as
        (passed_shown p v s w t T.tasks q lq a (ranks_leave p v s w t (ended p v s w) q lq on) (l.hold_left - 1) (l.budget_left - 1)
        (omega (arith, ((w.lines q lq).timed.runs a).3)))
        (sym (tick_some p.tasks (terms p q) (rank p s.tasks q) l.queued (slot l) l.hold_left l.budget_left a
        ∙ rw (eq-eqb (l.hold_left - 1) 0 (omega arith))))

    tick_on : 1 ≤ l.queued → l.hold_left ≢ 1 → Shown p T.tasks q less next
    tick_on a n =
        let g : Good p s.tasks q l = w.lines q lq in
        let some : 2 ≤ l.hold_left = omega (arith, (g.timed.runs a).0) in
        let on : cuts_holder l ≡ false = rw (ne_eqb l.hold_left 1 n) (and-false (ltb 0 l.queued)) in
        shown_as
        (stays_shown p s.tasks T.tasks q less (ranks_stay p v s w t (ended p v s w) q lq on)
        (record { small = g.small; ranked = g.ranked; queued = g.queued; rest = g.rest; timed = tick_timed g.timed a some }))
        (sym (tick_some p.tasks (terms p q) (rank p s.tasks q) l.queued (slot l) l.hold_left l.budget_left a
        ∙ rw (ne_eqb (l.hold_left - 1) 0 (λ e. omega arith))))

    ticked_shown : Shown p T.tasks q (line_at T q) (Rules.ticked (terms p q) ((shows p s).lines q))
    unfolding stepped stepped_lines shows
    ticked_shown =
        rw (each_at no_line (λ q l. stepped figures seats q l) 16 q s.lines lq (omega (arith, t.lines_long)))
        (on_eq (Shown p T.tasks q (stepped figures seats q l) (Rules.ticked (terms p q) ((shows p s).lines q))) l.queued 0
        (λ e. rw (eq-eqb l.queued 0 e) (tick_free e))
        (λ n. on_eq (Shown p T.tasks q (stepped figures seats q l) (Rules.ticked (terms p q) ((shows p s).lines q))) l.hold_left 1
        (λ e. rw (ne_eqb l.queued 0 n, eq-eqb l.hold_left 1 e) (tick_cut (omega arith) e))
        (λ m. rw (ne_eqb l.queued 0 n, ne_eqb l.hold_left 1 m) (tick_on (omega arith) m))))

  pub ticked_whole : Whole p (ticked_by figures keys seats s)
  ticked_whole = record { rows = rows_after p v s w t (ended p v s w); lines = λ q lq. (ticked_shown q lq).good }

  pub ticked_shows : shows p (ticked_by figures keys seats s) ≡ record { lines = λ q. Rules.ticked (terms p q) ((shows p s).lines q) }
  unfolding stepped_lines
  ticked_shows =
      all_shown p T (λ q. Rules.ticked (terms p q) ((shows p s).lines q)) ticked_shown
      (λ q a. let long = each_length no_line (λ q l. stepped figures seats q l) 16 s.lines ∙ t.lines_long in
      past_shows p T q (past_row T long q a) ∙ rw (past_shows p s q (past_row s t.lines_long q a)))

  -- ── the words ──
  ends_cuts : (q : ℕ) → q < 16 → cuts_holder (line_at s q) ≡ Rules.cut ((shows p s).lines q)
  unfolding shows
  ends_cuts q lq =
      let l : LineRow = line_at s q in
      cut_line p.tasks (rank p s.tasks q) l.queued (slot l) l.hold_left l.budget_left (λ a. ((w.lines q lq).timed.runs a).0)

  pub cut_word_lem : cut_word s.lines ≡ word_below 16 (λ q. Rules.cut ((shows p s).lines q))
  unfolding cut_word
  cut_word_lem = word_same 16 (λ q. cuts_holder (line_at s q)) (λ q. Rules.cut ((shows p s).lines q)) ends_cuts

  pub grant_word_lem : grant_word s.lines (ticked_by figures keys seats s).lines ≡ word_below 16 (regranted p (shows p s))
  unfolding grant_word
  grant_word_lem = word_same 16 _ (regranted p (shows p s)) (λ q lq. ap₂ ◌&&◌ (ends_cuts q lq) (holding q lq))
    where
      holding : (q : ℕ) → q < 16 → ltb 0 (line_at (ticked_by figures keys seats s) q).queued ≡ held (Rules.ticked (terms p q) ((shows p s).lines q))
      holding q lq =
          let l : LineRow = line_at (ticked_by figures keys seats s) q in
          held_line p.tasks (rank p (ticked_by figures keys seats s).tasks q) l.queued (slot l) l.hold_left l.budget_left
          ∙ ap held (ticked_shown q lq).shows
