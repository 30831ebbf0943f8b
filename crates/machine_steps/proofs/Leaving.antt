-- The holder of a line leaves: the state after it shows what the rule makes of what it showed, and is sound.
use Rattle.machine_steps.proofs.Ground.{ℕ, zero, suc, ◌+◌, ◌-◌, ◌<◌, ◌≤◌, Bool, false, cond, ◌&&◌, and-false, ◌≡◌, refl, sym, ap}
use Rattle.machine_steps.proofs.Ground.{◌∙◌, List, eqb, get_or, set, get_or-set_same, get_or-set_other, arith, eq-eqb, ne_eqb, lt-ltb}
use Rattle.machine_steps.proofs.Ground.{any_below, by_eq, stamped_below, Plan, Valid, change, terms, release_answer, list_from}
use Rattle.machine_steps.proofs.Ground.{task_ranked, queue_from, LineRow, State, no_line, line_at, slot, rank, shows, queue_at, seat}
use Rattle.machine_steps.proofs.Ground.{Seats, Whole, same_eqb, full, Leaves, no_marks, passed}
use Rattle.folds.proofs.Ground.{and-true}
use Rattle.folds.proofs.Arrays.{cell_eqb}
use Rattle.queue_rules.specs.Rules as Rules
use Rattle.machine_rules.specs.declared.Answer.TheVariants.{Next, Free}
use Rattle.queue_ranks.proofs.Reading.{holds_none, holds_first}
use Rattle.machine_steps.specs.Inner.{left_by}
use Rattle.machine_steps.proofs.Ready.{Tabled, low_slot, seat_taken}
use Rattle.machine_steps.proofs.Falling.{Ended, ended_by, ranks_leave, ranks_stay, rows_after}
use Rattle.machine_steps.proofs.Shown.{Changes, changed_whole, changed_shows}
use Rattle.machine_steps.proofs.Passed.{first_after, passed_shown}

-- who holds: nobody where nobody is queued, else who sits first
pub holder_none : (p : Plan) (s : State) (q i : ℕ) → (line_at s q).queued ≡ 0 → Rules.holds i ((shows p s).lines q) ≡ false
unfolding shows
holder_none p s q i e =
    let l : LineRow = line_at s q in holds_none p.tasks (rank p s.tasks q) i l.queued (slot l) l.hold_left l.budget_left e

module _ (p : Plan) (v : Valid p) (s : State) (w : Whole p s) (q : ℕ) (lq : q < 16) (held : 1 ≤ (line_at s q).queued) where
  pub head_low : slot (line_at s q) 0 < 8
  head_low = low_slot p v s w q 0 lq held

  pub holder_seat_lem : {seats : List ℕ} → Seats p s.tasks seats → (i : ℕ)
      → Rules.holds i ((shows p s).lines q) ≡ eqb (get_or seats (seat q (slot (line_at s q) 0) 0) 0) (i + 1)
  unfolding shows
  holder_seat_lem {seats} t i =
      let g : LineRow = line_at s q in
      let seated : get_or seats (seat q (slot g 0) 0) 0 ≡ task_ranked p.tasks (rank p s.tasks q (slot g 0)) 1 + 1 =
      seat_taken p v s w t q (slot g 0) lq head_low 0 ((w.lines q lq).queued.served 0 held) in
      holds_first p.tasks (rank p s.tasks q) i g.queued (slot g) g.hold_left g.budget_left held
      ∙ same_eqb (task_ranked p.tasks (rank p s.tasks q (slot g 0)) 1) i _ (i + 1) (λ e. omega arith) (λ e. omega arith)

module _ (p : Plan) (v : Valid p) (s : State) (w : Whole p s) {figures keys seats : List ℕ} (t : Tabled p s figures keys seats) where
  module _ (q : ℕ) (lq : q < 16) (held : 1 ≤ (line_at s q).queued) where
    -- ── the state after it ──
    abbrev L : State
    L = left_by figures keys seats q s

    -- one queue loses its first
    abbrev gone : ℕ
    gone = queue_at (slot (line_at s q) 0) q

    ended : Ended s (eqb q) (set no_marks gone 1)
    unfolding stamped_below any_below
    ended =
        ended_by s (eqb q) 1 (λ i. gone) (λ i. 1) (λ i l. rw (lt-ltb gone 128 (omega (arith, head_low p v s w q lq held))))
        (λ k r lk lr. cell_eqb 8 (slot (line_at s q) 0) k q r (head_low p v s w q lq held) lk ∙ both k r)
      where
        both : (k r : ℕ) → (eqb (slot (line_at s q) 0) k && eqb q r) ≡ (eqb q r && eqb (slot (line_at s r) 0) k)
        both k r =
            by_eq (λ (b : Bool). (eqb (slot (line_at s q) 0) k && b) ≡ (b && eqb (slot (line_at s r) 0) k)) q r
            (λ e. rw (← e) (and-true (eqb (slot (line_at s q) 0) k))) (λ n. and-false (eqb (slot (line_at s q) 0) k))

    leaves : Leaves p.tasks (rank p s.tasks q) (rank p L.tasks q) (slot (line_at s q) 0)
    leaves = ranks_leave p v s w t ended q lq (eq-eqb q q refl)

    changes : Changes p s L q (Rules.released (terms p q))
    unfolding shows
    changes =
        let own = passed_shown p v s w t L.tasks q lq held leaves (line_at s q).hold_left (line_at s q).budget_left
        ((w.lines q lq).timed.runs held).3 in
        record {
          lines_long = t.lines_long;
          resource = lq;
          line = rw (get_or-set_same s.lines q (passed figures seats q (line_at s q)) no_line (omega (arith, t.lines_long))) own;
          others = λ r n. get_or-set_other s.lines q r (passed figures seats q (line_at s q)) no_line n;
          ranks = λ r lr n. ranks_stay p v s w t ended r lr (ne_eqb q r (λ e. n (sym e)));
          rows = rows_after p v s w t ended;
        }

    pub left_whole : Whole p (left_by figures keys seats q s)
    left_whole = changed_whole w changes

    pub left_shows : shows p (left_by figures keys seats q s) ≡ record { lines = change (shows p s).lines q (Rules.released (terms p q)) }
    left_shows = changed_shows w changes

    -- ── the answer ──
    -- the line after it, who is granted next, and the first task of its head
    abbrev after : LineRow
    after = line_at L q

    abbrev granted : ℕ
    granted = get_or seats (seat q (slot after 0) (cond (eqb (slot after 0) (slot (line_at s q) 0)) 1 0)) 0

    abbrev first : ℕ
    first = task_ranked p.tasks (rank p L.tasks q (slot after 0)) 1

    next_first : 1 ≤ after.queued → granted ≡ first + 1
    next_first a =
        first_after p v s w t L.tasks q lq held leaves (slot after 0) (low_slot p v L left_whole q 0 lq a)
        ((left_whole.lines q lq).queued.served 0 a)

    pub next_seat : 1 ≤ after.queued → (slot after 0 < 8) × (1 ≤ granted) × (granted ≤ p.tasks)
    next_seat a =
        let g = left_whole.lines q lq in
        let l : first < p.tasks = full g.ranked (slot after 0) 1 (omega arith) (g.queued.served 0 a) in
        (low_slot p v L left_whole q 0 lq a, omega (arith, next_first a), omega (arith, next_first a))

    pub next_told : release_answer p (Rules.released (terms p q) ((shows p s).lines q)) ≡ cond (eqb after.queued 0) Free (Next (p.task (granted - 1)).tag)
    unfolding shows list_from
    next_told =
        ap (release_answer p) (sym changes.line.shows)
        ∙ told p.tasks (rank p L.tasks q) after.queued (slot after) after.hold_left after.budget_left granted next_first
      where
        told : (n : ℕ) (S : ℕ → ℕ → ℕ) (c : ℕ) (g : ℕ → ℕ) (h b x : ℕ) → (1 ≤ c → x ≡ task_ranked n (S (g 0)) 1 + 1)
            → release_answer p (Rules.line h b (queue_from n S c g)) ≡ cond (eqb c 0) Free (Next (p.task (x - 1)).tag)
        told n S zero g h b x e = refl
        told n S (suc c) g h b x e =
            let u : x - 1 ≡ task_ranked n (S (g 0)) 1 = omega (arith, e (omega arith)) in rw (ne_eqb (suc c) 0 (λ i. omega arith), u)
