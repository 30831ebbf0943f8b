-- What a step makes of a state: a line that is sound and shows what the rule makes of it, and the whole state once each line does.
use Rattle.machine_steps.proofs.Ground.{ℕ, ◌<◌, ◌≤◌, Bool, cond, ◌≡◌, refl, sym, ap, ◌∙◌, ◌≢◌, ◌⊎◌, List, length}
use Rattle.machine_steps.proofs.Ground.{List·getD-eq-default, arith, ne_eqb, by_eq, on_le, Plan, hold_at, Lines, terms, change}
use Rattle.machine_steps.proofs.Ground.{list_from, Standing, LineRow, State, no_line, none_in_line, standing, line_at, slot, rank}
use Rattle.machine_steps.proofs.Ground.{shown_line, shows, Good, Whole}
use Rattle.folds.proofs.Ground.{fun_ext}
use Rattle.queue_rules.specs.Rules as Rules
use Rattle.queue_ranks.proofs.Same.{same_ranked, same_queued, same_timed, same_queue}

-- ── a line ──
-- it is sound and shows m
pub record Shown (p : Plan) (ts : List Standing) (q : ℕ) (l : LineRow) (m : Rules.Line) : Type 0 where
  pub good : Good p ts q l
  pub shows : shown_line p ts q l ≡ m

pub shown_as : {p : Plan} {ts : List Standing} {q : ℕ} {l : LineRow} {m n : Rules.Line} → Shown p ts q l m → m ≡ n → Shown p ts q l n
shown_as y e = record { good = y.good; shows = y.shows ∙ e }

-- its ranks stay
pub stays_shown : (p : Plan) (ts us : List Standing) (q : ℕ) (l : LineRow) → ((k u : ℕ) → u < p.tasks → rank p ts q k u ≡ rank p us q k u)
    → Good p ts q l → Shown p us q l (shown_line p ts q l)
stays_shown p ts us q l same g =
    let R = rank p ts q in
    let S = rank p us q in
    record {
      good = record {
        small = g.small;
        ranked = same_ranked p.tasks (terms p q) R S same g.ranked;
        queued = same_queued p.tasks R S same l.queued p.processors (slot l) (slot l) (λ j a. refl) g.queued;
        rest = g.rest;
        timed = same_timed p.tasks R S same l.queued (terms p q) (slot l) (slot l) l.hold_left l.budget_left (λ j a. refl) g.timed;
      };
      shows = ap (Rules.line l.hold_left l.budget_left) (sym (same_queue p.tasks R S same l.queued (slot l)));
    }

-- ── the whole state ──
-- past the last row nobody is in line
pub past_row : (s : State) → length s.lines ≡ 16 → (r : ℕ) → 16 ≤ r → line_at s r ≡ no_line
past_row s e r a = List·getD-eq-default s.lines no_line {n = r} (omega arith)

pub past_shows : (p : Plan) (s : State) (r : ℕ) → line_at s r ≡ no_line → (shows p s).lines r ≡ Rules.free
unfolding shows list_from
past_shows p s r z = ap (shown_line p s.tasks r) z

-- so the state shows m where each row does
pub all_shown : (p : Plan) (s : State) (m : Lines) → ((r : ℕ) → r < 16 → Shown p s.tasks r (line_at s r) (m r))
    → ((r : ℕ) → 16 ≤ r → (shows p s).lines r ≡ m r) → shows p s ≡ record { lines = m }
unfolding shows
all_shown p s m h past =
    ap (λ (l : Lines). record { lines = l }) (fun_ext (λ r. on_le ((shows p s).lines r ≡ m r) 16 r (past r) (λ a. (h r a).shows)))

-- t has another line of q, by the rule f, and the ranks for the other lines as they were
pub record Changes (p : Plan) (s t : State) (q : ℕ) (f : Rules.Line → Rules.Line) : Type 0 where
  pub lines_long : length s.lines ≡ 16
  pub resource : q < 16
  pub line : Shown p t.tasks q (line_at t q) (f ((shows p s).lines q))
  pub others : (r : ℕ) → r ≢ q → line_at t r ≡ line_at s r
  pub ranks : (r : ℕ) → r < 16 → r ≢ q → (k u : ℕ) → u < p.tasks → rank p s.tasks r k u ≡ rank p t.tasks r k u
  pub rows : (u : ℕ) → u < 64 → (standing t.tasks u ≡ none_in_line) ⊎ (1 ≤ hold_at p u (standing t.tasks u).resource)

module _ {p : Plan} {s t : State} {q : ℕ} {f : Rules.Line → Rules.Line} (w : Whole p s) (c : Changes p s t q f) where
  changed_shown : (r : ℕ) → r < 16 → Shown p t.tasks r (line_at t r) (change (shows p s).lines q f r)
  unfolding shows
  changed_shown r lr =
      by_eq (λ (b : Bool). Shown p t.tasks r (line_at t r) (cond b (f ((shows p s).lines r)) ((shows p s).lines r))) r q
      (λ e. rw e c.line)
      (λ n. rw (c.others r n) (stays_shown p s.tasks t.tasks r (line_at s r) (c.ranks r lr n) (w.lines r lr)))

  pub changed_whole : Whole p t
  changed_whole = record { rows = c.rows; lines = λ r lr. (changed_shown r lr).good }

  pub changed_shows : shows p t ≡ record { lines = change (shows p s).lines q f }
  changed_shows =
      all_shown p t (change (shows p s).lines q f) changed_shown
      (λ r a. let n : r ≢ q = λ e. omega (arith, c.resource) in
      let z = past_row s c.lines_long r a in
      rw (ne_eqb r q n) (past_shows p t r (c.others r n ∙ z) ∙ sym (past_shows p s r z)))
