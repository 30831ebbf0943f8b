-- A sound state is the one that its lines tell, so two that show the same are the same.
use Rattle.machine_state.proofs.Ground.{ℕ, ◌<◌, true, ◌≡◌, sym, ap, ap₂, ◌∙◌, List, length, most_processors, most_tasks, most_resources}
use Rattle.machine_state.proofs.Ground.{Plan, Valid, View, list_length, LineRow, State, no_standing, no_line, line_at, shows, sound}
use Rattle.machine_state.proofs.Ground.{slot_of, line_of, standing_of, state_of}
use Rattle.folds.proofs.Ground.{ext_get_or}
use Rattle.queue_rules.specs.Rules as Rules
use Rattle.machine_state.proofs.Wholes.{state_same}
use Rattle.machine_state.proofs.Told.{SameRow, SameRows, line_at_lem, rows_told}

-- the lengths of a state's arrays
pub record Shaped (s : State) : Type 0 where
  pub tasks : length s.tasks ≡ most_tasks
  pub lines : length s.lines ≡ most_resources
  pub queues : (q : ℕ) → q < most_resources → length (line_at s q).queue ≡ most_processors

-- states of these lengths that agree in all rows are the same
same_line : (a b : LineRow) → SameRow a b → length a.queue ≡ most_processors → length b.queue ≡ most_processors → a ≡ b
same_line a b r m n =
    ap₂ (λ (x : ℕ) (y : List ℕ). record { queued = x; queue = y; hold_left = a.hold_left; budget_left = a.budget_left }) r.queued
    (ext_get_or 0 a.queue b.queue (m ∙ sym n) (λ j l. r.slots j (rw m at l)))
    ∙ ap₂ (λ (x y : ℕ). record { queued = b.queued; queue = b.queue; hold_left = x; budget_left = y }) r.hold r.budget

same_state : (s t : State) → SameRows s t → Shaped s → Shaped t → s ≡ t
same_state s t r m n =
    state_same s t
    (ext_get_or no_line s.lines t.lines (m.lines ∙ sym n.lines)
    (λ q b. let l = rw m.lines at b in same_line (line_at s q) (line_at t q) (r.lines q l) (m.queues q l) (n.queues q l)))
    (ext_get_or no_standing s.tasks t.tasks (m.tasks ∙ sym n.tasks) (λ i l. r.tasks i (rw m.tasks at l)))

-- lines tell a state of these lengths
row_long : (l : Rules.Line) → length (line_of l).queue ≡ most_processors
row_long (Rules.line h b queue) = list_length most_processors 0 (slot_of queue)

pub told_shaped : (p : Plan) (s : View) → Shaped (state_of p s)
told_shaped p s = record {
  tasks = list_length most_tasks 0 (standing_of p s);
  lines = list_length most_resources 0 (λ q. line_of (s.lines q));
  queues = λ q l. rw (line_at_lem p s q l) (row_long (s.lines q));
}

module _ (p : Plan) (v : Valid p) where
  pub state_told : (s : State) → Shaped s → sound p s ≡ true → s ≡ state_of p (shows p s)
  state_told s m h = same_state s (state_of p (shows p s)) (rows_told p v s h) m (told_shaped p (shows p s))

  pub one_state : (s t : State) → Shaped s → Shaped t → sound p s ≡ true → sound p t ≡ true → shows p s ≡ shows p t → s ≡ t
  one_state s t m n h i e = state_told s m h ∙ ap (state_of p) e ∙ sym (state_told t n i)
