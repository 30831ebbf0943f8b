-- A sound state over ranks: what the laws of ranks ask of each line, and what is left to say of each task's row.
use Rattle.machine_state.proofs.Ground.{ℕ, ◌<◌, ◌≤◌, ◌≡◌, ◌⊎◌, List, most_processors, most_tasks, most_resources, absent, Plan, hold_at}
use Rattle.machine_state.proofs.Ground.{terms, Ranked, Queued, Timed, Standing, LineRow, State, standing, none_in_line, line_at, slot}
use Rattle.machine_state.proofs.Ground.{rank}

-- the line of q, with the tasks' rows
pub record Good (p : Plan) (ts : List Standing) (q : ℕ) (l : LineRow) : Type 0 where
  pub small : l.queued ≤ most_processors
  pub ranked : Ranked p.tasks (terms p q) (rank p ts q)
  pub queued : Queued p.tasks p.processors (rank p ts q) l.queued (slot l)
  pub rest : (i : ℕ) → l.queued ≤ i → i < most_processors → slot l i ≡ absent
  pub timed : Timed p.tasks (terms p q) (rank p ts q) l.queued (slot l) l.hold_left l.budget_left

-- the whole state
pub record Whole (p : Plan) (s : State) : Type 0 where
  pub rows : (u : ℕ) → u < most_tasks → (standing s.tasks u ≡ none_in_line) ⊎ (1 ≤ hold_at p u (standing s.tasks u).resource)
  pub lines : (q : ℕ) → q < most_resources → Good p s.tasks q (line_at s q)
