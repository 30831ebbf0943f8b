-- What the functions rely on, from a sound state and its tables.
use Rattle.machine_steps.proofs.Ground.{ℕ, ◌+◌, ◌<◌, ◌≤◌, cond, ◌≡◌, ◌∙◌, List, ltb, length, get_or, arith, lt-ltb, Plan, Valid}
use Rattle.machine_steps.proofs.Ground.{Figures, task_ranked, State, line_at, slot, rank, seat, Keys, Seats, Sized, Whole, max_below}
use Rattle.machine_steps.proofs.Ground.{max_at, on_le, ranks_few, full, HeadReady, Running}
use Rattle.folds.proofs.Ground.{le-ltb}
use Rattle.queue_ranks.proofs.Ranked.{task_rank, seated, sole}
use Rattle.machine_state.proofs.Tables.{sized_by}

-- the tables of a state, and the lengths of its rows
pub record Tabled (p : Plan) (s : State) (figures keys seats : List ℕ) : Type 0 where
  pub figures_at : Figures p figures
  pub keys_at : Keys p s.tasks keys
  pub seats_at : Seats p s.tasks seats
  pub tasks_long : length s.tasks ≡ 64
  pub lines_long : length s.lines ≡ 16

module _ (p : Plan) (v : Valid p) (s : State) (w : Whole p s) where
  -- a processor that is queued is there
  pub low_slot : (q i : ℕ) → q < 16 → i < (line_at s q).queued → slot (line_at s q) i < 8
  low_slot q i lq l = omega (arith, v.processors, (w.lines q lq).queued.placed i l)

  module _ {seats : List ℕ} (t : Seats p s.tasks seats) (q k : ℕ) (lq : q < 16) (lk : k < 8) where
    -- the ranks of the tasks in its queue for q
    abbrev ranks : ℕ → ℕ
    ranks = rank p s.tasks q k

    -- who sits where: the task of that rank
    pub seat_task : (j : ℕ) → j < 64
        → get_or seats (seat q k j) 0 ≡ cond (ltb (task_ranked p.tasks ranks (j + 1)) p.tasks) (task_ranked p.tasks ranks (j + 1) + 1) 0
    seat_task j l = t.at q k j lq lk l ∙ seated p.tasks ranks (sole (w.lines q lq).ranked k) (j + 1) (omega arith)

    -- the seats are taken from the first on, as many as there are tasks
    pub seats_few : max_below p.tasks ranks ≤ 64
    seats_few = omega (arith, v.tasks, ranks_few (w.lines q lq).ranked k)

    pub seat_taken : (j : ℕ) → j < max_below p.tasks ranks
        → get_or seats (seat q k j) 0 ≡ task_ranked p.tasks ranks (j + 1) + 1
    seat_taken j l =
        seat_task j (omega (arith, seats_few)) ∙ rw (lt-ltb _ _ (full (w.lines q lq).ranked k (j + 1) (omega arith) (omega arith)))

    pub seat_empty : (j : ℕ) → max_below p.tasks ranks ≤ j → j < 64 → get_or seats (seat q k j) 0 ≡ 0
    seat_empty j m l = seat_task j l ∙ rw (le-ltb _ _ past)
      where
        u : ℕ
        u = task_ranked p.tasks ranks (j + 1)

        past : p.tasks ≤ u
        past = on_le (p.tasks ≤ u) p.tasks u (λ a. a) (λ a. omega (arith, task_rank p.tasks (j + 1) ranks a, max_at p.tasks u ranks a))

module _ (p : Plan) (v : Valid p) (s : State) (w : Whole p s) {figures keys seats : List ℕ} (t : Tabled p s figures keys seats) where
  pub sized : Sized figures keys seats
  sized = sized_by p v s.tasks keys t.keys_at t.figures_at t.seats_at

  module _ (q : ℕ) (lq : q < 16) (held : 1 ≤ (line_at s q).queued) where
    pub ready : HeadReady seats q (line_at s q)
    ready = record {
      some = held;
      few = (w.lines q lq).small;
      placed = λ i l. low_slot p v s w q i lq l;
      once = λ i a l e. omega (arith, (w.lines q lq).queued.once i 0 l held e);
      seated = λ i l. let k = slot (line_at s q) i in
          omega (arith, seat_taken p v s w t.seats_at q k lq (low_slot p v s w q i lq l) 0 ((w.lines q lq).queued.served i l));
    }

    pub running : Running seats q (line_at s q)
    running = let y = (w.lines q lq).timed.runs held in record { ready = ready; low = y.0; within = y.2 }
