-- How the code looks up a state: the tables of its tasks, and the test of soundness by them. None of this is a rule of document 01:
-- `Sound` has the rule.
use Rattle.std.specs.Prelude.{ℕ, ◌+◌, ◌-◌, ◌*◌, ◌/◌, ◌%◌, ◌<◌, ◌≤◌, Bool, true, false, cond, ◌&&◌, ◌||◌, not, Result, MatchResult, List, ◌≡◌, eqb, leb, ltb, length, get_or, replicate}
use Rattle.sizes.specs.Sizes.{most_processors, most_tasks, most_resources, absent}
use Rattle.folds.specs.Below.{all_below, any_below, max_below}
use Rattle.plan_reading.specs.Plan.{Plan, plan_of, Checked}
use Rattle.analysis_equations.specs.Sharing.{processor_of}
use Rattle.machine_state.specs.declared.Standing.{Standing}
use Rattle.machine_state.specs.Shows.{no_line, standing, slot, rank, is_idle}
use Rattle.analysis_figures.specs.Figures.{figure_count, hold_cell, budget_cell}
use Rattle.machine_state.specs.declared.LineRow.{LineRow}
use Rattle.machine_state.specs.declared.State.{State}
use Rattle.machine_state.specs.Sound.{sound}

-- the number of the queue of processor k for q
abbrev pub queue_at : ℕ → ℕ → ℕ
queue_at k q = q * most_processors + k

-- the seat of the j-th place in the queue of processor k for q
abbrev pub seat : ℕ → ℕ → ℕ → ℕ
seat q k j = queue_at k q * most_tasks + j

-- the seats of the queues for one resource
abbrev pub resource_seats : ℕ
resource_seats = most_processors * most_tasks

-- the seat of tasks that are in no queue: one behind those of the queues
abbrev pub no_seat : ℕ
no_seat = most_resources * resource_seats

-- how many seats there are
abbrev pub seat_count : ℕ
seat_count = no_seat + 1

-- the seat of a task of processor k with this row
unfoldable pub key_of : Standing → ℕ → ℕ
key_of s k = cond (ltb s.resource most_resources && ltb s.place most_tasks) (seat s.resource k s.place) no_seat

-- a table of the seats of the tasks, none for numbers past the last task
pub record Keys (p : Plan) (ts : List Standing) (t : List ℕ) : Type 0 where
  pub long : length t ≡ most_tasks
  pub at : (u : ℕ) → u < p.tasks → get_or t u 0 ≡ key_of (standing ts u) (processor_of p u)
  pub rest : (u : ℕ) → u < most_tasks → p.tasks ≤ u → get_or t u 0 ≡ no_seat

-- the last task in that place, as its number plus 1; 0 where there is none
abbrev pub seated_at : Plan → List Standing → ℕ → ℕ → ℕ → ℕ
seated_at p ts q k j = max_below p.tasks (λ u. cond (eqb (rank p ts q k u) (j + 1)) (u + 1) 0)

-- a table of who sits where
pub record Seats (p : Plan) (ts : List Standing) (t : List ℕ) : Type 0 where
  pub long : length t ≡ seat_count
  pub at : (q k j : ℕ) → q < most_resources → k < most_processors → j < most_tasks → get_or t (seat q k j) 0 ≡ seated_at p ts q k j
  pub low : (x : ℕ) → x < seat_count → get_or t x 0 ≤ most_tasks

-- the row of task u, whose seat is `key`: it sits there, and the seat before it in its queue is taken. The seat tells the resource and
-- the place in the queue
unfoldable pub task_test : List ℕ → List ℕ → Standing → ℕ → ℕ → Bool
task_test figures seats s key u =
    cond (eqb key no_seat) (is_idle s)
    (leb 1 (get_or figures (hold_cell u (key / resource_seats)) 0) && eqb (get_or seats key 0) (u + 1)
    && (eqb (key % most_tasks) 0 || leb 1 (get_or seats (key - 1) 0)))

-- who has the first seat of the queue of processor k for q
abbrev pub first_seat : List ℕ → ℕ → ℕ → ℕ
first_seat seats q k = get_or seats (seat q k 0) 0

module _ (queue : List ℕ) (c : ℕ) where
  -- processor k stands in one of the first c slots
  abbrev pub stands : ℕ → Bool
  stands k = any_below c (λ i. eqb (get_or queue i 0) k)

  -- the slots from c on are empty
  unfoldable pub tail_test : Bool
  tail_test = all_below most_processors (λ i. ltb i c || eqb (get_or queue i 0) absent)

module _ (seats : List ℕ) (q : ℕ) (queue : List ℕ) where
  -- the processor in slot i has a task in line, and stands in no slot before it
  unfoldable pub slot_test : ℕ → Bool
  slot_test i = ltb (get_or queue i 0) most_processors && leb 1 (first_seat seats q (get_or queue i 0)) && not (stands queue i (get_or queue i 0))

  -- processor k, if it has a task in line, stands in one of the first c slots
  unfoldable pub core_test : ℕ → ℕ → Bool
  core_test c k = eqb (first_seat seats q k) 0 || stands queue c k

  -- the queue of q, in which c processors stand
  unfoldable pub queue_test : ℕ → Bool
  queue_test c = all_below c slot_test && tail_test queue c && all_below most_processors (core_test c)

-- the hold and the budget left, where the head and its first task are there
unfoldable pub clock_test : List ℕ → List ℕ → ℕ → LineRow → Bool
clock_test figures seats q l =
    cond (eqb l.queued 0) (eqb l.hold_left 0 && eqb l.budget_left 0)
    (leb 1 l.hold_left && leb l.hold_left (get_or figures (hold_cell (first_seat seats q (slot l 0) - 1) q) 0)
    && leb l.hold_left l.budget_left && leb l.budget_left (get_or figures (budget_cell (slot l 0) q) 0))

-- the row of resource q
unfoldable pub line_test : List ℕ → List ℕ → ℕ → LineRow → Bool
line_test figures seats q l = leb l.queued most_processors && queue_test seats q l.queue l.queued && clock_test figures seats q l

-- the row of a free q: its slots are empty, nobody has the first seat of a processor's queue for it, and nothing is left
unfoldable pub free_test : List ℕ → ℕ → LineRow → Bool
free_test seats q l =
    tail_test l.queue 0 && all_below most_processors (λ k. eqb (first_seat seats q k) 0) && eqb l.hold_left 0 && eqb l.budget_left 0

-- the rows of all tasks
abbrev pub tasks_test : (figures keys seats : List ℕ) → List Standing → Bool
tasks_test figures keys seats ts = all_below most_tasks (λ u. task_test figures seats (standing ts u) (get_or keys u 0) u)

-- and of all resources
abbrev pub lines_test : (figures seats : List ℕ) → List LineRow → Bool
lines_test figures seats ls = all_below most_resources (λ q. line_test figures seats q (get_or ls q no_line))

-- the whole state
unfoldable pub state_test : (figures keys seats : List ℕ) → State → Bool
state_test figures keys seats s = tasks_test figures keys seats s.tasks && lines_test figures seats s.lines

-- ── what the functions rely on ──

-- a row that names a queue of this processor and a place in it
pub record InQueue (s : Standing) (k : ℕ) : Type 0 where
  pub core : k < most_processors
  pub resource : s.resource < most_resources
  pub place : s.place < most_tasks

-- a plan that passed every check, the seats of the tasks, and nobody seated yet
pub record Unseated (f : List ℕ) (ts : List Standing) (keys seats : List ℕ) : Type 0 where
  pub plan : Checked f
  pub keyed : Keys (plan_of f) ts keys
  pub empty : seats ≡ replicate seat_count 0

-- the table of seats, looked up for q
pub record SeatTable (seats : List ℕ) (q : ℕ) : Type 0 where
  pub long : length seats ≡ seat_count
  pub resource : q < most_resources

-- the sizes of the table of figures and of that of seats
pub record SeatSized (figures seats : List ℕ) : Type 0 where
  pub figures_long : length figures ≡ figure_count
  pub seats_long : length seats ≡ seat_count
  pub seats_low : (x : ℕ) → x < seat_count → get_or seats x 0 ≤ most_tasks

-- and of that of keys
pub record Sized (figures keys seats : List ℕ) : Type 0 where
  pub tables : SeatSized figures seats
  pub keys_long : length keys ≡ most_tasks
  pub keys_low : (u : ℕ) → u < most_tasks → get_or keys u 0 < seat_count

-- task u with its seat
pub record TaskSeat (figures seats : List ℕ) (key u : ℕ) : Type 0 where
  pub tables : SeatSized figures seats
  pub task : u < most_tasks
  pub seat : key < seat_count

-- the number of processors in a queue that is not empty
pub record QueueCount (c : ℕ) : Type 0 where
  pub some : 1 ≤ c
  pub few : c ≤ most_processors

-- a queue of c processors for q
pub record QueueRow (seats : List ℕ) (q c : ℕ) : Type 0 where
  pub table : SeatTable seats q
  pub count : QueueCount c

-- the tables, looked up for q
pub record LineTables (figures seats : List ℕ) (q : ℕ) : Type 0 where
  pub sized : SeatSized figures seats
  pub resource : q < most_resources

-- the head of a queue for q, with a first task
pub record Headed (seats : List ℕ) (q : ℕ) (l : LineRow) : Type 0 where
  pub placed : slot l 0 < most_processors
  pub some : 1 ≤ first_seat seats q (slot l 0)

-- the row of resource q, whose queue was looked at
pub record HeadRow (figures seats : List ℕ) (q : ℕ) (l : LineRow) : Type 0 where
  pub tables : LineTables figures seats q
  pub head : 1 ≤ l.queued → Headed seats q l

-- ── what they give ──

-- the seats of a state, the table of its tasks' seats, and whether it is sound
pub record SeatedState (p : Plan) (s : State) (t : List ℕ) (r : Result (List ℕ) (List ℕ)) : Type 0 where
  pub seats : Seats p s.tasks t
  pub told : MatchResult r (λ keys. (sound p s ≡ true) × Keys p s.tasks keys) (λ keys. (sound p s ≡ false) × Keys p s.tasks keys)
