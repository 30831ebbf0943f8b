-- What joining, leaving, giving up and a tick make of the rows of a state, by the tables. None of this is a rule of documents 01 and
-- 02: the rules are those of a line.
use Rattle.std.specs.Prelude.{ℕ, ◌+◌, ◌-◌, ◌*◌, ◌/◌, ◌≤◌, ◌<◌, Bool, cond, ◌&&◌, List, [], ◌∷◌, ◌≢◌, ◌≡◌, eqb, leb, ltb, length, get_or, set, replicate}
use Rattle.sizes.specs.Sizes.{most_processors, most_tasks, most_resources, absent}
use Rattle.folds.specs.Below.{any_below, find_below, sum_below}
use Rattle.folds.specs.Bytes.{placed_below}
use Rattle.folds.specs.Each.{each_below}
use Rattle.folds.specs.Words.{word_below}
use Rattle.folds.proofs.Arrays.{stamped_below}
use Rattle.analysis_figures.specs.Figures.{figure_count, hold_cell, budget_cell}
use Rattle.machine_state.specs.declared.Standing.{Standing}
use Rattle.machine_state.specs.declared.LineRow.{LineRow}
use Rattle.machine_state.specs.declared.State.{State}
use Rattle.machine_state.specs.Shows.{no_standing, no_line, none_in_line, in_line_at, moved_up, standing, line_at, slot}
use Rattle.machine_state.specs.Inner.{queue_at, seat, seat_count, SeatSized, Sized}
use Rattle.machine_steps.specs.declared.Ahead.{Ahead}
use Rattle.machine_steps.specs.declared.Stepped.{Stepped}
use Rattle.machine_steps.specs.declared.Ticked.{Ticked}

-- how many queues of tasks there are
abbrev pub queue_count : ℕ
queue_count = most_resources * most_processors

-- a mark for each of them and one more for none, none set
abbrev pub no_marks : List ℕ
no_marks = replicate (queue_count + 1) 0

-- ── what the functions rely on ──

-- the queue of processor k for q
pub record QueueOf (figures seats : List ℕ) (q k : ℕ) : Type 0 where
  pub tables : SeatSized figures seats
  pub resource : q < most_resources
  pub core : k < most_processors

-- a place in it that is taken
pub record PlaceTaken (figures seats : List ℕ) (q k j : ℕ) : Type 0 where
  pub queue : QueueOf figures seats q k
  pub place : j < most_tasks
  pub taken : 1 ≤ get_or seats (seat q k j) 0

-- task i of processor k, which joins the line of q behind `ahead` of its fellows
pub record Joining (figures : List ℕ) (s : State) (q i k ahead : ℕ) : Type 0 where
  pub figures_long : length figures ≡ figure_count
  pub resource : q < most_resources
  pub task : i < most_tasks
  pub core : k < most_processors
  pub room : ahead ≡ 0 → (line_at s q).queued < most_processors

-- the seats of the tasks, and the marks of queues
pub record Lowering (keys ended : List ℕ) : Type 0 where
  pub keys_long : length keys ≡ most_tasks
  pub ended_long : length ended ≡ queue_count + 1
  pub keys_low : (u : ℕ) → u < most_tasks → get_or keys u 0 < seat_count

-- processor k can begin once the first task of processor `gone` left
pub record Begins (seats : List ℕ) (q gone k : ℕ) : Type 0 where
  pub core : k < most_processors
  pub taken : 1 ≤ get_or seats (seat q k (cond (eqb k gone) 1 0)) 0

-- and so can the head of a queue of c, where there is one
pub record Beginning (figures seats : List ℕ) (q gone : ℕ) (queue : List ℕ) (c : ℕ) : Type 0 where
  pub tables : SeatSized figures seats
  pub resource : q < most_resources
  pub head : 1 ≤ c → Begins seats q gone (get_or queue 0 0)

-- a held line: its processors are there, each once, with a first task each
pub record HeadReady (seats : List ℕ) (q : ℕ) (l : LineRow) : Type 0 where
  pub some : 1 ≤ l.queued
  pub few : l.queued ≤ most_processors
  pub placed : (i : ℕ) → i < l.queued → slot l i < most_processors
  pub once : (i : ℕ) → 1 ≤ i → i < l.queued → slot l i ≢ slot l 0
  pub seated : (i : ℕ) → i < l.queued → 1 ≤ get_or seats (seat q (slot l i) 0) 0

-- and its hold left and budget left
pub record Running (seats : List ℕ) (q : ℕ) (l : LineRow) : Type 0 where
  pub ready : HeadReady seats q l
  pub low : 1 ≤ l.hold_left
  pub within : l.hold_left ≤ l.budget_left

-- such a line of q, with the tables
pub record Passing (figures seats : List ℕ) (q : ℕ) (l : LineRow) : Type 0 where
  pub tables : SeatSized figures seats
  pub resource : q < most_resources
  pub ready : HeadReady seats q l

pub record Stepping (figures seats : List ℕ) (q : ℕ) (l : LineRow) : Type 0 where
  pub tables : SeatSized figures seats
  pub resource : q < most_resources
  pub running : 1 ≤ l.queued → Running seats q l

pub record Leaving (figures keys seats : List ℕ) (q : ℕ) (l : LineRow) : Type 0 where
  pub tables : Sized figures keys seats
  pub resource : q < most_resources
  pub ready : HeadReady seats q l

-- task i of processor k, which leaves its queue for q: somebody is queued
pub record Withdrawing (keys seats : List ℕ) (q i k : ℕ) (s : State) : Type 0 where
  pub keys_long : length keys ≡ most_tasks
  pub seats_long : length seats ≡ seat_count
  pub resource : q < most_resources
  pub task : i < most_tasks
  pub core : k < most_processors
  pub some : 1 ≤ (line_at s q).queued

-- all held lines of a state go on
abbrev pub AllRunning : List ℕ → List LineRow → Type 0
AllRunning seats ls = (q : ℕ) → q < most_resources → 1 ≤ (get_or ls q no_line).queued → Running seats q (get_or ls q no_line)

-- ── joining ──

-- a line with processor k at its tail, which begins where nobody was queued
unfoldable pub pushed : LineRow → ℕ → ℕ → ℕ → LineRow
pushed l k hold budget =
    cond (eqb l.queued 0)
    (record { queued = 1; queue = set l.queue 0 k; hold_left = hold; budget_left = budget })
    (record {
      queued = l.queued + 1;
      queue = set l.queue l.queued k;
      hold_left = l.hold_left;
      budget_left = l.budget_left;
    })

-- the lines once task i of processor k joined that of q, behind `ahead` of its fellows
unfoldable pub joined_lines : State → ℕ → ℕ → ℕ → ℕ → ℕ → List LineRow
joined_lines s q k ahead hold budget = cond (eqb ahead 0) (set s.lines q (pushed (line_at s q) k hold budget)) s.lines

-- and the state
abbrev pub joined : State → ℕ → ℕ → ℕ → ℕ → ℕ → ℕ → State
joined s q i k ahead hold budget =
    record {
      lines = joined_lines s q k ahead hold budget;
      tasks = set s.tasks i (in_line_at q ahead);
    }

-- with the figures of the table
abbrev pub joined_by : (figures : List ℕ) → State → (q i k ahead : ℕ) → State
joined_by figures s q i k ahead = joined s q i k ahead (get_or figures (hold_cell i q) 0) (get_or figures (budget_cell k q) 0)

-- how many seats of the queue of processor k for q are taken, from the first on
unfoldable pub taken : List ℕ → ℕ → ℕ → ℕ
taken seats q k = find_below most_tasks (λ j. eqb (get_or seats (seat q k j) 0) 0)

-- the hold times of those who sit there
unfoldable pub taken_holds : (figures seats : List ℕ) → ℕ → ℕ → ℕ
taken_holds figures seats q k = sum_below (taken seats q k) (λ j. get_or figures (hold_cell (get_or seats (seat q k j) 0 - 1) q) 0)

-- ── leaving ──

-- a row once the first of its queue left, where `on` says that it did
unfoldable pub fallen : Bool → Standing → Standing
fallen on s = cond on (cond (eqb s.place 0) none_in_line (moved_up s)) s

-- the rows of the tasks; `ended` has a 1 for each queue that lost its first
unfoldable pub lowered : List ℕ → List ℕ → List Standing → List Standing
lowered keys ended ts = each_below no_standing (λ u s. fallen (eqb (get_or ended (get_or keys u 0 / most_tasks) 0) 1) s) most_tasks ts

-- a queue without its head
abbrev pub shifted : List ℕ → List ℕ
shifted l = get_or l 1 0 ∷ get_or l 2 0 ∷ get_or l 3 0 ∷ get_or l 4 0 ∷ get_or l 5 0 ∷ get_or l 6 0 ∷ get_or l 7 0 ∷ absent ∷ []

-- and with its head at the tail
abbrev pub turned : List ℕ → ℕ → List ℕ
turned l c = set (shifted l) (c - 1) (get_or l 0 0)

module _ (figures seats : List ℕ) (q : ℕ) where
  -- the hold time of the task in place j of the queue of processor k
  abbrev pub hold_of : ℕ → ℕ → ℕ
  hold_of k j = get_or figures (hold_cell (get_or seats (seat q k j) 0 - 1) q) 0

  -- the head of a queue begins, once the first task of processor `gone` left
  unfoldable pub begun : ℕ → List ℕ → ℕ → LineRow
  begun gone queue c =
      cond (eqb c 0)
      (record { queued = 0; queue = queue; hold_left = 0; budget_left = 0 })
      (record {
        queued = c;
        queue = queue;
        hold_left = hold_of (get_or queue 0 0) (cond (eqb (get_or queue 0 0) gone) 1 0);
        budget_left = get_or figures (budget_cell (get_or queue 0 0) q) 0;
      })

  -- the line once its holder left
  unfoldable pub passed : LineRow → LineRow
  passed l =
      cond (eqb (get_or seats (seat q (slot l 0) 1) 0) 0)
      (begun (slot l 0) (shifted l.queue) (l.queued - 1))
      (cond (leb (hold_of (slot l 0) 1) l.budget_left)
      (record {
        queued = l.queued;
        queue = l.queue;
        hold_left = hold_of (slot l 0) 1;
        budget_left = l.budget_left;
      })
      (begun (slot l 0) (turned l.queue l.queued) l.queued))

  -- the line after a tick
  unfoldable pub stepped : LineRow → LineRow
  stepped l =
      cond (eqb l.queued 0) l
      (cond (eqb l.hold_left 1)
      (passed (record { queued = l.queued; queue = l.queue; hold_left = l.hold_left - 1; budget_left = l.budget_left - 1 }))
      (record {
        queued = l.queued;
        queue = l.queue;
        hold_left = l.hold_left - 1;
        budget_left = l.budget_left - 1;
      }))

-- the state once the holder of q left
abbrev pub left_by : (figures keys seats : List ℕ) → ℕ → State → State
left_by figures keys seats q s =
    record {
      lines = set s.lines q (passed figures seats q (line_at s q));
      tasks = lowered keys (set no_marks (queue_at (slot (line_at s q) 0) q) 1) s.tasks;
    }

-- ── giving up ──

-- a row once the task in this place of its queue left, where `on` says that one did
unfoldable pub closed : Bool → ℕ → Standing → Standing
closed on place s = cond on (cond (eqb s.place place) none_in_line (cond (ltb place s.place) (moved_up s) s)) s

-- the rows of the tasks once that in this place of one queue left
unfoldable pub closed_up : (keys : List ℕ) → (queue place : ℕ) → List Standing → List Standing
closed_up keys queue place ts = each_below no_standing (λ u s. closed (eqb (get_or keys u 0 / most_tasks) queue) place s) most_tasks ts

-- the last slot of a queue of processors
abbrev pub last_slot : ℕ
last_slot = most_processors - 1

-- processor k stands in slot j of a queue, or in one before it
abbrev pub passed_by : List ℕ → ℕ → ℕ → Bool
passed_by l k j = any_below (j + 1) (λ i. eqb (get_or l i 0) k)

-- what stands in slot j without k
abbrev pub besides : List ℕ → ℕ → ℕ → ℕ
besides l k j = cond (passed_by l k j) (get_or l (j + 1) 0) (get_or l j 0)

-- the line without processor k, those behind it moved up
unfoldable pub dropped : LineRow → ℕ → LineRow
dropped l k =
    record {
      queued = l.queued - 1;
      queue = placed_below last_slot (besides l.queue k) (replicate most_processors absent);
      hold_left = l.hold_left;
      budget_left = l.budget_left;
    }

-- the lines once a task of processor k left its queue for q: where no second sat there, k goes
unfoldable pub withdrawn_lines : (seats : List ℕ) → (q k : ℕ) → State → List LineRow
withdrawn_lines seats q k s = cond (eqb (get_or seats (seat q k 1) 0) 0) (set s.lines q (dropped (line_at s q) k)) s.lines

-- the state once task i of processor k left its queue for q
abbrev pub withdrawn_by : (keys seats : List ℕ) → (q i k : ℕ) → State → State
withdrawn_by keys seats q i k s =
    record {
      lines = withdrawn_lines seats q k s;
      tasks = closed_up keys (queue_at k q) (standing s.tasks i).place s.tasks;
    }

-- ── a tick ──

-- a tick cuts the holder
abbrev pub cuts_holder : LineRow → Bool
cuts_holder l = ltb 0 l.queued && eqb l.hold_left 1

-- the queue that then loses its first; past the last one where it does not
abbrev pub lost_queue : List LineRow → ℕ → ℕ
lost_queue ls q = cond (cuts_holder (get_or ls q no_line)) (queue_at (slot (get_or ls q no_line) 0) q) queue_count

-- the marks of the queues that lose their first in a tick, for the resources below n
abbrev pub ended_below : List LineRow → ℕ → List ℕ
ended_below ls n = stamped_below n (lost_queue ls) (λ q. cond (cuts_holder (get_or ls q no_line)) 1 0) no_marks

-- and for all
unfoldable pub ended_of : List LineRow → List ℕ
ended_of ls = ended_below ls most_resources

-- the lines after a tick
unfoldable pub stepped_lines : (figures seats : List ℕ) → List LineRow → List LineRow
stepped_lines figures seats ls = each_below no_line (λ q l. stepped figures seats q l) most_resources ls

-- and the state
abbrev pub ticked_by : (figures keys seats : List ℕ) → State → State
ticked_by figures keys seats s =
    record {
      lines = stepped_lines figures seats s.lines;
      tasks = lowered keys (ended_of s.lines) s.tasks;
    }

-- the resources cut
unfoldable pub cut_word : List LineRow → ℕ
cut_word ls = word_below most_resources (λ q. cuts_holder (get_or ls q no_line))

-- those of them with a new grant
unfoldable pub grant_word : List LineRow → List LineRow → ℕ
grant_word before after = word_below most_resources (λ q. cuts_holder (get_or before q no_line) && ltb 0 (get_or after q no_line).queued)

-- ── what the functions give ──

-- the tasks ahead in the queue of processor k for q
pub record AheadOf (figures seats : List ℕ) (q k : ℕ) (r : Ahead) : Type 0 where
  pub counted : r.count ≡ taken seats q k
  pub held : r.holds ≡ taken_holds figures seats q k
  pub few : r.count ≤ most_tasks
  pub small : r.holds ≤ most_tasks * 65535

-- the lines after a tick, and what it tells of them
pub record SteppedOf (figures seats : List ℕ) (ls : List LineRow) (r : Stepped) : Type 0 where
  pub lines : r.lines ≡ stepped_lines figures seats ls
  pub marks : r.marks ≡ ended_of ls
  pub cuts : r.cuts ≡ cut_word ls
  pub grants : r.grants ≡ grant_word ls (stepped_lines figures seats ls)

-- the state after it
pub record TickedOf (figures keys seats : List ℕ) (s : State) (r : Ticked) : Type 0 where
  pub state : r.state ≡ ticked_by figures keys seats s
  pub cuts : r.cuts ≡ cut_word s.lines
  pub grants : r.grants ≡ grant_word s.lines r.state.lines
