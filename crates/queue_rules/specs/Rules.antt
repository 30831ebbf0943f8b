-- Rules 4 to 6 for one global resource, in the words of document 01, "The machine", and giving up, in those of document 02 §1. Nothing
-- here knows a plan: what governs the line is given by `Terms`.
use Rattle.std.specs.Prelude.{ℕ, ◌+◌, ◌*◌, ◌-◌, Bool, false, cond, ◌&&◌, ◌||◌, not, List, [], ◌∷◌, ◌++◌, eqb, leb, length}

-- the processor of each task and its hold time; the budget of each processor and its wait time
pub record Terms : Type 0 where
  pub processor : ℕ → ℕ
  pub hold : ℕ → ℕ
  pub budget : ℕ → ℕ
  pub wait : ℕ → ℕ

-- "Each processor has, for each resource, a queue of tasks, first come first served." One that stands in the queue has at least one
-- task in line: the first, and the others behind it
pub data Turn : Type 0 where
  turn : (processor first : ℕ) (others : List ℕ) → Turn

-- "Each global resource has a queue of processors." Beside it the hold left and the budget left. "A resource is free exactly when
-- its processor queue is empty; otherwise the first task of the head processor holds it."
pub data Line : Type 0 where
  line : (hold budget : ℕ) (queue : List Turn) → Line

-- "A fresh state has nobody in line."
abbrev pub free : Line
free = line 0 0 []

-- ── what a line shows ──

-- its queue of processors
abbrev pub queue_of : Line → List Turn
queue_of (line h b queue) = queue

-- task i is one of these
abbrev pub among : ℕ → List ℕ → Bool
among i [] = false
among i (u ∷ us) = eqb u i || among i us

-- task i stands in one of these turns
abbrev pub stands_in : ℕ → List Turn → Bool
stands_in i [] = false
stands_in i (turn k u us ∷ rest) = among i (u ∷ us) || stands_in i rest

-- task i is in line: it holds the resource or waits for it
abbrev pub in_line : ℕ → Line → Bool
in_line i l = stands_in i (queue_of l)

-- task i holds the resource
abbrev pub holds : ℕ → Line → Bool
holds i (line h b []) = false
holds i (line h b (turn k u us ∷ rest)) = eqb u i

-- task i waits: it is in line and does not hold
abbrev pub waiting : ℕ → Line → Bool
waiting i l = in_line i l && not (holds i l)

-- processor k has one of these turns
abbrev pub has_turn : ℕ → List Turn → Bool
has_turn k [] = false
has_turn k (turn j u us ∷ rest) = eqb j k || has_turn k rest

-- processor k is queued
abbrev pub queued : ℕ → Line → Bool
queued k l = has_turn k (queue_of l)

-- processor k is head
abbrev pub is_head : ℕ → Line → Bool
is_head k (line h b []) = false
is_head k (line h b (turn j u us ∷ rest)) = eqb j k

-- "A core is without the resource while it is queued and not head."
abbrev pub without : ℕ → Line → Bool
without k l = queued k l && not (is_head k l)

-- the tasks of processor k that are in line, first come first
abbrev pub tasks_of : ℕ → List Turn → List ℕ
tasks_of k [] = []
tasks_of k (turn j u us ∷ rest) = cond (eqb j k) (u ∷ us) (tasks_of k rest)

-- a tick "ends each hold that stands at 0": whether it cuts the holder's. In a held line the hold left is 1 or more
abbrev pub cut : Line → Bool
cut (line h b []) = false
cut (line h b (x ∷ rest)) = eqb (h - 1) 0

-- the tasks of a list that stand before task i
abbrev pub ahead_of : ℕ → List ℕ → List ℕ
ahead_of i [] = []
ahead_of i (u ∷ us) = cond (eqb u i) [] (u ∷ ahead_of i us)

-- the sum of f over these
abbrev pub sum_of : (ℕ → ℕ) → List ℕ → ℕ
sum_of f [] = 0
sum_of f (u ∷ us) = f u + sum_of f us

-- ── a task gives up ──

-- these tasks without task i
abbrev pub all_but : ℕ → List ℕ → List ℕ
all_but i [] = []
all_but i (u ∷ us) = cond (eqb u i) (all_but i us) (u ∷ all_but i us)

-- the turn of processor k with these tasks. "a processor left with no task leaves the processor queue" (02 §1): then it has none
abbrev pub turn_with : ℕ → List ℕ → List Turn
turn_with k [] = []
turn_with k (u ∷ us) = turn k u us ∷ []

-- the turns without task i
abbrev pub turns_but : ℕ → List Turn → List Turn
turns_but i [] = []
turns_but i (turn k u us ∷ rest) = turn_with k (all_but i (u ∷ us)) ++ turns_but i rest

-- "a waiting task leaves its task queue" (02 §1): who holds stays, the hold left and the budget left are as they were, and all others
-- keep their order
abbrev pub withdrawn : ℕ → Line → Line
withdrawn i (line h b []) = line h b []
withdrawn i (line h b (turn k u us ∷ rest)) = line h b (turn k u (all_but i us) ∷ turns_but i rest)

module _ (t : Terms) where
  -- "A processor that becomes head gets its whole budget and its first task is granted, with its hold time as hold left." With
  -- nobody queued the resource is free
  abbrev pub begin : List Turn → Line
  begin [] = free
  begin (turn k u us ∷ rest) = line (t.hold u) (t.budget k) (turn k u us ∷ rest)

  -- "A request joins the tail of the task queue; its processor joins the tail of the processor queue unless it is in it."
  abbrev pub join : ℕ → List Turn → List Turn
  join i [] = turn (t.processor i) i [] ∷ []
  join i (turn k u us ∷ rest) = cond (eqb k (t.processor i)) (turn k u (us ++ (i ∷ [])) ∷ rest) (turn k u us ∷ join i rest)

  -- a request: in a free line its processor becomes head; a held one goes on as it was
  abbrev pub entered : ℕ → Line → Line
  entered i (line h b []) = begin (join i [])
  entered i (line h b (x ∷ rest)) = line h b (join i (x ∷ rest))

  -- "the next task is granted": v, with b left of the budget of processor k
  abbrev pub go_on : ℕ → ℕ → ℕ → List ℕ → List Turn → Line
  go_on b k v vs rest = line (t.hold v) b (turn k v vs ∷ rest)

  -- "the processor goes to the tail, that task keeps its first place, and the new head begins. A lone processor so sent back begins
  -- afresh in the same call."
  abbrev pub send_back : ℕ → ℕ → List ℕ → List Turn → Line
  send_back k v vs rest = begin (rest ++ (turn k v vs ∷ []))

  -- The first task of the head leaves, with b left of the budget. "If its processor's task queue is empty, the processor leaves the
  -- processor queue. Else the next task is granted if its hold time is at most the budget left; if not, the processor goes to the
  -- tail"
  abbrev pub leave : ℕ → List Turn → Line
  leave b [] = free
  leave b (turn k u [] ∷ rest) = begin rest
  leave b (turn k u (v ∷ vs) ∷ rest) = cond (leb (t.hold v) b) (go_on b k v vs rest) (send_back k v vs rest)

  -- a release
  abbrev pub released : Line → Line
  released (line h b queue) = leave b queue

  -- "A tick takes 1 from hold left and budget left of every held resource, then ends each hold that stands at 0 as a release would"
  abbrev pub ticked : Line → Line
  ticked (line h b []) = line h b []
  ticked (line h b (x ∷ rest)) = cond (cut (line h b (x ∷ rest))) (leave (b - 1) (x ∷ rest)) (line (h - 1) (b - 1) (x ∷ rest))

  -- "the number of tasks ahead (of the same processor, holder included)": those ahead of task i in a line in which it stands
  abbrev pub ahead_in : ℕ → Line → List ℕ
  ahead_in i l = ahead_of i (tasks_of (t.processor i) (queue_of l))

  -- the limit of task i behind these tasks: "sum of their hold times + (that number + 1) × the processor's wait time"
  abbrev pub limit : ℕ → List ℕ → ℕ
  limit i ahead = sum_of t.hold ahead + (length ahead + 1) * t.wait (t.processor i)
