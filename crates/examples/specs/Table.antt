-- The table of examples that document 01 wants proved of the definitions: C1 to C6 and the listing's seven calls; that the longest
-- wait is reached; and, of document 02, what give-ups do and what the waiting side counts.
use Rattle.std.specs.Prelude.{ℕ, ◌+◌, ◌*◌, Bool, true, false, ◌&&◌, cond, List, [], ◌∷◌, ◌++◌, ℤ, pos}
use Rattle.std.specs.Int.Signed.{le_z}
use Rattle.analysis_equations.specs.HoldTimes.{hold_time, budget, wait_time}
use Rattle.analysis_equations.specs.Blocking.{blocking2, waiting_on, waiting_side}
use Rattle.analysis_equations.specs.Requirement.{tolerance, slack, met}
use Rattle.queue_rules.specs.Rules.{queued, is_head}
use Rattle.queue_rules.specs.Rules as Rules
use Rattle.machine_rules.specs.declared.Call.{Call}
use Rattle.machine_rules.specs.declared.Call.TheVariants.{Request, Release, GiveUp, Tick}
use Rattle.machine_rules.specs.declared.Answer.{Answer}
use Rattle.machine_rules.specs.declared.Answer.TheVariants.{Granted, Waits, Next, Free, Left, Ticked, Refused}
use Rattle.machine_rules.specs.Machine.{View, fresh, step, answer, answer_outcome, run}
use Rattle.machine_rules.specs.Longest.{longest_wait}
use Rattle.plan_reading.specs.Plan.{Plan}
use Rattle.examples.specs.Paper.{paper, to_three, to_eleven, twice, equal, to_last, to_second, bus, seven}

-- a row: what the definitions give, and what document 01 says, both as integers
pub record Row : Type 0 where
  pub given : List ℤ
  pub said : List ℤ

-- a figure
abbrev pub is_number : ℕ → ℕ → Row
is_number a b = record { given = pos a ∷ []; said = pos b ∷ [] }

-- a figure that may be negative
abbrev pub is_signed : ℤ → ℤ → Row
is_signed a b = record { given = a ∷ []; said = b ∷ [] }

-- a test, 1 where it holds
abbrev pub is_test : Bool → Bool → Row
is_test a b = record { given = pos (cond a 1 0) ∷ []; said = pos (cond b 1 0) ∷ [] }

-- natural numbers as integers
abbrev pub integers : List ℕ → List ℤ
integers [] = []
integers (n ∷ ns) = pos n ∷ integers ns

-- an answer in numbers: what it tells
abbrev pub spelled : Answer → List ℤ
spelled a = pos (answer_outcome a).number ∷ integers (answer_outcome a).values

-- and several, one after the other
abbrev pub spelled_all : List Answer → List ℤ
spelled_all [] = []
spelled_all (a ∷ rest) = spelled a ++ spelled_all rest

-- what each of the calls is answered, the first made on s
abbrev pub answers_from : Plan → View → List Call → List Answer
answers_from p s [] = []
answers_from p s (c ∷ cs) = answer p s c ∷ answers_from p (step p s c) cs

-- the answers to a list of calls
abbrev pub are_answers : List Answer → List Answer → Row
are_answers xs ys = record { given = spelled_all xs; said = spelled_all ys }

-- two lists of integers are the same
abbrev pub same_all : List ℤ → List ℤ → Bool
same_all [] [] = true
same_all [] (y ∷ ys) = false
same_all (x ∷ xs) [] = false
same_all (x ∷ xs) (y ∷ ys) = le_z x y && (le_z y x && same_all xs ys)

-- each row says what is given
unfoldable pub all_hold : List Row → Bool
all_hold [] = true
all_hold (r ∷ rs) = same_all r.given r.said && all_hold rs

-- C1. "P2's hold times: R1 3, 4, 7; R2 2, 4. Budgets 7 and 4."
unfoldable pub c1 : List Row → List Row
c1 rest =
    is_number (hold_time (paper 61) 5 0) 3
    ∷ is_number (hold_time (paper 61) 6 0) 4
    ∷ is_number (hold_time (paper 61) 7 0) 7
    ∷ is_number (hold_time (paper 61) 5 1) 2
    ∷ is_number (hold_time (paper 61) 6 1) 4
    ∷ is_number (budget (paper 61) 1 0) 7
    ∷ is_number (budget (paper 61) 1 1) 4
    ∷ rest

-- C2. "P1's by Equation 3: R1 2, 3, 10; R2 10." The paper prints 7 and 14 for the second and third.
unfoldable pub c2 : List Row → List Row
c2 rest =
    is_number (hold_time (paper 61) 0 0) 2
    ∷ is_number (hold_time (paper 61) 1 0) 3
    ∷ is_number (hold_time (paper 61) 3 0) 10
    ∷ is_number (hold_time (paper 61) 2 1) 10
    ∷ rest

-- C3. "A release and a request at one instant: the paper's instant 3 holds when the request is called first. Release first, and P2
-- leaves the queue."
unfoldable pub c3 : List Row → List Row
c3 rest =
    are_answers (answers_from (paper 61) fresh to_three) (Granted ∷ Waits 0 7 ∷ Ticked 0 0 ∷ Ticked 0 0 ∷ [])
    ∷ are_answers (answers_from (paper 61) (run (paper 61) to_three) (Request 11 0 ∷ Release 12 0 ∷ [])) (Waits 1 24 ∷ Next 11 ∷ [])
    ∷ is_test (is_head 1 ((run (paper 61) (to_three ++ (Request 11 0 ∷ Release 12 0 ∷ []))).lines 0)) true
    ∷ are_answers (answers_from (paper 61) (run (paper 61) to_three) (Release 12 0 ∷ Request 11 0 ∷ [])) (Next 2 ∷ Waits 0 10 ∷ [])
    ∷ is_test (queued 1 ((run (paper 61) (to_three ++ (Release 12 0 ∷ []))).lines 0)) false
    ∷ rest

-- C4. "The paper's third task of P2 is granted R1 at 11 and has 7 ticks: cut at 18, not released at 19."
unfoldable pub c4 : List Row → List Row
c4 rest =
    is_test (Rules.holds 7 ((run (paper 61) to_eleven).lines 0)) true
    ∷ are_answers (answers_from (paper 61) (run (paper 61) to_eleven) (Tick ∷ Tick ∷ Tick ∷ Tick ∷ Tick ∷ Tick ∷ Tick ∷ Release 13 0 ∷ []))
    (Ticked 0 0 ∷ Ticked 0 0 ∷ Ticked 0 0 ∷ Ticked 0 0 ∷ Ticked 0 0 ∷ Ticked 0 0 ∷ Ticked 1 1 ∷ Refused 16 ∷ [])
    ∷ rest

-- C5. "Hold time equal to budget left: granted. One more: sent back."
unfoldable pub c5 : List Row → List Row
c5 rest =
    are_answers (answers_from equal fresh (Request 1 0 ∷ Request 2 0 ∷ Request 3 0 ∷ Release 1 0 ∷ []))
    (Granted ∷ Waits 1 7 ∷ Waits 0 3 ∷ Next 2 ∷ [])
    ∷ are_answers (answers_from equal fresh (Request 1 0 ∷ Request 2 0 ∷ Request 3 0 ∷ Tick ∷ Release 1 0 ∷ Release 3 0 ∷ []))
    (Granted ∷ Waits 1 7 ∷ Waits 0 3 ∷ Ticked 0 0 ∷ Next 3 ∷ Next 2 ∷ [])
    ∷ is_test (queued 0 ((run equal (Request 1 0 ∷ Request 2 0 ∷ Request 3 0 ∷ Tick ∷ Release 1 0 ∷ [])).lines 0)) true
    ∷ rest

-- C6. "the second has B2 4, tolerance 44, slack 40", and with T 60 "slack 39"; the first: "slack 36". The sides are those of document 02
-- §2: "the second task's side is 72, not met against 40 or 39; the first's is 95 against 36". On R1 the second has fellows of 3 + 7
-- ticks and P2's budget is 7: (3 + 1) × 10 + 10; on R2 one fellow of 2 ticks, budget 4: (1 + 1) × 10 + 2. With T 93 its slack is 72 too,
-- and it is met; with T 92 it is not
unfoldable pub c6 : List Row → List Row
c6 rest =
    is_number (blocking2 (paper 61) 6) 4
    ∷ is_signed (tolerance (paper 61) 6) (pos 44)
    ∷ is_signed (slack (paper 61) 6) (pos 40)
    ∷ is_number (wait_time (paper 61) 1 0) 10
    ∷ is_number (wait_time (paper 61) 1 1) 10
    ∷ is_number (waiting_on (paper 61) 6 0) (4 * 10 + 10)
    ∷ is_number (waiting_on (paper 61) 6 1) (2 * 10 + 2)
    ∷ is_number (waiting_side (paper 61) 6) 72
    ∷ is_test (met (paper 61) 6) false
    ∷ is_signed (slack (paper 60) 6) (pos 39)
    ∷ is_test (met (paper 60) 6) false
    ∷ is_signed (slack (paper 61) 5) (pos 36)
    ∷ is_number (waiting_side (paper 61) 5) 95
    ∷ is_test (met (paper 61) 5) false
    ∷ is_signed (slack (paper 93) 6) (pos 72)
    ∷ is_test (met (paper 93) 6) true
    ∷ is_test (met (paper 92) 6) false
    ∷ rest

-- Document 02 §2 where C6 cannot tell: of two sections on one resource each has its wait and its fellows' hold times, twice
-- (4 + 1) × 5 + 10; the only user on its core has one wait time, 6, where Equation 6 as printed has 0
unfoldable pub sides : List Row → List Row
sides rest =
    is_number (waiting_side twice 0) (2 * (5 * 5 + 10))
    ∷ is_number (waiting_side twice 3) 6
    ∷ rest

-- The longest wait is reached. The paper's third task of P2 has two fellows on R1, with hold times 3 and 4, and P2's wait time is 10:
-- 3 + 4 + 3 × 10. It is told just that where both are ahead of it. In the plan of C5 the second task is told 3 + 2 × 2, and is
-- granted by the tick that fills it, not before
unfoldable pub longest : List Row → List Row
longest rest =
    is_number (longest_wait (paper 61) 7 0) 37
    ∷ are_answers (answers_from (paper 61) fresh (Request 2 0 ∷ Request 11 0 ∷ Request 12 0 ∷ Request 13 0 ∷ []))
    (Granted ∷ Waits 0 10 ∷ Waits 1 23 ∷ Waits 2 37 ∷ [])
    ∷ is_number (longest_wait equal 1 0) 7
    ∷ are_answers (answers_from equal fresh (to_last ++ (Tick ∷ [])))
    (Granted ∷ Waits 0 2 ∷ Waits 1 7 ∷ Ticked 0 0 ∷ Ticked 1 1 ∷ Waits 0 3 ∷ Ticked 0 0 ∷ Ticked 0 0 ∷ Ticked 1 1 ∷ Ticked 0 0 ∷ Ticked 1 1 ∷ [])
    ∷ is_test (Rules.holds 1 ((run equal to_last).lines 0)) false
    ∷ is_test (Rules.holds 1 ((run equal (to_last ++ (Tick ∷ []))).lines 0)) true
    ∷ rest

-- Giving up (document 02 §1), in the plan of C5. The second task waits behind the first, which gives up: it is granted at the second tick,
-- where it was told seven. The first asks again, and has a new limit; the holder cannot give up; the third is the only task in line of its
-- core, which leaves the queue
unfoldable pub give_ups : List Row → List Row
give_ups rest =
    are_answers (answers_from equal fresh to_second) (Granted ∷ Waits 0 2 ∷ Waits 1 7 ∷ Ticked 0 0 ∷ Left ∷ Ticked 1 1 ∷ [])
    ∷ is_test (Rules.holds 1 ((run equal to_second).lines 0)) true
    ∷ are_answers (answers_from equal (run equal to_second) (Request 1 0 ∷ Request 3 0 ∷ GiveUp 2 0 ∷ GiveUp 3 0 ∷ Tick ∷ Tick ∷ Tick ∷ []))
    (Waits 1 7 ∷ Waits 0 3 ∷ Refused 23 ∷ Left ∷ Ticked 0 0 ∷ Ticked 0 0 ∷ Ticked 1 1 ∷ [])
    ∷ is_test (queued 1 ((run equal (to_second ++ (Request 3 0 ∷ []))).lines 0)) true
    ∷ is_test (queued 1 ((run equal (to_second ++ (Request 3 0 ∷ GiveUp 3 0 ∷ []))).lines 0)) false
    ∷ rest

-- the listing: "granted 20 bus", "waits 10 bus 0 3", "tick 0 0" twice, "tick 1 1", "refused 16", "released 10 bus free"
unfoldable pub listing : List Row → List Row
listing rest =
    are_answers (answers_from bus fresh seven)
    (Granted ∷ Waits 0 3 ∷ Ticked 0 0 ∷ Ticked 0 0 ∷ Ticked 1 1 ∷ Refused 16 ∷ Free ∷ [])
    ∷ rest

-- the whole table
abbrev pub table : List Row
table = c1 (c2 (c3 (c4 (c5 (c6 (sides (longest (give_ups (listing [])))))))))
