-- Document 01, "The machine", and document 02 §1: the lines of all resources, and what a call does to them. A state is here what it
-- shows.
use Rattle.std.specs.Prelude.{ℕ, Bool, true, false, cond, ◌&&◌, List, [], ◌∷◌, eqb, ltb, length}
use Rattle.folds.specs.Below.{any_below}
use Rattle.folds.specs.Words.{word_below}
use Rattle.plan_reading.specs.Plan.{Plan}
use Rattle.refusals.specs.Numbers.{unknown_tag, unknown_resource, already_in_line, not_held, not_waiting}
use Rattle.refusals.specs.Outcomes.{Outcome}
use Rattle.sizes.specs.Sizes.{most_resources}
use Rattle.analysis_equations.specs.Sharing.{processor_of}
use Rattle.analysis_equations.specs.HoldTimes.{hold_at, budget, wait_time}
use Rattle.analysis_equations.specs.Questions.{task_number, use_code}
use Rattle.queue_rules.specs.Rules.{Terms, turn, Line, line, free, in_line, holds, waiting, tasks_of, withdrawn, entered, released, cut}
use Rattle.queue_rules.specs.Rules.{ticked, limit}
use Rattle.machine_rules.specs.declared.Call.{Call}
use Rattle.machine_rules.specs.declared.Call.TheVariants.{Request, Release, GiveUp, Tick}
use Rattle.machine_rules.specs.declared.Answer.{Answer}
use Rattle.machine_rules.specs.declared.Answer.TheVariants.{Granted, Waits, Next, Free, Left, Ticked, Refused}

-- the line of each resource
abbrev pub Lines : Type 0
Lines = ℕ → Line

-- what a state shows: the lines
pub record View : Type 0 where
  pub lines : Lines

-- "A fresh state has nobody in line."
abbrev pub fresh : View
fresh = record { lines = λ q. free }

-- the lines with that of q changed by f
abbrev pub change : Lines → ℕ → (Line → Line) → Lines
change s q f r = cond (eqb r q) (f (s r)) (s r)

-- somebody holds the resource: its processor queue is not empty
abbrev pub held : Line → Bool
held (line h b []) = false
held (line h b (x ∷ rest)) = true

module _ (p : Plan) where
  -- what governs the line of q: the definitions of the analysis
  abbrev pub terms : ℕ → Terms
  terms q =
      record { processor = processor_of p; hold = λ i. hold_at p i q; budget = λ k. budget p k q; wait = λ k. wait_time p k q }

  -- task i "holds or waits for (is in line for)" some resource
  unfoldable pub busy : View → ℕ → Bool
  busy s i = any_below p.resources (λ q. in_line i (s.lines q))

  -- "Request: 11, unknown tag; 12, resource ≥ R; 13, no section of the task on it; 14, local; 15, the task already holds or waits."
  unfoldable pub request_code : View → ℕ → ℕ → ℕ
  request_code s tag q = cond (eqb (use_code p tag q) 0) (cond (busy s (task_number p tag)) already_in_line 0) (use_code p tag q)

  -- 11, unknown tag; 12, resource ≥ R
  unfoldable pub named_code : ℕ → ℕ → ℕ
  named_code tag q = cond (ltb (task_number p tag) p.tasks) (cond (ltb q p.resources) 0 unknown_resource) unknown_tag

  -- these; then this number, unless the line passes the test for the task
  unfoldable pub line_code : (ℕ → Line → Bool) → ℕ → View → ℕ → ℕ → ℕ
  line_code test number s tag q =
      cond (eqb (named_code tag q) 0) (cond (test (task_number p tag) (s.lines q)) 0 number) (named_code tag q)

  -- "Release: 11; 12; 16, the task does not hold it."
  abbrev pub release_code : View → ℕ → ℕ → ℕ
  release_code s tag q = line_code holds not_held s tag q

  -- "23 when the named task is not waiting for that resource, after 11 and 12" (02 §1)
  abbrev pub give_up_code : View → ℕ → ℕ → ℕ
  give_up_code s tag q = line_code waiting not_waiting s tag q

  -- "A start, a tick and the question of admission refuse nothing further."
  abbrev pub call_code : View → Call → ℕ
  call_code s (Request tag q) = request_code s tag q
  call_code s (Release tag q) = release_code s tag q
  call_code s (GiveUp tag q) = give_up_code s tag q
  call_code s Tick = 0

  -- what a call does that is not refused. "Resources do not affect each other in a tick."
  abbrev pub effect : View → Call → View
  effect s (Request tag q) = record { lines = change s.lines q (entered (terms q) (task_number p tag)) }
  effect s (Release tag q) = record { lines = change s.lines q (released (terms q)) }
  effect s (GiveUp tag q) = record { lines = change s.lines q (withdrawn (task_number p tag)) }
  effect s Tick = record { lines = λ q. ticked (terms q) (s.lines q) }

  -- what a call does: "The state is unchanged" where it is refused
  unfoldable pub step : View → Call → View
  step s c = cond (eqb (call_code s c) 0) (effect s c) s

  -- "A request is answered "granted", or "waits" with the number of tasks ahead (of the same processor, holder included) and the
  -- limit"
  abbrev pub request_answer : ℕ → ℕ → Line → Answer
  request_answer i q (line h b []) = Granted
  request_answer i q (line h b (x ∷ rest)) =
      Waits (length (tasks_of (processor_of p i) (x ∷ rest))) (limit (terms q) i (tasks_of (processor_of p i) (x ∷ rest)))

  -- "A release is answered with the tag granted next, or "free"": the holder, once the task has left
  abbrev pub release_answer : Line → Answer
  release_answer (line h b []) = Free
  release_answer (line h b (turn k u us ∷ rest)) = Next (p.task u).tag

  -- the tick gives resource q a new grant: its holder is cut, and somebody holds it then
  abbrev pub regranted : View → ℕ → Bool
  regranted s q = cut (s.lines q) && held (ticked (terms q) (s.lines q))

  -- what a call is answered that is not refused. "The tick's answer is two 16-bit words, bit q for resource q: those cut, and those with
  -- a new grant."
  abbrev pub accepted_answer : View → Call → Answer
  accepted_answer s (Request tag q) = request_answer (task_number p tag) q (s.lines q)
  accepted_answer s (Release tag q) = release_answer (released (terms q) (s.lines q))
  accepted_answer s (GiveUp tag q) = Left
  accepted_answer s Tick = Ticked (word_below most_resources (λ q. cut (s.lines q))) (word_below most_resources (regranted s))

  -- what a call is answered
  unfoldable pub answer : View → Call → Answer
  answer s c = cond (eqb (call_code s c) 0) (accepted_answer s c) (Refused (call_code s c))

  -- "each call gets the same plan and the state that the last one returned, refused or not"
  abbrev pub after : View → List Call → View
  after s [] = s
  after s (c ∷ cs) = after (step s c) cs

  -- "Who is in line, who is granted and which processor is head is told by this section's rules from the plan and the list alone"
  abbrev pub run : List Call → View
  run cs = after fresh cs

-- the number and values of each answer: the number of the refusal, 0 for none; then which answer it is, and its values
abbrev pub answer_outcome : Answer → Outcome
answer_outcome Granted = record { number = 0; values = 0 ∷ [] }
answer_outcome (Waits ahead most) = record { number = 0; values = 1 ∷ ahead ∷ most ∷ [] }
answer_outcome (Next tag) = record { number = 0; values = 2 ∷ tag ∷ [] }
answer_outcome Free = record { number = 0; values = 3 ∷ [] }
answer_outcome (Ticked cuts grants) = record { number = 0; values = 4 ∷ cuts ∷ grants ∷ [] }
answer_outcome Left = record { number = 0; values = 5 ∷ [] }
answer_outcome (Refused code) = record { number = code; values = [] }
