-- What the functions of this crate rely on and give. None of this is a rule of document 01.
use Rattle.std.specs.Prelude.{ℕ, ◌-◌, ◌≤◌, ◌<◌, true, cond, List, Result, IfOk, ◌≢◌, ◌≡◌, eqb, length, get_or}
use Rattle.refusals.specs.declared.Refusal.{Refusal}
use Rattle.refusals.specs.Refusals.{code_of}
use Rattle.sizes.specs.Sizes.{most_processors, most_resources}
use Rattle.plan_reading.specs.Plan.{Plan, plan_of, Checked}
use Rattle.analysis_equations.specs.Questions.{task_number}
use Rattle.analysis_figures.specs.Figures.{Known}
use Rattle.queue_rules.specs.Rules.{holds}
use Rattle.machine_rules.specs.declared.Call.{Call}
use Rattle.machine_rules.specs.declared.Answer.{Answer}
use Rattle.machine_rules.specs.declared.Answer.TheVariants.{Next, Free}
use Rattle.machine_rules.specs.Machine.{request_code, named_code, give_up_code, call_code, effect, accepted_answer}
use Rattle.machine_state.specs.declared.LineRow.{LineRow}
use Rattle.machine_state.specs.declared.State.{State}
use Rattle.machine_state.specs.Shows.{line_at, shows, slot}
use Rattle.machine_state.specs.Sound.{sound}
use Rattle.machine_state.specs.Inner.{seat, seat_count, Keys, Seats, SeatTable}
use Rattle.machine_replies.specs.declared.Reply.{Reply}
use Rattle.machine_replies.specs.declared.Named.{Named}

-- ── what they rely on ──

-- a sound state of a plan whose hold times and budgets are known
pub record OnKnown (f : List ℕ) (s : State) (figures : List ℕ) : Type 0 where
  pub known : Known f figures
  pub sound : sound (plan_of f) s ≡ true

-- a sound state of a plan that passed every check, and who sits where
pub record OnSeats (f : List ℕ) (s : State) (seats : List ℕ) : Type 0 where
  pub plan : Checked f
  pub seated : Seats (plan_of f) s.tasks seats
  pub sound : sound (plan_of f) s ≡ true

-- the same with the hold times and budgets
pub record OnSound (f : List ℕ) (s : State) (figures seats : List ℕ) : Type 0 where
  pub known : Known f figures
  pub seated : Seats (plan_of f) s.tasks seats
  pub sound : sound (plan_of f) s ≡ true

-- the head of a line of q, where it is held, and who sits where
pub record HeadOf (seats : List ℕ) (q : ℕ) (l : LineRow) : Type 0 where
  pub table : SeatTable seats q
  pub placed : l.queued ≢ 0 → slot l 0 < most_processors

-- a request that is not refused
pub record Asks (f : List ℕ) (s : State) (figures seats : List ℕ) (tag q : ℕ) : Type 0 where
  pub on : OnSound f s figures seats
  pub code : request_code (plan_of f) (shows (plan_of f) s) tag q ≡ 0

-- a resource that is held, to be released
pub record Frees (f : List ℕ) (s : State) (figures keys seats : List ℕ) (q : ℕ) : Type 0 where
  pub on : OnSound f s figures seats
  pub keyed : Keys (plan_of f) s.tasks keys
  pub resource : q < most_resources
  pub held : 1 ≤ (line_at s q).queued

-- a give-up that is not refused; it needs no figures itself, only that the plan has some
pub record Quits (f : List ℕ) (s : State) (keys seats : List ℕ) (tag q : ℕ) : Type 0 where
  pub figures : List ℕ
  pub on : OnSound f s figures seats
  pub keyed : Keys (plan_of f) s.tasks keys
  pub code : give_up_code (plan_of f) (shows (plan_of f) s) tag q ≡ 0

-- a call that is not refused
pub record Makes (f : List ℕ) (s : State) (figures keys seats : List ℕ) (c : Call) : Type 0 where
  pub on : OnSound f s figures seats
  pub keyed : Keys (plan_of f) s.tasks keys
  pub code : call_code (plan_of f) (shows (plan_of f) s) c ≡ 0

-- ── what they give ──

-- the task with a tag, and whether it holds the resource; or 11 or 12
pub record NamedBy (p : Plan) (s : State) (tag q : ℕ) (r : Result Named Refusal) : Type 0 where
  pub code : code_of r ≡ named_code p tag q
  pub task : IfOk r (λ n. n.task ≡ task_number p tag)
  pub holds : IfOk r (λ n. n.holds ≡ holds (task_number p tag) ((shows p s).lines q))

-- the first task of the head, as its number plus 1; 0 where the line is free
unfoldable pub holder_seat : List ℕ → ℕ → LineRow → ℕ
holder_seat seats q l = cond (eqb l.queued 0) 0 (get_or seats (seat q (slot l 0) 0) 0)

-- such a call did what the rules say
pub record Acted (p : Plan) (s : State) (c : Call) (r : Reply) : Type 0 where
  pub answer : r.answer ≡ accepted_answer p (shows p s) c
  pub sound : sound p r.state ≡ true
  pub shows : shows p r.state ≡ effect p (shows p s) c

-- the seat of the first task of the head, once the first task of processor `gone` left
abbrev pub head_seat : ℕ → ℕ → LineRow → ℕ
head_seat q gone l = seat q (slot l 0) (cond (eqb (slot l 0) gone) 1 0)

-- somebody sits there
pub record NewHead (p : Plan) (seats : List ℕ) (q gone : ℕ) (l : LineRow) : Type 0 where
  pub placed : slot l 0 < most_processors
  pub some : 1 ≤ get_or seats (head_seat q gone l) 0
  pub task : get_or seats (head_seat q gone l) 0 ≤ p.tasks

-- a line of q once its holder left, with the tables
pub record Grants (f seats : List ℕ) (q gone : ℕ) (l : LineRow) : Type 0 where
  pub plan : Checked f
  pub long : length seats ≡ seat_count
  pub resource : q < most_resources
  pub head : 1 ≤ l.queued → NewHead (plan_of f) seats q gone l

-- what a release is answered: the tag of that task, or free
unfoldable pub granted_answer : Plan → List ℕ → ℕ → ℕ → LineRow → Answer
granted_answer p seats q gone l = cond (eqb l.queued 0) Free (Next (p.task (get_or seats (head_seat q gone l) 0 - 1)).tag)
