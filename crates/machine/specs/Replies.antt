-- What the machine's operations do with a plan file and a state by value: document 01, "The machine" and "What each operation
-- refuses, in order".
use Rattle.std.specs.Prelude.{ℕ, true, cond, List, [], ◌∷◌, ◌≢◌, ◌≡◌, eqb}
use Rattle.folds.specs.Below.{count_below}
use Rattle.refusals.specs.Numbers.{unsound}
use Rattle.refusals.specs.Outcomes.{Outcome, outcome}
use Rattle.sizes.specs.Sizes.{most_resources}
use Rattle.plan.specs.Acceptance.{refusal}
use Rattle.plan_reading.specs.Plan.{plan_of}
use Rattle.queue_rules.specs.Rules.{cut}
use Rattle.machine_rules.specs.declared.Call.{Call}
use Rattle.machine_rules.specs.declared.Call.TheVariants.{Tick}
use Rattle.machine_rules.specs.declared.Answer.{Answer}
use Rattle.machine_rules.specs.declared.Answer.TheVariants.{Refused}
use Rattle.machine_rules.specs.Machine.{call_code, step, accepted_answer, answer_outcome}
use Rattle.machine_state.specs.declared.State.{State}
use Rattle.machine_state.specs.Shows.{shows}
use Rattle.machine_state.specs.Sound.{sound}

-- "Each operation given a plan file first gives 1 to 9 as reading does; each call given a state then gives 19 if that state is not
-- sound"; 0 for neither
abbrev pub state_refusal : List ℕ → State → ℕ
state_refusal f s = cond (eqb (refusal f) 0) (cond (sound (plan_of f) s) 0 unsound) (refusal f)

-- "After these" the call's own; 0 where it is not refused
unfoldable pub call_refusal : List ℕ → State → Call → ℕ
call_refusal f s c = cond (eqb (state_refusal f s) 0) (call_code (plan_of f) (shows (plan_of f) s) c) (state_refusal f s)

-- what the call is answered: by the rules on what the state shows, or the refusal
unfoldable pub reply : List ℕ → State → Call → Answer
reply f s c = cond (eqb (call_refusal f s c) 0) (accepted_answer (plan_of f) (shows (plan_of f) s) c) (Refused (call_refusal f s c))

-- what the state is after the call: as it was where the call is refused, else a sound one that shows what the rules make of what it
-- showed. Among states of the struct's lengths there is only one such (`next_one`)
pub record Next (f : List ℕ) (s : State) (c : Call) (next : State) : Type 0 where
  pub unchanged : call_refusal f s c ≢ 0 → next ≡ s
  pub sound : call_refusal f s c ≡ 0 → sound (plan_of f) next ≡ true
  pub shows : call_refusal f s c ≡ 0 → shows (plan_of f) next ≡ step (plan_of f) (shows (plan_of f) s) c

-- the state after bytes that are one call or none: as it was where they are none
abbrev pub AfterBytes : List ℕ → State → List Call → State → Type 0
AfterBytes f s [] t = t ≡ s
AfterBytes f s (c ∷ cs) t = Next f s c t

-- what the answer tells: the refusal, or 0 and the values of the rules' answer
unfoldable pub reply_outcome : List ℕ → State → Call → Outcome
reply_outcome f s c = outcome (call_refusal f s c) (answer_outcome (accepted_answer (plan_of f) (shows (plan_of f) s) c)).values

-- the number of resources whose holds end in a tick; 0 where it is refused
unfoldable pub cut_count : List ℕ → State → ℕ
cut_count f s = cond (eqb (call_refusal f s Tick) 0) (count_below most_resources (λ q. cut ((shows (plan_of f) s).lines q))) 0
