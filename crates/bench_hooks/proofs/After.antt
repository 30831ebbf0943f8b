-- What a call is answered on the state that a list of calls returned is what the rules say after that list, and the state is the one
-- that the lines of the rules tell.
use Rattle.std.proofs.Common.{ℕ, ◌/◌, ◌%◌, ◌<◌, Bool, cond, ◌≡◌, refl, sym, ap, List, [], ◌∷◌, length, get_or, mod-lt, arith}
use Rattle.folds.proofs.Arrays.{by_eq}
use Rattle.plan_reading.specs.Plan.{plan_of}
use Rattle.sizes.specs.Sizes.{most_processors, most_tasks, most_resources}
use Rattle.plan.specs.Acceptance.{Accepted, refusal}
use Rattle.plan.proofs.Laws.{accepted_valid}
use Rattle.machine_rules.specs.declared.Call.{Call}
use Rattle.machine_rules.specs.declared.Answer.TheVariants.{Refused}
use Rattle.machine_rules.specs.Machine.{fresh, answer, run}
use Rattle.machine_state.specs.declared.State.{State}
use Rattle.machine_state.specs.Shows.{fresh_state}
use Rattle.machine_state.specs.Rows.{state_of}
use Rattle.machine_state.proofs.FreshLaws.{fresh_told}
use Rattle.machine_state.proofs.Told.{SameRows, rows_told}
use Rattle.machine.specs.Replies.{reply}
use Rattle.machine.specs.Promise.{FreshRan}
use Rattle.machine.proofs.Answered.{plan_refused, refused_reply}
use Rattle.machine.proofs.Kept.{fresh_is, returned_answers}
use Rattle.bench_hooks.specs.Calling.{answer_number, answer_after, call_number, row_number, view_after, state_after}

-- states that agree in all rows have the same numbers
same_number : (s t : State) → SameRows s t → (x : ℕ) → row_number s x ≡ row_number t x
same_number s t e x =
    let task = e.tasks (x % most_tasks) (mod-lt x (omega arith)) in
    let line = e.lines (x % most_resources) (mod-lt x (omega arith)) in
    rw (task, line.queued, line.hold, line.budget, line.slots (x / most_resources % most_processors) (mod-lt (x / most_resources) (omega arith)))

same_self : (s : State) → SameRows s s
same_self s = record { lines = λ q l. record { queued = refl; slots = λ j b. refl; hold = refl; budget = refl }; tasks = λ i l. refl }

module _ (f : List ℕ) (bytes : (i : ℕ) → i < length f → get_or f i 0 < 256) (before : List Call) (s : State) (r : FreshRan f before s) where
  answer_after_lem : (c : Call) → reply f s c ≡ answer_after f before c
  unfolding answer_after
  answer_after_lem c =
      by_eq (λ (b : Bool). reply f s c ≡ cond b (answer (plan_of f) (run (plan_of f) before) c) (Refused (refusal f))) (refusal f) 0
      (λ z. let k : Accepted f = record { none = z; bytes = bytes } in returned_answers f k fresh_state fresh (fresh_is f k) before s c r.returned)
      (λ d. sym (refused_reply f s c (plan_refused f s c refl d) d).answer)

  pub number_after : (cs : List Call) → call_number (reply f s) cs ≡ call_number (answer_after f before) cs
  number_after [] = refl
  number_after (c ∷ cs) = ap answer_number (answer_after_lem c)

  -- the rows of the state are told by the rules too
  state_after_lem : SameRows s (state_after f before)
  unfolding view_after
  state_after_lem =
      by_eq (λ (b : Bool). SameRows s (state_of (plan_of f) (cond b (run (plan_of f) before) fresh))) (refusal f) 0
      (λ z. let k : Accepted f = record { none = z; bytes = bytes } in
      rw (r.shows z) at (rows_told (plan_of f) (accepted_valid k) s (r.sound z)))
      (λ d. rw (r.unchanged d, fresh_told (plan_of f)) (same_self fresh_state))

  pub row_after : (x : ℕ) → row_number s x ≡ row_number (state_after f before) x
  row_after x = same_number s (state_after f before) state_after_lem x
