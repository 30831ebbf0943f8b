-- An answer that names a resource is one of a checked plan that has it, since the call was not refused.
use Rattle.print_calls.proofs.Ground.{ℕ, ◌<◌, true, false, ◌&&◌, ◌≡◌, List, [], ◌∷◌, length, first_zero, then_zero, plan_of, Call}
use Rattle.print_calls.proofs.Ground.{State, state_refusal, reply, CallBytes, call_in}
use Rattle.folds.proofs.Ground.{Bool, cond, eqb, get_or}
use Rattle.folds.proofs.Arrays.{by_eq}
use Rattle.plan_reading.specs.Plan.{Checked}
use Rattle.plan.specs.Acceptance.{refusal}
use Rattle.plan.proofs.Laws.{accepted_checked}
use Rattle.analysis_equations.specs.Questions.{task_number, use_code}
use Rattle.analysis_equations.proofs.Laws.{use_clear}
use Rattle.queue_rules.specs.Rules.{Line, line, turn, released, holds, waiting}
use Rattle.machine_rules.specs.declared.Call.TheVariants.{Request, Release, GiveUp, Tick}
use Rattle.machine_rules.specs.declared.Answer.TheVariants.{Refused}
use Rattle.machine_rules.specs.Machine.{terms, request_code, call_code, request_answer, release_answer, accepted_answer}
use Rattle.machine_state.specs.Shows.{shows}
use Rattle.machine.specs.Replies.{call_refusal}
use Rattle.machine_rules.proofs.LineCodes.{named_resource, line_named}
use Rattle.machine_calls.specs.Calls.{call_of}
use Rattle.print_lines.specs.Inner.{Nameable, Names}

module _ (f : List ℕ) (q : ℕ) where
  request_names : (i : ℕ) (l : Line) → Nameable f q → Names f q (request_answer (plan_of f) i q l)
  request_names i (line h b []) n = n
  request_names i (line h b (x ∷ rest)) n = n

  release_names : (l : Line) → Nameable f q → Names f q (release_answer (plan_of f) l)
  release_names (line h b []) n = n
  release_names (line h b (turn k u us ∷ rest)) n = n

module _ (f : List ℕ) (bytes : (k : ℕ) → k < length f → get_or f k 0 < 256) (s : State) where
  -- a call that is not refused
  reply_names : (c : Call) (q : ℕ)
      → (call_code (plan_of f) (shows (plan_of f) s) c ≡ 0 → Checked f → Names f q (accepted_answer (plan_of f) (shows (plan_of f) s) c))
      → Names f q (reply f s c)
  unfolding reply call_refusal
  reply_names c q n =
      by_eq (λ (b : Bool). Names f q (cond b (accepted_answer (plan_of f) (shows (plan_of f) s) c) (Refused (call_refusal f s c)))) (call_refusal f s c) 0
      (λ e. n (then_zero (state_refusal f s) _ e) (accepted_checked (record { none = first_zero (refusal f) _ (first_zero (state_refusal f s) _ e); bytes = bytes })))
      (λ d. tt)

  -- bytes that are a call
  each_names : ℕ → List Call → Type 0
  each_names q [] = Unit {0}
  each_names q (c ∷ cs) = Names f q (reply f s c)

  bytes_name : (letter tag q : ℕ) → each_names q (call_of letter tag q)
  unfolding call_of each_names request_code
  bytes_name letter tag q =
      when (eqb letter 81) (Request tag q ∷ []) _ asks
      (when (eqb letter 82) (Release tag q ∷ []) _ frees
      (when (eqb letter 87) (GiveUp tag q ∷ []) _ quits
      (when (eqb letter 84 && (eqb tag 0 && eqb q 0)) (Tick ∷ []) [] ticks tt)))
    where
      when : (b : Bool) (x y : List Call) → each_names q x → each_names q y → each_names q (cond b x y)
      when true x y h g = h
      when false x y h g = g

      asks : Names f q (reply f s (Request tag q))
      asks =
          reply_names (Request tag q) q (λ e h.
          request_names f q (task_number (plan_of f) tag) ((shows (plan_of f) s).lines q)
          (record { plan = h; below = (use_clear (plan_of f) tag q (first_zero (use_code (plan_of f) tag q) _ e)).resource }))

      frees : Names f q (reply f s (Release tag q))
      frees =
          reply_names (Release tag q) q (λ e h.
          release_names f q (released (terms (plan_of f) q) ((shows (plan_of f) s).lines q))
          (record { plan = h; below = named_resource (plan_of f) tag q (line_named (plan_of f) holds 15 (shows (plan_of f) s) tag q e) }))

      quits : Names f q (reply f s (GiveUp tag q))
      quits =
          reply_names (GiveUp tag q) q (λ e h.
          record { plan = h; below = named_resource (plan_of f) tag q (line_named (plan_of f) waiting 22 (shows (plan_of f) s) tag q e) })

      ticks : Names f q (reply f s Tick)
      ticks = reply_names Tick q (λ e h. tt)

  pub call_names : (b : CallBytes) (c : Call) → call_in b ≡ c ∷ [] → Names f b.resource (reply f s c)
  unfolding each_names
  call_names b c e = rw e at (bytes_name b.letter b.tag b.resource)
