-- What a call is answered, refused or not: its number, and the cuts of a tick.
use Rattle.machine.proofs.Ground.{ℕ, Bool, true, cond, ◌≡◌, refl, sym, ap, ◌∙◌, List, [], ◌∷◌, ne_eqb, code_zero, first_zero}
use Rattle.machine.proofs.Ground.{then_zero, by_eq, refusal, Plan, plan_of, task_number, Call, Request, Release, GiveUp, Tick, Answer}
use Rattle.machine.proofs.Ground.{View, request_answer, answer_outcome, State, shows, sound, state_refusal, call_refusal, reply, Replied}
use Rattle.machine.proofs.Ground.{cuts_in}
use Rattle.folds.specs.Below.{count_below}
use Rattle.folds.proofs.WordLaws.{word_ones}
use Rattle.queue_rules.specs.Rules as Rules
use Rattle.queue_rules.specs.Rules.{line, turn, cut, released}
use Rattle.machine_rules.specs.declared.Answer.TheVariants.{Refused}
use Rattle.machine_rules.specs.Machine.{terms, release_answer, accepted_answer}
use Rattle.machine.specs.Replies.{reply_outcome, cut_count}
use Rattle.machine.specs.Inner.{refused_at}

-- an answer by the rules has number 0
request_number : (p : Plan) (i q : ℕ) (l : Rules.Line) → (answer_outcome (request_answer p i q l)).number ≡ 0
request_number p i q (line h b []) = refl
request_number p i q (line h b (x ∷ rest)) = refl

release_number : (p : Plan) (l : Rules.Line) → (answer_outcome (release_answer p l)).number ≡ 0
release_number p (line h b []) = refl
release_number p (line h b (turn k u us ∷ rest)) = refl

told_number : (p : Plan) (s : View) (c : Call) → (answer_outcome (accepted_answer p s c)).number ≡ 0
told_number p s (Request tag q) = request_number p (task_number p tag) q (s.lines q)
told_number p s (Release tag q) = release_number p (released (terms p q) (s.lines q))
told_number p s (GiveUp tag q) = refl
told_number p s Tick = refl

module _ (f : List ℕ) (s : State) where
  -- a reply tells why the call is refused, or 0 and the values
  pub reply_told : (c : Call) → answer_outcome (reply f s c) ≡ reply_outcome f s c
  unfolding reply reply_outcome
  reply_told c =
      let x : Answer = accepted_answer (plan_of f) (shows (plan_of f) s) c in
      let k : ℕ = call_refusal f s c in
      by_eq (λ (b : Bool). answer_outcome (cond b x (Refused k)) ≡ record { number = k; values = cond b (answer_outcome x).values [] }) k 0
      (λ e. ap (λ (n : ℕ). record { number = n; values = (answer_outcome x).values }) (told_number (plan_of f) (shows (plan_of f) s) c ∙ sym e))
      (λ d. refl)

  -- the ones in the first word of a tick's reply
  pub tick_cuts : cuts_in (reply f s Tick) ≡ cut_count f s
  unfolding reply cut_count
  tick_cuts =
      let l : View = shows (plan_of f) s in
      let k : ℕ = call_refusal f s Tick in
      by_eq (λ (b : Bool). cuts_in (cond b (accepted_answer (plan_of f) l Tick) (Refused k)) ≡ cond b (count_below 16 (λ q. cut (l.lines q))) 0) k 0
      (λ e. word_ones 16 (λ q. cut (l.lines q)))
      (λ d. refl)

  -- a call that is not refused is on a plan and a state that are not
  pub state_refusal_lem : (c : Call) → call_refusal f s c ≡ 0 → state_refusal f s ≡ 0
  unfolding call_refusal
  state_refusal_lem c e = first_zero (state_refusal f s) _ e

  pub state_accepted : state_refusal f s ≡ 0 → (refusal f ≡ 0) × (sound (plan_of f) s ≡ true)
  state_accepted z = (first_zero (refusal f) _ z, code_zero (sound (plan_of f) s) 0 18 (then_zero (refusal f) _ z))

  -- a plan that is refused
  pub plan_refused : (c : Call) {k : ℕ} → k ≡ refusal f → (k ≡ 0 → ⊥) → call_refusal f s c ≡ k
  unfolding call_refusal
  plan_refused c e d = rw (← e, ne_eqb _ _ d, ne_eqb _ _ d)

  -- a call that is refused
  pub refused_reply : (c : Call) {k : ℕ} → call_refusal f s c ≡ k → (k ≡ 0 → ⊥) → Replied f s c (refused_at s k)
  unfolding reply
  refused_reply c e d =
      let refused : call_refusal f s c ≡ 0 → ⊥ = λ z. d (sym e ∙ z) in
      record {
        answer = rw (e, ne_eqb _ _ d);
        next = record { unchanged = λ n. refl; sound = λ z. absurd (refused z); shows = λ z. absurd (refused z) };
      }

  pub plan_reply : (c : Call) {k : ℕ} → k ≡ refusal f → (k ≡ 0 → ⊥) → Replied f s c (refused_at s k)
  plan_reply c e d = refused_reply c (plan_refused c e d) d
