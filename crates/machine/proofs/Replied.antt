-- A call on a plan that is accepted: its refusal, and the reply where there is none.
use Rattle.machine.proofs.Ground.{ℕ, true, false, ◌≡◌, ◌∙◌, List, eq-eqb, refusal, plan_of, Call, call_code, step, answer, State}
use Rattle.machine.proofs.Ground.{shows, sound, call_refusal, reply, Acted, Replied}
use Rattle.refusals.specs.Numbers.{unsound}
use Rattle.machine_replies.specs.declared.Reply.{Reply}

module _ (f : List ℕ) (none : refusal f ≡ 0) (s : State) (c : Call) where
  pub unsound_code : sound (plan_of f) s ≡ false → call_refusal f s c ≡ unsound
  unfolding call_refusal
  unsound_code h = rw (eq-eqb (refusal f) 0 none, h)

  pub sound_code : sound (plan_of f) s ≡ true → call_refusal f s c ≡ call_code (plan_of f) (shows (plan_of f) s) c
  unfolding call_refusal
  sound_code h = rw (eq-eqb (refusal f) 0 none, h)

  pub sound_answer : sound (plan_of f) s ≡ true → answer (plan_of f) (shows (plan_of f) s) c ≡ reply f s c
  unfolding answer reply
  sound_answer h = rw (sound_code h)

  pub acted_reply : sound (plan_of f) s ≡ true → call_code (plan_of f) (shows (plan_of f) s) c ≡ 0
      → {r : Reply} → Acted (plan_of f) s c r → Replied f s c r
  unfolding reply step
  acted_reply h z d =
      let k : call_refusal f s c ≡ 0 = sound_code h ∙ z in
      record {
        answer = rw k d.answer;
        next = record { unchanged = λ n. absurd (n k); sound = λ y. d.sound; shows = λ y. rw z d.shows };
      }
