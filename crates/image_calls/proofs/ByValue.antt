-- A call on an image is the same call by value on the state that the image shows: the same refusal and answer, and what it leaves shows
-- the next state of that call.
use Rattle.image_calls.proofs.Ground.{ℕ, true, ◌≡◌, ◌∙◌, List, eq-eqb, refusal, Accepted, accepted_valid, plan_of, Call}
use Rattle.image_calls.proofs.Ground.{sound, ap, ne_eqb, state_in, image_state}
use Rattle.image_calls.proofs.Ground.{image_refusal, image_call_refusal, image_reply, image_after, NextImage}
use Rattle.machine.specs.Replies.{call_refusal, reply, Next}
use Rattle.image_calls.proofs.Made.{own_code}
use Rattle.image_calls.proofs.Kept.{image_accepted}

pub record ByValue (f b : List ℕ) (c : Call) (next : List ℕ) : Type 0 where
  pub refusal : image_call_refusal f b c ≡ call_refusal f (state_in (plan_of f) b) c
  pub answer : image_reply f b c ≡ reply f (state_in (plan_of f) b) c
  pub state : Next f (state_in (plan_of f) b) c (state_in (plan_of f) next)

pub by_value : (f b : List ℕ) → Accepted f → image_refusal f b ≡ 0 → (c : Call) (next : List ℕ) → NextImage f b c next → ByValue f b c next
unfolding call_refusal reply image_reply image_after
by_value f b k z c next n = record {
  refusal = same;
  answer = rw same;
  state = record {
    unchanged = λ d. ap (state_in (plan_of f)) (n.bytes ∙ rw (same, ne_eqb (call_refusal f (state_in (plan_of f) b) c) 0 d));
    sound = λ _. image_state (plan_of f) (accepted_valid k) next (image_accepted f next (n.sound z)).1;
    shows = λ _. n.shows z;
  };
}
  where
    h : sound (plan_of f) (state_in (plan_of f) b) ≡ true
    h = image_state (plan_of f) (accepted_valid k) b (image_accepted f b z).1

    same : image_call_refusal f b c ≡ call_refusal f (state_in (plan_of f) b) c
    same = own_code f b c z ∙ rw (eq-eqb (refusal f) 0 k.none, h)
