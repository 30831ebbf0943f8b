-- The promise for images: each image that calls leave is sound, and shows what the rules make of the calls.
use Rattle.image_calls.proofs.Ground.{ℕ, ◌<◌, true, ◌≡◌, refl, sym, ap, ◌∙◌, List, length, get_or, ne_eqb, first_zero, then_zero}
use Rattle.image_calls.proofs.Ground.{code_zero, refusal, accepted_valid, plan_of, most_resources, Call, View}
use Rattle.image_calls.proofs.Ground.{step, answer, after, fresh_state, shown_in, state_in, image_sound, image_state, lent_refusal}
use Rattle.image_calls.proofs.Ground.{image_refusal, image_call_refusal, image_reply, image_after, LeftBy, begun, called, ImageRan}
use Rattle.folds.proofs.Ground.{length-replicate}
use Rattle.folds.proofs.Arrays.{placed_length}
use Rattle.machine_rules.proofs.OnceLines.{Orderly}
use Rattle.machine_rules.proofs.Since.{after_last}
use Rattle.machine_rules.proofs.Promise.{all_served}
use Rattle.machine_state.specs.Shows.{free_line}
use Rattle.machine_state.proofs.Shown.{shown_orderly}
use Rattle.image.specs.Image.{line_in}
use Rattle.image_calls.specs.Promise.{FromImage}
use Rattle.image_calls.proofs.Made.{image_first}

-- what is known where an image is not refused
pub image_accepted : (f b : List ℕ) → image_refusal f b ≡ 0 → (refusal f ≡ 0) × (image_sound (plan_of f) b ≡ true)
unfolding image_refusal lent_refusal
image_accepted f b z = (first_zero (refusal f) _ (first_zero (lent_refusal f b) _ z), code_zero (image_sound (plan_of f) b) 0 24 (then_zero (lent_refusal f b) _ z))

-- on an image that is not refused a call is answered what the rules say
pub answered : (f b : List ℕ) (c : Call) → image_refusal f b ≡ 0 → image_reply f b c ≡ answer (plan_of f) (shown_in (plan_of f) b) c
unfolding image_reply image_call_refusal answer
answered f b c z = rw z

module _ (f b : List ℕ) (z : image_refusal f b ≡ 0) where
  -- each image that is left is sound, and shows what the rules make of the calls
  pub left_shows : (cs : List Call) (l : List ℕ) → LeftBy f b cs l
      → (image_refusal f l ≡ 0) × (shown_in (plan_of f) l ≡ after (plan_of f) (shown_in (plan_of f) b) cs)
  left_shows _ _ begun = (z, refl)
  left_shows _ _ (called {cs = cs} {l = l} {next = next} {c = c} before n) =
      let x = left_shows cs l before in (
        n.sound x.0,
        n.shows x.0 ∙ ap (λ (v : View). step (plan_of f) v c) x.1 ∙ sym (after_last (plan_of f) (shown_in (plan_of f) b) cs c),
      )

  -- each call is answered what the rules say
  pub left_answers : (cs : List Call) (l : List ℕ) (c : Call) → LeftBy f b cs l
      → image_reply f l c ≡ answer (plan_of f) (after (plan_of f) (shown_in (plan_of f) b) cs) c
  left_answers cs l c r =
      let x = left_shows cs l r in answered f l c x.0 ∙ ap (λ (v : View). answer (plan_of f) v c) x.1

-- the promise, from every sound image
pub from_image : FromImage
from_image f b k z calls =
    record {
      waiting = all_served (plan_of f) (accepted_valid k) (shown_in (plan_of f) b) orderly calls;
      answers = λ before since c e l r. left_answers f b z before l c r;
      images = λ before since e l r. left_shows f b z before l r;
    }
  where
    lines : length (state_in (plan_of f) b).lines ≡ most_resources
    lines = placed_length (plan_of f).resources (line_in b) fresh_state.lines ∙ length-replicate most_resources free_line

    orderly : Orderly (plan_of f) (shown_in (plan_of f) b)
    orderly =
        shown_orderly (plan_of f) (accepted_valid k) (state_in (plan_of f) b) lines
        (image_state (plan_of f) (accepted_valid k) b (image_accepted f b z).1)

-- where each call is refused, nothing changes
pub left_refused : (f b : List ℕ) → (image_refusal f b ≡ 0 → ⊥) → (cs : List Call) (l : List ℕ) → LeftBy f b cs l → l ≡ b
unfolding image_after
left_refused f b d _ _ begun = refl
left_refused f b d _ _ (called {cs} {l} {next} {c} r n) =
    let e = left_refused f b d cs l r in
    let k : image_call_refusal f l c ≡ image_refusal f l = image_first f l c refl (λ y. d (rw e at y)) in
    n.bytes ∙ rw (k, ne_eqb (image_refusal f l) 0 (λ y. d (rw e at y))) e

-- what is known of the bytes once a list of calls was made, where the file is one of bytes
pub image_ran : (f b : List ℕ) → ((i : ℕ) → i < length f → get_or f i 0 < 256) → (calls : List Call) (end : List ℕ) → LeftBy f b calls end
    → ImageRan f b calls end
image_ran f b bytes calls end r =
    record {
      left = r;
      unchanged = λ d. left_refused f b d calls end r;
      promise = λ z. from_image f b (record { none = (image_accepted f b z).0; bytes = bytes }) z calls;
      sound = λ z. (left_shows f b z calls end r).0;
      shows = λ z. (left_shows f b z calls end r).1;
    }
