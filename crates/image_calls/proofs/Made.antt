-- What a start and a call make of lent bytes: refused, or done.
use Rattle.image_calls.proofs.Ground.{ℕ, ◌<◌, ◌≤◌, true, false, ◌≡◌, refl, sym, ap, ◌∙◌, List, length, arith, eq-eqb, ne_eqb, le-leb, lt-leb}
use Rattle.image_calls.proofs.Ground.{refusal, plan_of, Valid, most_resources, most_tasks, short_image, unsound_image, Call}
use Rattle.image_calls.proofs.Ground.{Refused, call_code, step, fresh_state, shows, sound, fresh_sound, fresh_shows, Reply, Acted}
use Rattle.image_calls.proofs.Ground.{State, View, image_length, image_with, shown_in, state_in, image_sound, kept_long, stored_sound}
use Rattle.image_calls.proofs.Ground.{loaded_shows, lent_refusal, image_refusal, image_call_refusal, image_reply, image_after, image_started}
use Rattle.image_calls.proofs.Ground.{StartedImage, NextImage, Made, code_zero, then_zero}
use Rattle.folds.proofs.Ground.{leb, leb-true}

module _ (f b : List ℕ) where
  -- 1 to 9
  pub plan_lent : {k : ℕ} → k ≡ refusal f → (k ≡ 0 → ⊥) → lent_refusal f b ≡ k
  unfolding lent_refusal
  plan_lent e d = rw (← e, ne_eqb _ _ d)

  -- 24
  pub short_lent : refusal f ≡ 0 → length b < image_length (plan_of f) → lent_refusal f b ≡ short_image
  unfolding lent_refusal
  short_lent z l = rw (eq-eqb _ _ z, lt-leb _ _ l)

  pub room_lent : refusal f ≡ 0 → image_length (plan_of f) ≤ length b → lent_refusal f b ≡ 0
  unfolding lent_refusal
  room_lent z l = rw (eq-eqb _ _ z, le-leb _ _ l)

  -- where there is none, there is room
  pub room_left : refusal f ≡ 0 → lent_refusal f b ≡ 0 → image_length (plan_of f) ≤ length b
  unfolding lent_refusal
  room_left z e = leb-true _ _ (code_zero (leb (image_length (plan_of f)) (length b)) 0 23 (then_zero (refusal f) _ e))

  -- these come before what is asked of the image
  pub lent_first : {k : ℕ} → lent_refusal f b ≡ k → (k ≡ 0 → ⊥) → image_refusal f b ≡ k
  unfolding image_refusal
  lent_first e d = rw (e, ne_eqb _ _ d)

  -- 25
  pub unsound_image_lem : lent_refusal f b ≡ 0 → image_sound (plan_of f) b ≡ false → image_refusal f b ≡ unsound_image
  unfolding image_refusal
  unsound_image_lem z h = rw (z, h)

  pub sound_image : lent_refusal f b ≡ 0 → image_sound (plan_of f) b ≡ true → image_refusal f b ≡ 0
  unfolding image_refusal
  sound_image z h = rw (z, h)

  module _ (c : Call) where
    -- and before the call's own
    pub image_first : {k : ℕ} → image_refusal f b ≡ k → (k ≡ 0 → ⊥) → image_call_refusal f b c ≡ k
    unfolding image_call_refusal
    image_first e d = rw (e, ne_eqb _ _ d)

    pub own_code : image_refusal f b ≡ 0 → image_call_refusal f b c ≡ call_code (plan_of f) (shown_in (plan_of f) b) c
    unfolding image_call_refusal
    own_code z = rw z

    -- a call that is refused
    pub refused_next : {k : ℕ} → image_call_refusal f b c ≡ k → (k ≡ 0 → ⊥) → NextImage f b c b
    unfolding image_after step
    refused_next e d =
        record {
          bytes = rw (e, ne_eqb _ _ d);
          sound = λ z. z;
          shows = λ z. rw (ne_eqb (call_code (plan_of f) (shown_in (plan_of f) b) c) 0 (λ y. d (sym e ∙ own_code z ∙ y)));
        }

    pub refused : {k : ℕ} → image_call_refusal f b c ≡ k → (k ≡ 0 → ⊥) → Made f b c (Refused k) b
    unfolding image_reply
    refused e d = record { answer = rw (e, ne_eqb _ _ d); next = refused_next e d }

-- an image that is stored is sound
stored_code : (f b : List ℕ) → Valid (plan_of f) → (s : State) → refusal f ≡ 0 → image_length (plan_of f) ≤ length b → sound (plan_of f) s ≡ true
    → length s.lines ≡ most_resources → length s.tasks ≡ most_tasks → image_refusal f (image_with (plan_of f) (shows (plan_of f) s) b) ≡ 0
stored_code f b v s z room h m n =
    let next = image_with (plan_of f) (shows (plan_of f) s) b in
    sound_image f next (room_lent f next z (omega (arith, kept_long (plan_of f) (shows (plan_of f) s) b room, room)))
    (stored_sound (plan_of f) v s h b m n)

-- a call that is made
pub done : (f b : List ℕ) (c : Call) (r : Reply) {next : List ℕ} → Valid (plan_of f) → refusal f ≡ 0 → image_length (plan_of f) ≤ length b
    → image_refusal f b ≡ 0 → call_code (plan_of f) (shown_in (plan_of f) b) c ≡ 0 → Acted (plan_of f) (state_in (plan_of f) b) c r
    → next ≡ image_with (plan_of f) (shows (plan_of f) r.state) b
    → (length r.state.lines ≡ most_resources) × (length r.state.tasks ≡ most_tasks) → Made f b c r.answer next
unfolding image_reply image_after step
done f b c r v none room z own a e long =
    let k : image_call_refusal f b c ≡ 0 = own_code f b c z ∙ own in
    record {
      answer = rw k a.answer;
      next = record {
        bytes = rw (k, own) (e ∙ ap (λ (x : View). image_with (plan_of f) x b) a.shows);
        sound = λ _. rw e (stored_code f b v r.state none room a.sound long.0 long.1);
        shows = λ _. rw (own, e) (loaded_shows (plan_of f) v r.state a.sound b long.0 long.1 ∙ a.shows);
      };
    }

-- a start that is refused, and one that is made
pub start_refused : (f b : List ℕ) {k : ℕ} → lent_refusal f b ≡ k → (k ≡ 0 → ⊥) → StartedImage f b b
unfolding image_started
start_refused f b e d =
    record { bytes = rw (e, ne_eqb _ _ d); sound = λ z. absurd (d (sym e ∙ z)); shows = λ z. absurd (d (sym e ∙ z)) }

pub start_done : (f b : List ℕ) {next : List ℕ} → Valid (plan_of f) → refusal f ≡ 0 → image_length (plan_of f) ≤ length b
    → next ≡ image_with (plan_of f) (shows (plan_of f) fresh_state) b → StartedImage f b next
unfolding image_started
start_done f b v none room e =
    let h = fresh_sound (plan_of f) v in
    record {
      bytes = rw (room_lent f b none room) (e ∙ ap (λ (x : View). image_with (plan_of f) x b) (fresh_shows (plan_of f)));
      sound = λ _. rw e (stored_code f b v fresh_state none room h refl refl);
      shows = λ _. rw e (loaded_shows (plan_of f) v fresh_state h b refl refl ∙ fresh_shows (plan_of f));
    }
