-- Document 02 §3: what a start and a call do with a plan file and an image, and what they refuse.
use Rattle.std.specs.Prelude.{ℕ, cond, List, [], ◌∷◌, ◌≡◌, eqb, leb, length}
use Rattle.refusals.specs.Numbers.{short_image, unsound_image}
use Rattle.plan.specs.Acceptance.{refusal}
use Rattle.plan_reading.specs.Plan.{plan_of}
use Rattle.machine_rules.specs.declared.Call.{Call}
use Rattle.machine_rules.specs.declared.Answer.{Answer}
use Rattle.machine_rules.specs.declared.Answer.TheVariants.{Refused}
use Rattle.machine_rules.specs.Machine.{fresh, call_code, step, accepted_answer}
use Rattle.image.specs.Layout.{image_length}
use Rattle.image.specs.Image.{image_with, shown_in}
use Rattle.image.specs.Sound.{image_sound}

-- 1 to 9; "24 when the lent state is shorter than the plan's image, right after the plan's checks"; 0 for none. A start refuses nothing
-- further
unfoldable pub lent_refusal : List ℕ → List ℕ → ℕ
lent_refusal f b = cond (eqb (refusal f) 0) (cond (leb (image_length (plan_of f)) (length b)) 0 short_image) (refusal f)

-- "25 when the image is not sound (start aside), right after 24, in the place of 19"
unfoldable pub image_refusal : List ℕ → List ℕ → ℕ
image_refusal f b = cond (eqb (lent_refusal f b) 0) (cond (image_sound (plan_of f) b) 0 unsound_image) (lent_refusal f b)

-- then the call's own, by the rules on what the image shows
unfoldable pub image_call_refusal : List ℕ → List ℕ → Call → ℕ
image_call_refusal f b c = cond (eqb (image_refusal f b) 0) (call_code (plan_of f) (shown_in (plan_of f) b) c) (image_refusal f b)

-- what the call is answered: by the rules on what the image shows, or the refusal
unfoldable pub image_reply : List ℕ → List ℕ → Call → Answer
image_reply f b c =
    cond (eqb (image_call_refusal f b c) 0) (accepted_answer (plan_of f) (shown_in (plan_of f) b) c) (Refused (image_call_refusal f b c))

-- the lent bytes after the call: as they were where it is refused, else the image of what the rules make of what it showed, and behind it
-- as they were
unfoldable pub image_after : List ℕ → List ℕ → Call → List ℕ
image_after f b c = cond (eqb (image_call_refusal f b c) 0) (image_with (plan_of f) (step (plan_of f) (shown_in (plan_of f) b) c) b) b

-- the lent bytes after a start: as they were where it is refused, else the image of a fresh state, and behind it as they were
unfoldable pub image_started : List ℕ → List ℕ → List ℕ
image_started f b = cond (eqb (lent_refusal f b) 0) (image_with (plan_of f) fresh b) b

-- What a call leaves: these bytes; and where the image was sound they are a sound one again, which shows what the rules make of what it
-- showed, a refused call among them
pub record NextImage (f b : List ℕ) (c : Call) (next : List ℕ) : Type 0 where
  pub bytes : next ≡ image_after f b c
  pub sound : image_refusal f b ≡ 0 → image_refusal f next ≡ 0
  pub shows : image_refusal f b ≡ 0 → shown_in (plan_of f) next ≡ step (plan_of f) (shown_in (plan_of f) b) c

-- and what a start leaves
pub record StartedImage (f b next : List ℕ) : Type 0 where
  pub bytes : next ≡ image_started f b
  pub sound : lent_refusal f b ≡ 0 → image_refusal f next ≡ 0
  pub shows : lent_refusal f b ≡ 0 → shown_in (plan_of f) next ≡ fresh

-- the bytes after some that are one call or none: as they were where they are none
abbrev pub AfterLent : List ℕ → List ℕ → List Call → List ℕ → Type 0
AfterLent f b [] next = next ≡ b
AfterLent f b (c ∷ cs) next = NextImage f b c next
