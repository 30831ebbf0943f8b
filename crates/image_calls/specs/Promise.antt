-- The promise for images. Document 02 §3: "Where each call, no start among them, gets the same plan and the image that the last one left,
-- whoever waits in a sound image and does not give up is served within the limit, counted from that image."
use Rattle.std.specs.Prelude.{ℕ, List, [], ◌∷◌, ◌++◌, ◌≢◌, ◌≡◌}
use Rattle.plan_reading.specs.Plan.{plan_of}
use Rattle.plan.specs.Acceptance.{Accepted}
use Rattle.machine_rules.specs.declared.Call.{Call}
use Rattle.machine_rules.specs.Machine.{answer, after}
use Rattle.machine_rules.specs.Waiting.{Served}
use Rattle.image.specs.Image.{shown_in}
use Rattle.image_calls.specs.Replies.{image_refusal, image_reply, NextImage}

-- The bytes that the functions leave after a list of calls, the first made on b: each "gets the same plan and the image that the last one
-- left". `NextImage` is the contract of each of them
pub data LeftBy (f b : List ℕ) : List Call → List ℕ → Type 0 where
  begun : LeftBy f b [] b
  called : {cs : List Call} {l next : List ℕ} {c : Call} → LeftBy f b cs l → NextImage f l c next → LeftBy f b (cs ++ (c ∷ [])) next

-- what is promised for a plan file, an image and a list of calls
pub record ImagePromise (f b : List ℕ) (calls : List Call) : Type 0 where
  -- Nobody who waits is kept past the limit, and so for each core in the queue. Whoever waits in the image b is its field `start`: a task
  -- is granted or gives up within the limit for those ahead of it in the image, whole hold times, and a core queued without the resource
  -- is head, or gone by its own give-up, within its wait time
  pub waiting : Served (plan_of f) (shown_in (plan_of f) b) calls
  -- what each call is answered, on the image that the calls before it left, is what the rules say after these
  pub answers : (before since : List Call) (c : Call) → calls ≡ before ++ (c ∷ since) → (l : List ℕ) → LeftBy f b before l
      → image_reply f l c ≡ answer (plan_of f) (after (plan_of f) (shown_in (plan_of f) b) before) c
  -- and each image that they leave is sound, and shows what the rules say
  pub images : (before since : List Call) → calls ≡ before ++ since → (l : List ℕ) → LeftBy f b before l
      → (image_refusal f l ≡ 0) × (shown_in (plan_of f) l ≡ after (plan_of f) (shown_in (plan_of f) b) before)

-- for every plan file that is accepted, every sound image with room for it, and every list of calls
abbrev pub FromImage : Type 0
FromImage = (f b : List ℕ) → Accepted f → image_refusal f b ≡ 0 → (calls : List Call) → ImagePromise f b calls

-- what a function gives that makes a list of calls on lent bytes
pub record ImageRan (f b : List ℕ) (calls : List Call) (end : List ℕ) : Type 0 where
  pub left : LeftBy f b calls end
  -- as they were where the plan is refused, they are too short or the image is not sound, since each call is refused then
  pub unchanged : image_refusal f b ≢ 0 → end ≡ b
  -- else the promise holds of the calls, and the image is sound and shows what the rules make of them
  pub promise : image_refusal f b ≡ 0 → ImagePromise f b calls
  pub sound : image_refusal f b ≡ 0 → image_refusal f end ≡ 0
  pub shows : image_refusal f b ≡ 0 → shown_in (plan_of f) end ≡ after (plan_of f) (shown_in (plan_of f) b) calls
