-- What the bound on waiting asks of a plan's figures, and of the tasks that come to a line.
use Rattle.machine_rules.proofs.Ground.{ℕ, Bool, true, false, ◌&&◌, ◌≡◌, arith, and_parts, is_not_true, first_zero, Plan, Valid}
use Rattle.machine_rules.proofs.Ground.{uses, global, hold_at, wait_time, task_number, use_code, Sharing, use_clear, Line, in_line, View}
use Rattle.machine_rules.proofs.Ground.{terms, busy, request_code}
use Rattle.folds.proofs.Tests.{then_zero, any_at}
use Rattle.analysis_equations.proofs.Laws.{uses_out, hold_low, hold_within}
use Rattle.queue_rules.proofs.Sound.{Fits, Sound}

-- the tasks that may come to the line of q: its users, where it is global
abbrev pub known : Plan → ℕ → ℕ → Bool
known p q i = global p q && uses p i q

abbrev pub SoundAt : Plan → ℕ → Line → Type 0
SoundAt p q l = Sound (terms p q) (known p q) p.processors l

-- a request that is not refused
pub record Accepted (p : Plan) (s : View) (i q : ℕ) : Type 0 where
  pub user : known p q i ≡ true
  pub new : in_line i (s.lines q) ≡ false

module _ (p : Plan) where
  pub accepted : (s : View) (tag q : ℕ) → request_code p s tag q ≡ 0 → Accepted p s (task_number p tag) q
  unfolding request_code busy
  accepted s tag q e =
      let x = use_clear p tag q (first_zero (use_code p tag q) _ e) in
      let idle = then_zero (use_code p tag q) _ e in
      record {
        user = rw (x.shared, x.used);
        new = is_not_true _
            (λ h. let z : ◌≡◌ {A = ℕ} 15 0 = rw (any_at p.resources q (λ r. in_line (task_number p tag) (s.lines r)) x.resource h) at idle in
            omega arith);
      }

module _ (p : Plan) (v : Valid p) where
  -- what is known of a task that may come
  pub known_sharing : (i q : ℕ) → known p q i ≡ true → Sharing p i q
  known_sharing i q k =
      let (g, u) = and_parts (global p q) (uses p i q) k in
      uses_out p i q _ u
      (λ s l t r. let fits = v.section_fits s l in
      record { task = rw (← t) fits.task; resource = rw (← r) fits.resource; used = u; shared = g })

  -- the figures of the analysis are what the bound asks for
  pub fits : (q : ℕ) → Fits (terms p q) (known p q) p.processors
  unfolding hold_at wait_time
  fits q =
      record {
        some = λ i k. rw k (hold_low p v i q (known_sharing i q k).used);
        within = λ i k. hold_within p i q (known_sharing i q k).task;
        placed = λ i k. (v.every_task_fits i (known_sharing i q k).task).processor;
        waits = λ k. omega arith;
      }
