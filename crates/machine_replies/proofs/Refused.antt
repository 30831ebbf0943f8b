-- A release and a give-up: the numbers by which they are refused.
use Rattle.machine_replies.proofs.Ground.{ℕ, ◌+◌, ◌<◌, ◌≤◌, Bool, cond, ◌≡◌, sym, ◌∙◌, List, eqb, get_or, arith, ne_eqb, most_resources}
use Rattle.machine_replies.proofs.Ground.{Plan, Valid, plan_of, valid_plan, task_number, named_code, State, standing, line_at, slot, shows, Whole}
use Rattle.machine_replies.proofs.Ground.{whole_of}
use Rattle.folds.proofs.Ground.{◌&&◌, not}
use Rattle.folds.proofs.Arrays.{by_eq}
use Rattle.queue_rules.specs.Rules.{holds, waiting}
use Rattle.machine_rules.proofs.LineCodes.{named_task, named_resource}
use Rattle.machine_state.proofs.Told.{stands_is}
use Rattle.machine_state.specs.Inner.{seat}
use Rattle.machine_steps.proofs.Leaving.{head_low, holder_none, holder_seat_lem}
use Rattle.machine_replies.specs.Inner.{OnSeats, HeadOf, holder_seat}
use Rattle.plan_reading.specs.Plan.{Checked}

-- ── who holds, and who waits ──
module _ (f : List ℕ) (s : State) (seats : List ℕ) (o : OnSeats f s seats) where
  abbrev p : Plan
  p = plan_of f

  v : Valid p
  v = valid_plan f o.plan

  w : Whole p s
  w = whole_of p v s o.sound

  pub head_of : (q : ℕ) → q < p.resources → HeadOf seats q (line_at s q)
  head_of q l =
      let low : q < most_resources = omega (arith, v.resources) in
      record { table = record { long = o.seated.long; resource = low }; placed = λ n. head_low p v s w q low (omega arith) }

  pub holds_told : (i q : ℕ) → q < p.resources → eqb (holder_seat seats q (line_at s q)) (i + 1) ≡ holds i ((shows p s).lines q)
  unfolding holder_seat
  holds_told i q l =
      let low : q < most_resources = omega (arith, v.resources) in
      let first : ℕ = get_or seats (seat q (slot (line_at s q) 0) 0) 0 in
      by_eq (λ (d : Bool). eqb (cond d 0 first) (i + 1) ≡ holds i ((shows p s).lines q)) (line_at s q).queued 0
      (λ e. ne_eqb 0 (i + 1) (λ z. omega arith) ∙ sym (holder_none p s q i e))
      (λ n. sym (holder_seat_lem p v s w q low (omega arith) o.seated i))

  pub waits_told : (tag q : ℕ) → named_code p tag q ≡ 0
      → waiting (task_number p tag) ((shows p s).lines q)
      ≡ (eqb (standing s.tasks (task_number p tag)).resource q && not (holds (task_number p tag) ((shows p s).lines q)))
  waits_told tag q e = rw (stands_is p v s w (task_number p tag) (named_task p tag q e) q (named_resource p tag q e))

-- ── what is there ──
pub resources_few : (f : List ℕ) → Checked f → (plan_of f).resources ≤ 16
resources_few f c = (valid_plan f c).resources

pub named_low : (f : List ℕ) (tag q : ℕ) → Checked f → named_code (plan_of f) tag q ≡ 0 → task_number (plan_of f) tag < 64
named_low f tag q c e = omega (arith, named_task (plan_of f) tag q e, (valid_plan f c).tasks)
