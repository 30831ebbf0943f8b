-- What a checked file tells of its sections and of what they wait.
use Rattle.std.proofs.Common.{ℕ, ◌+◌, ◌-◌, ◌*◌, ◌/◌, ◌%◌, ◌<◌, ◌≡◌, min, true, false, List, get_or, replicate, arith}
use Rattle.std.proofs.lemmas.Nat.{div-mul-add}
use Rattle.std.proofs.lemmas.List.{get_or-replicate}
use Rattle.std.proofs.lemmas.Grind.{div_ceil_times}
use Rattle.plan_reading.specs.Plan.{plan_of, Checked}
use Rattle.plan_reading.proofs.Laws.{valid_plan}
use Rattle.analysis_equations.specs.Sharing.{uses, global}
use Rattle.analysis_equations.specs.HoldTimes.{hold_at}
use Rattle.analysis_equations.specs.Blocking.{ceil_div}
use Rattle.analysis_equations.proofs.Laws.{ceil_bound, uses_at, used_at, hold_zero, global_at, budget_low, budget_high, wait_high, fellow_high, section_wait_high, side_sections}
use Rattle.analysis_figures.specs.Figures.{hold_cell}
use Rattle.analysis_sides.specs.Inner.{SectionOf, WaitTold}
use Rattle.analysis_totals.proofs.Laws.{users}

-- a section names a task and a resource of the plan, and the task uses the resource
module _ (f : List ℕ) (s : ℕ) (h : Checked f) (l : s < (plan_of f).sections) where
  pub section_task : ((plan_of f).section s).task < (plan_of f).tasks
  section_task = ((valid_plan f h).section_fits s l).task

  pub section_resource : ((plan_of f).section s).resource < (plan_of f).resources
  section_resource = ((valid_plan f h).section_fits s l).resource

  pub section_uses : uses (plan_of f) ((plan_of f).section s).task ((plan_of f).section s).resource ≡ true
  section_uses = uses_at (plan_of f) s l

-- a quotient rounded up, as the machine has it
pub ceil_is : (a b : ℕ) → 0 < b → ceil_div a b ≡ a / b + min 1 (a % b)
ceil_is a b h =
    let q : ℕ = a / b + min 1 (a % b) in
    let t = div_ceil_times a b h in
    let r : ℕ = a + (b - 1) - q * b in
    let e : a + (b - 1) ≡ q * b + r = omega (arith, t) in
    rw e (div-mul-add q b r (omega (arith, t)))

-- a section's task that holds its resource for no time at all waits for none: the resource is local
pub wait_none : {f figures totals : List ℕ} {i q : ℕ} → SectionOf f figures totals i q → get_or figures (hold_cell i q) 0 ≡ 0 → WaitTold (plan_of f) i q 0
wait_none {f} {figures} {totals} {i} {q} a z =
    let none : hold_at (plan_of f) i q ≡ 0 = grind (arith, users) in
    let local : global (plan_of f) q ≡ false = grind (arith, hold_zero (plan_of f) (valid_plan f a.added.known.plan) i q) in
    record { told = rw local; high = omega arith }

-- a table with nothing in it
pub blank : (t : List ℕ) (i : ℕ) → t ≡ replicate 64 0 → i < 64 → get_or t i 0 ≡ 0
blank t i e l = rw e (get_or-replicate {A = ℕ} 64 i 0 0 l)

-- what the loop over the sections relies on, and the wait of one
pub ruleset sections = (users, valid_plan, section_task, section_resource, section_uses, side_sections, blank)

pub ruleset waits = (users, valid_plan, wait_none, ceil_is, ceil_bound, used_at, hold_zero, global_at, budget_low, budget_high, wait_high, fellow_high, section_wait_high)
