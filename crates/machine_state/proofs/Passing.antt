-- The queue of a resource by what is left of its processors' first seats, what a test that has passed tells of its head, and the
-- row of a free resource.
use Rattle.std.specs.Int.{w64, from_le_bytes}
use Rattle.std.proofs.lemmas.Grind.{common_steps}
use Rattle.std.proofs.lemmas.Bool.Decides.{nat_tests}
use Rattle.machine_state.proofs.Ground.{ℕ, ◌+◌, ◌<◌, ◌≤◌, Bool, true, false, cond, ◌&&◌, and_assoc, ◌≡◌, ◌≢◌, ◌∙◌, List, eqb, length}
use Rattle.machine_state.proofs.Ground.{get_or, set, get_or-set_same, get_or-set_other, arith, most_processors, all_below, any_below}
use Rattle.machine_state.proofs.Ground.{number, all_at, all_same, LineRow, Headed, first_seat, tail_test, slot_test, core_test}
use Rattle.machine_state.proofs.Ground.{queue_test, clock_test, free_test, line_test}
use Rattle.folds.proofs.Ground.{or-false}
use Rattle.folds.proofs.Tests.{all_fails}
use Rattle.machine_state.specs.Inner.{stands}
use Rattle.machine_state.proofs.Numbers.{all_zero, le_bytes}

module _ (seats : List ℕ) (q : ℕ) (queue : List ℕ) where
  -- the first seats of the processors that stand in none of the first n slots, 0 for the others
  abbrev pub Struck : ℕ → List ℕ → Type 0
  Struck n rest = (k : ℕ) → k < most_processors → get_or rest k 0 ≡ cond (stands queue n k) 0 (first_seat seats q k)

  -- a turn: the processor in slot n is there, and is struck off
  pub slot_passes : (n k : ℕ) (rest : List ℕ) → k ≡ get_or queue n 0 → k < most_processors → get_or rest k 0 ≢ 0 → Struck n rest
      → slot_test seats q queue n ≡ true
  unfolding slot_test
  slot_passes n k rest e l h r = grind (arith, common_steps, r k l)

  pub struck_more : (n k : ℕ) (rest : List ℕ) → length rest ≡ most_processors → k ≡ get_or queue n 0 → Struck n rest → Struck (n + 1) (set rest k 0)
  unfolding any_below
  struck_more n k rest long e r j l = grind (arith, nat_tests, get_or-set_same, get_or-set_other, r j l)

  -- the test of the processors by them
  pub cores_are : (c : ℕ) (rest : List ℕ) → Struck c rest → eqb (number 8 rest 0) 0 ≡ all_below most_processors (core_test seats q queue c)
  unfolding core_test
  cores_are c rest r =
      all_zero rest
      ∙ all_same most_processors (λ k. eqb (get_or rest k 0) 0) (core_test seats q queue c) (λ k l. grind (arith, nat_tests, r k l))

  -- a slot that fails, and the end of the loop over the slots
  pub slot_fails : (c i : ℕ) → i < c → slot_test seats q queue i ≡ false → false ≡ queue_test seats q queue c
  unfolding queue_test
  slot_fails c i l e = rw (all_fails c i (slot_test seats q queue) l e)

  pub slots_done : (c i : ℕ) (rest : List ℕ) {tail : Bool} {n : ℕ} → i ≡ c → Struck i rest → all_below i (slot_test seats q queue) ≡ true
      → tail ≡ tail_test queue c → n ≡ from_le_bytes w64 rest → (tail && eqb n 0) ≡ queue_test seats q queue c
  unfolding queue_test
  slots_done c i rest e r slots t b = rw (rw e at slots, t, le_bytes rest b, cores_are i rest r, e)

-- the head of a queue that passes, and its first task
pub head_passed : (seats : List ℕ) (q : ℕ) (l : LineRow) → queue_test seats q l.queue l.queued ≡ true → 1 ≤ l.queued → Headed seats q l
unfolding queue_test slot_test
head_passed seats q l e some =
    let passed : all_below l.queued (slot_test seats q l.queue) ≡ true = grind (arith, nat_tests) in
    let first : slot_test seats q l.queue 0 ≡ true = all_at l.queued 0 (slot_test seats q l.queue) passed some in
    record { placed = grind (arith, nat_tests); some = grind (arith, nat_tests) }

-- the row of a free resource
pub free_line_lem : (figures seats : List ℕ) (q : ℕ) (l : LineRow) → l.queued ≡ 0 → line_test figures seats q l ≡ free_test seats q l
unfolding free_test line_test queue_test core_test clock_test all_below any_below
free_line_lem figures seats q l e = rw e (simp (or-false, and_assoc))
