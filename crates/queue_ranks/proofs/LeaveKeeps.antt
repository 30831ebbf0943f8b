-- A line that is sound stays so when the first task of the head leaves, and is when a head begins.
use Rattle.queue_ranks.proofs.Ground.{ℕ, suc, ◌-◌, ◌<◌, ◌≤◌, ◌≡◌, refl, ap, ◌∙◌, arith, max_below, Terms, Clock, task_ranked}
use Rattle.queue_ranks.proofs.Ranked.{Ranked, Queued, Timed, held_timed, task_rank, owner, ranked_at, sole, full}
use Rattle.queue_ranks.proofs.Same.{other_ranked, other_max}
use Rattle.queue_ranks.proofs.Slots.{slots_stay, slots_first, slots_back}
use Rattle.queue_ranks.proofs.Leave.{Leaves, leave_other, leave_max, leave_task}

-- ── ranks ──
pub leave_ranked : {n : ℕ} {t : Terms} {R S : ℕ → ℕ → ℕ} {k : ℕ} → Leaves n R S k → Ranked n t R → Ranked n t S
leave_ranked {n} {t} {R} {S} {k} x r = other_ranked (leave_other x) r (record {
  own = λ u l a. owner r k u l (omega (arith, x.fall u l));
  alone = λ u l a. let f : suc (S k u) ≡ R k u = omega (arith, x.fall u l) in leave_task x (S k u) a ∙ rw f (sole r k u l (omega arith));
  backed = λ u l a. let f : suc (S k u - 1) ≡ R k u - 1 = omega (arith, x.fall u l) in
      rw (leave_task x (S k u - 1) (omega arith), f) ((ranked_at r k).backed u l (omega arith));
  uses = λ u l a. (ranked_at r k).uses u l (omega (arith, x.fall u l));
})

-- ── the queue of processors; the head is g 0, c others are queued ──
module _ {n m : ℕ} {R S : ℕ → ℕ → ℕ} {c : ℕ} {g : ℕ → ℕ} (x : Leaves n R S (g 0)) (w : Queued n m R (suc c) g) where
  -- the next task is granted
  pub next_queued : 2 ≤ max_below n (R (g 0)) → Queued n m S (suc c) g
  next_queued a = slots_stay (other_max (leave_other x)) w (omega arith) (omega (arith, leave_max x))

  -- the processor leaves
  pub last_queued : (f : ℕ → ℕ) → max_below n (R (g 0)) ≤ 1 → ((j : ℕ) → j < c → f j ≡ g (suc j)) → Queued n m S c f
  last_queued f a same = slots_first (other_max (leave_other x)) f w refl (omega (arith, leave_max x)) same

  -- the processor goes to the tail
  pub back_queued : (f : ℕ → ℕ) → 2 ≤ max_below n (R (g 0)) → ((j : ℕ) → j < c → f j ≡ g (suc j)) → f c ≡ g 0 → Queued n m S (suc c) f
  back_queued f a same last = slots_back f (other_max (leave_other x)) w (omega (arith, leave_max x)) same last

-- ── the hold and the budget left ──
pub free_timed : (n : ℕ) (t : Terms) (R : ℕ → ℕ → ℕ) (c : ℕ) (g : ℕ → ℕ) → c ≡ 0 → Timed n t R c g 0 0
free_timed n t R c g e = record { idle = λ _. (refl, refl); runs = λ a. omega arith }

-- a tick that does not end the hold
pub tick_timed : {n : ℕ} {t : Terms} {R : ℕ → ℕ → ℕ} {c : ℕ} {g : ℕ → ℕ} {h b : ℕ} → Timed n t R c g h b → 1 ≤ c → 2 ≤ h
    → Timed n t R c g (h - 1) (b - 1)
tick_timed k a l = let (one, lent, covered, budgeted) = k.runs a in held_timed a (omega arith)

module _ {n : ℕ} {t : Terms} {R : ℕ → ℕ → ℕ} (r : Ranked n t R) (within : (u : ℕ) → u < n → t.hold u ≤ t.budget (t.processor u)) where
  -- the first task of a queue has a hold time, and it is within the budget
  first_fits : (k : ℕ) → 1 ≤ max_below n (R k) → let h : ℕ = t.hold (task_ranked n (R k) 1) in Clock h (t.budget k) h (t.budget k)
  first_fits k a =
      let u : ℕ = task_ranked n (R k) 1 in
      let l : u < n = full r k 1 (omega arith) a in
      let e : R k u ≡ 1 = task_rank n 1 (R k) l in
      omega (arith, (ranked_at r k).uses u l (omega arith), within u l, ap t.budget (owner r k u l (omega arith)))

  pub begin_timed : {m : ℕ} (c : ℕ) (g : ℕ → ℕ) → Queued n m R c g → 1 ≤ c → Timed n t R c g (t.hold (task_ranked n (R (g 0)) 1)) (t.budget (g 0))
  begin_timed c g w a = held_timed a (first_fits (g 0) (w.served 0 a))

  pub next_timed : (c : ℕ) (g : ℕ → ℕ) (b : ℕ) → 1 ≤ max_below n (R (g 0)) → t.hold (task_ranked n (R (g 0)) 1) ≤ b → b ≤ t.budget (g 0) → 1 ≤ c
      → Timed n t R c g (t.hold (task_ranked n (R (g 0)) 1)) b
  next_timed c g b a l z o = let x = first_fits (g 0) a in held_timed o (omega arith)
