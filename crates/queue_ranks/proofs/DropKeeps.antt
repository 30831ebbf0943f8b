-- A line that is sound stays so when a waiting task leaves.
use Rattle.queue_ranks.proofs.Ground.{ℕ, suc, ◌-◌, ◌<◌, ◌≤◌, ◌≡◌, ap, ◌∙◌, ◌≢◌, arith, max_below, max_at, Terms, task_ranked}
use Rattle.queue_ranks.proofs.Ground.{on_le}
use Rattle.queue_ranks.proofs.Ranked.{Ranked, Queued, Timed, owner, ranked_at, sole, full}
use Rattle.queue_ranks.proofs.Same.{other_ranked, other_max, first_timed}
use Rattle.queue_ranks.proofs.Slots.{slots_stay, slots_gone}
use Rattle.queue_ranks.proofs.Drop.{Drops, drop_other, drop_cases, drop_max, drop_ahead, drop_behind, drop_first}

module _ {n : ℕ} {t : Terms} {R S : ℕ → ℕ → ℕ} {k i : ℕ} (x : Drops n R S k i) (r : Ranked n t R) where
  -- ── ranks ──
  had : (u : ℕ) → u < n → 1 ≤ S k u → 1 ≤ R k u
  had u l a = drop_cases x r (1 ≤ R k u) u l (λ b e. omega arith) (λ b e. omega arith) (λ b e. omega arith)

  pub drop_ranked : Ranked n t S
  drop_ranked = other_ranked (drop_other x) r (record {
    own = λ u l a. owner r k u l (had u l a);
    alone = λ u l a. drop_cases x r (task_ranked n (S k) (S k u) ≡ u) u l
        (λ b e. rw e (drop_ahead x r (R k u) (omega arith) b ∙ sole r k u l (omega arith)))
        (λ b e. omega arith)
        (λ b e. let f : suc (S k u) ≡ R k u = omega arith in drop_behind x r (S k u) (omega arith) ∙ rw f (sole r k u l (omega arith)));
    backed = λ u l a. there (S k u - 1) (omega arith) (omega (arith, max_at n u (S k) l));
    uses = λ u l a. (ranked_at r k).uses u l (had u l a);
  })
    where
      there : (j : ℕ) → 1 ≤ j → j ≤ max_below n (S k) → task_ranked n (S k) j < n
      there j a b =
          on_le (task_ranked n (S k) j < n) (R k i) j
          (λ c. rw (drop_behind x r j c) (full r k (suc j) (omega arith) (omega (arith, drop_max x r))))
          (λ c. rw (drop_ahead x r j a c) (full r k j a (omega (arith, drop_max x r))))

  -- ── the queue of processors ──
  -- its processor has another task
  pub stays_queued : {m c : ℕ} {g : ℕ → ℕ} → Queued n m R c g → 2 ≤ max_below n (R k) → Queued n m S c g
  stays_queued w a = slots_stay (other_max (drop_other x)) w (omega arith) (omega (arith, drop_max x r))

  -- it has none, and goes from slot a
  pub goes_queued : {m c : ℕ} {g : ℕ → ℕ} (a : ℕ) (f : ℕ → ℕ) → Queued n m R c g → max_below n (R k) ≤ 1 → a < c → g a ≡ k
      → ((j : ℕ) → j < a → f j ≡ g j) → ((j : ℕ) → a ≤ j → j < c - 1 → f j ≡ g (suc j)) → Queued n m S (c - 1) f
  goes_queued {c = c} a f w one la at before after =
      let count : c ≡ suc (c - 1) = omega arith in
      slots_gone (other_max (drop_other x)) a f (rw count at w) (omega arith) at (omega (arith, drop_max x r)) before after

  -- ── the hold and the budget left: who holds stays ──
  pub drop_timed : {c d : ℕ} {g f : ℕ → ℕ} {h b : ℕ} → Timed n t R c g h b → 1 ≤ c → 1 ≤ d → f 0 ≡ g 0 → task_ranked n (R (g 0)) 1 ≢ i
      → Timed n t S d f h b
  drop_timed {g = g} k a b e d = first_timed k a b e (drop_first x r (g 0) d)

  -- a processor with no other task, of which the holder is none, is not the head
  pub goes_behind : (g : ℕ → ℕ) (a : ℕ) → task_ranked n (R (g 0)) 1 ≢ i → max_below n (R k) ≤ 1 → g a ≡ k → 1 ≤ a
  goes_behind g a d one at =
      on_le (1 ≤ a) 1 a (λ z. z)
      (λ z. let e : R k i ≡ 1 = omega (arith, x.stood, max_at n i (R k) x.inside) in
      let head : g 0 ≡ k = let y : 0 ≡ a = omega arith in ap g y ∙ at in
      absurd (d (rw head (rw e at (sole r k i x.inside x.stood)))))
