-- A line that is sound stays so when a task joins.
use Rattle.queue_ranks.proofs.Ground.{ℕ, ◌+◌, ◌-◌, ◌<◌, ◌≤◌, ◌≡◌, sym, ap, ◌∙◌, add-one, arith, max_below, max_at, Terms, task_ranked}
use Rattle.queue_ranks.proofs.Ground.{on_eq}
use Rattle.queue_ranks.proofs.Ranked.{Ranked, Queued, Timed, held_timed, owner, ranked_at, sole, full}
use Rattle.queue_ranks.proofs.Same.{other_ranked, other_max, other_task, first_timed}
use Rattle.queue_ranks.proofs.Slots.{slots_stay, slots_last}
use Rattle.queue_ranks.proofs.Join.{Joins, join_other, join_max, join_task, join_last}

module _ {n : ℕ} {t : Terms} {R S : ℕ → ℕ → ℕ} {i : ℕ} (x : Joins n t R S i) where
  -- whoever has a rank stays the task of that rank
  pub task_stays : (k j : ℕ) → 1 ≤ j → j ≤ max_below n (R k) → task_ranked n (S k) j ≡ task_ranked n (R k) j
  task_stays k j a b =
      on_eq (task_ranked n (S k) j ≡ task_ranked n (R k) j) k (t.processor i)
      (λ e. rw e (join_task x j a (rw e at b))) (λ ne. sym (other_task (join_other x) k j ne))

  pub join_ranked : Ranked n t R → 1 ≤ t.hold i → Ranked n t S
  join_ranked r some = let k = t.processor i in other_ranked (join_other x) r (record {
    own = λ u l a. on_eq (k ≡ t.processor u) u i (λ e. ap t.processor (sym e)) (λ d. owner r k u l (omega (arith, x.kept k u l d)));
    alone = λ u l a. on_eq (task_ranked n (S k) (S k u) ≡ u) u i
        (λ e. rw (e, x.new) (join_last x))
        (λ d. let b : 1 ≤ R k u = omega (arith, x.kept k u l d) in
        rw (x.kept k u l d) (join_task x (R k u) b (max_at n u (R k) l) ∙ sole r k u l b));
    backed = λ u l a. let b : S k u - 1 ≤ max_below n (R k) = omega (arith, join_max x, max_at n u (S k) l) in
        rw (join_task x (S k u - 1) (omega arith) b) (full r k (S k u - 1) (omega arith) b);
    uses = λ u l a. on_eq (1 ≤ t.hold u) u i (λ e. rw e some) (λ d. (ranked_at r k).uses u l (omega (arith, x.kept k u l d)));
  })

  -- its processor is in the queue
  pub join_queued : {m c : ℕ} {g : ℕ → ℕ} → Queued n m R c g → 1 ≤ max_below n (R (t.processor i)) → Queued n m S c g
  join_queued w a = slots_stay (other_max (join_other x)) w a (omega (arith, join_max x))

  -- its processor joins too, in the next slot
  pub join_queued_new : {m c : ℕ} {g : ℕ → ℕ} (f : ℕ → ℕ) → Queued n m R c g → max_below n (R (t.processor i)) ≡ 0 → t.processor i < m
      → ((j : ℕ) → j < c → f j ≡ g j) → f c ≡ t.processor i → Queued n m S (c + 1) f
  join_queued_new {c = c} f w z small same last =
      rw (add-one c) (slots_last (other_max (join_other x)) f w z (omega (arith, join_max x)) small same last)

  -- a held line goes on as it was
  pub join_timed : {m c : ℕ} {g : ℕ → ℕ} {h b : ℕ} (d : ℕ) (f : ℕ → ℕ) → Queued n m R c g → Timed n t R c g h b → 1 ≤ c → 1 ≤ d → f 0 ≡ g 0
      → Timed n t S d f h b
  join_timed {g = g} d f w k a b e = first_timed k a b e (task_stays (g 0) 1 (omega arith) (w.served 0 a))

  -- a free one begins
  pub join_timed_new : (f : ℕ → ℕ) → max_below n (R (t.processor i)) ≡ 0 → f 0 ≡ t.processor i → 1 ≤ t.hold i
      → t.hold i ≤ t.budget (t.processor i)
      → Timed n t S 1 f (t.hold i) (t.budget (t.processor i))
  join_timed_new f z e some within =
      let a : task_ranked n (S (t.processor i)) 1 ≡ i = rw z at (join_last x) in held_timed (omega arith) (rw (e, a) (omega arith))
