-- The first task of the head leaves, or a head begins: the rules' line after it, over ranks and slots.
use Rattle.queue_ranks.proofs.Ground.{ℕ, suc, ◌-◌, ◌<◌, ◌≤◌, Bool, cond, ◌≡◌, sym, ap, ◌∙◌, ◌≢◌, List, [], ◌∷◌, ◌++◌, eqb, arith}
use Rattle.queue_ranks.proofs.Ground.{le-leb, lt-leb, max_below, max_at, max_bound, by_eq, Terms, Turn, line, list_from, task_ranked}
use Rattle.queue_ranks.proofs.Ground.{others_of, turn_of, queue_from, find_same}
use Rattle.queue_rules.specs.Rules.{begin, leave, ticked}
use Rattle.folds.proofs.Searches.{same_eqb}
use Rattle.queue_ranks.proofs.Lists.{list_first, list_same, list_shift, list_snoc}
use Rattle.queue_ranks.proofs.Ranked.{Queued}
use Rattle.queue_ranks.proofs.Same.{other_task, other_turn}

-- the ranks S are R without the first task of processor k: its others have moved up
pub record Leaves (n : ℕ) (R S : ℕ → ℕ → ℕ) (k : ℕ) : Type 0 where
  pub fall : (u : ℕ) → u < n → S k u ≡ R k u - 1
  pub kept : (l u : ℕ) → l ≢ k → u < n → S l u ≡ R l u

module _ {n : ℕ} {R S : ℕ → ℕ → ℕ} {k : ℕ} (x : Leaves n R S k) where
  -- the queues of other processors
  pub leave_other : (l u : ℕ) → l ≢ k → u < n → R l u ≡ S l u
  leave_other l u ne a = sym (x.kept l u ne a)

  -- ── the queue of its own ──
  pub leave_max : max_below n (S k) ≡ max_below n (R k) - 1
  leave_max =
      let a : max_below n (S k) ≤ max_below n (R k) - 1 =
      max_bound n (max_below n (R k) - 1) (S k) (λ u l. omega (arith, x.fall u l, max_at n u (R k) l)) in
      let b : max_below n (R k) ≤ suc (max_below n (S k)) =
      max_bound n (suc (max_below n (S k))) (R k) (λ u l. omega (arith, x.fall u l, max_at n u (S k) l)) in
      omega arith

  pub leave_task : (j : ℕ) → 1 ≤ j → task_ranked n (S k) j ≡ task_ranked n (R k) (suc j)
  leave_task j a =
      find_same n (λ u. eqb (S k u) j) (λ u. eqb (R k u) (suc j))
      (λ u l. same_eqb (S k u) j (R k u) (suc j) (λ e. omega (arith, x.fall u l)) (λ e. omega (arith, x.fall u l)))

  -- the first task of each processor afterwards
  pub after_first : (l : ℕ) → task_ranked n (S l) 1 ≡ cond (eqb l k) (task_ranked n (R l) 2) (task_ranked n (R l) 1)
  after_first l =
      by_eq (λ (b : Bool). task_ranked n (S l) 1 ≡ cond b (task_ranked n (R l) 2) (task_ranked n (R l) 1)) l k
      (λ e. rw e (leave_task 1 (omega arith)))
      (λ ne. sym (other_task leave_other l 1 ne))

  -- with a second task: it is first now, and the others are behind it
  leave_others : 2 ≤ max_below n (R k) → others_of n (R k) ≡ task_ranked n (S k) 1 ∷ others_of n (S k)
  unfolding list_from
  leave_others a =
      let m : max_below n (R k) - 1 ≡ suc (max_below n (S k) - 1) = omega (arith, leave_max) in
      rw (m, leave_task 1 (omega arith))
      (ap (λ (us : List ℕ). task_ranked n (R k) 2 ∷ us)
      (list_shift (max_below n (S k) - 1) 2 (task_ranked n (R k))
      ∙ list_same (max_below n (S k) - 1) 2 (λ j. task_ranked n (R k) (suc j)) (task_ranked n (S k)) (λ j b l. sym (leave_task j (omega arith)))))

-- ── a head begins ──
module _ (n : ℕ) (t : Terms) (R : ℕ → ℕ → ℕ) where
  pub begin_none : (c : ℕ) (g : ℕ → ℕ) → c ≡ 0 → begin t (queue_from n R c g) ≡ line 0 0 (queue_from n R c g)
  unfolding list_from
  begin_none c g e = rw e

  pub begin_some : (c : ℕ) (g : ℕ → ℕ) → 1 ≤ c
      → begin t (queue_from n R c g) ≡ line (t.hold (task_ranked n (R (g 0)) 1)) (t.budget (g 0)) (queue_from n R c g)
  begin_some c g a = rw (list_first c 0 (λ i. turn_of n R (g i)) a)

  -- ── a tick ──
  pub tick_none : (c : ℕ) (g : ℕ → ℕ) (h b : ℕ) → c ≡ 0 → ticked t (line h b (queue_from n R c g)) ≡ line h b (queue_from n R c g)
  unfolding list_from
  tick_none c g h b e = rw e

  pub tick_some : (c : ℕ) (g : ℕ → ℕ) (h b : ℕ) → 1 ≤ c
      → ticked t (line h b (queue_from n R c g))
      ≡ cond (eqb (h - 1) 0) (leave t (b - 1) (queue_from n R c g)) (line (h - 1) (b - 1) (queue_from n R c g))
  tick_some c g h b a = rw (list_first c 0 (λ i. turn_of n R (g i)) a)

-- ── the line; the head is g 0, c others are queued ──
module _ {n m : ℕ} (t : Terms) {R S : ℕ → ℕ → ℕ} {c : ℕ} {g : ℕ → ℕ} (x : Leaves n R S (g 0)) (w : Queued n m R (suc c) g) where
  behind_turn : (j : ℕ) → 1 ≤ j → j < suc c → turn_of n R (g j) ≡ turn_of n S (g j)
  behind_turn j a l =
      other_turn (leave_other x) (g j) (λ e. omega (arith, w.once j 0 l (omega arith) e))

  behind : (f : ℕ → ℕ) → ((j : ℕ) → j < c → f j ≡ g (suc j)) → list_from c 1 (λ j. turn_of n R (g j)) ≡ list_from c 0 (λ j. turn_of n S (f j))
  behind f h =
      list_shift c 0 (λ j. turn_of n R (g j))
      ∙ list_same c 0 (λ j. turn_of n R (g (suc j))) (λ j. turn_of n S (f j))
      (λ j _ l. behind_turn (suc j) (omega arith) (omega arith) ∙ ap (turn_of n S) (sym (h j (omega arith))))

  -- it was the last of its processor
  pub leave_last : (b : ℕ) (f : ℕ → ℕ) → max_below n (R (g 0)) ≤ 1 → ((j : ℕ) → j < c → f j ≡ g (suc j))
      → leave t b (queue_from n R (suc c) g) ≡ begin t (queue_from n S c f)
  unfolding list_from
  leave_last b f a h = let m : max_below n (R (g 0)) - 1 ≡ 0 = omega arith in rw (m, behind f h)

  -- the next is granted within the budget left
  pub leave_next : (b : ℕ) → 2 ≤ max_below n (R (g 0)) → t.hold (task_ranked n (S (g 0)) 1) ≤ b
      → leave t b (queue_from n R (suc c) g) ≡ line (t.hold (task_ranked n (S (g 0)) 1)) b (queue_from n S (suc c) g)
  unfolding list_from
  leave_next b a h =
      rw (leave_others x a, le-leb _ _ h)
      (ap (λ (q : List Turn). line (t.hold (task_ranked n (S (g 0)) 1)) b (turn_of n S (g 0) ∷ q))
      (list_same c 1 (λ j. turn_of n R (g j)) (λ j. turn_of n S (g j)) (λ j d l. behind_turn j d (omega arith))))

  -- the processor goes to the tail
  pub leave_back : (b : ℕ) (f : ℕ → ℕ) → 2 ≤ max_below n (R (g 0)) → b < t.hold (task_ranked n (S (g 0)) 1)
      → ((j : ℕ) → j < c → f j ≡ g (suc j)) → f c ≡ g 0 → leave t b (queue_from n R (suc c) g) ≡ begin t (queue_from n S (suc c) f)
  unfolding list_from
  leave_back b f a h q e =
      rw (leave_others x a, lt-leb _ _ h, behind f q)
      (ap (begin t)
      (ap (λ (k : ℕ). list_from c 0 (λ j. turn_of n S (f j)) ++ (turn_of n S k ∷ [])) (sym e)
      ∙ sym (list_snoc c 0 c (λ j. turn_of n S (f j)) (omega arith))))
