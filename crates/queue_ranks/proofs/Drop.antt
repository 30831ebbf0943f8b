-- A waiting task leaves: the rules' line after it, over ranks and slots.
use Rattle.queue_ranks.proofs.Ground.{ℕ, suc, ◌-◌, ◌<◌, ◌≤◌, Bool, cond, ◌≡◌, refl, sym, ap, ◌∙◌, ◌≢◌, List, [], ◌∷◌, ◌++◌, eqb}
use Rattle.queue_ranks.proofs.Ground.{arith, eq-eqb, ne_eqb, max_below, max_at, max_bound, by_eq, Terms, Turn, turn, line, list_from}
use Rattle.queue_ranks.proofs.Ground.{task_ranked, turn_of, queue_from, on_eq, on_le, find_same}
use Rattle.queue_rules.specs.Rules.{all_but, turn_with, turns_but, withdrawn}
use Rattle.folds.proofs.Searches.{same_eqb}
use Rattle.queue_ranks.proofs.Lists.{list_first, each_stays, one_goes}
use Rattle.queue_ranks.proofs.Ranked.{Ranked, Queued, task_rank, owner, ranked_at, sole, full}
use Rattle.queue_ranks.proofs.Same.{other_max, other_task}
use Rattle.queue_ranks.proofs.Reading.{all_tasks}

-- the ranks S are R without task i of processor k: those behind it have moved up
pub record Drops (n : ℕ) (R S : ℕ → ℕ → ℕ) (k i : ℕ) : Type 0 where
  pub inside : i < n
  pub stood : 1 ≤ R k i
  pub out : S k i ≡ 0
  pub ahead : (u : ℕ) → u < n → R k u < R k i → S k u ≡ R k u
  pub behind : (u : ℕ) → u < n → R k i < R k u → S k u ≡ R k u - 1
  pub kept : (l u : ℕ) → l ≢ k → u < n → S l u ≡ R l u

-- the queues of other processors
pub drop_other : {n : ℕ} {R S : ℕ → ℕ → ℕ} {k i : ℕ} → Drops n R S k i → (l u : ℕ) → l ≢ k → u < n → R l u ≡ S l u
drop_other x l u ne a = sym (x.kept l u ne a)

module _ {n : ℕ} {t : Terms} {R S : ℕ → ℕ → ℕ} {k i : ℕ} (x : Drops n R S k i) (r : Ranked n t R) where
  -- ── the queue of its own ──
  -- a task of it is ahead of i, is i, or is behind it
  pub drop_cases : (C : Type 0) (u : ℕ) → u < n → (R k u < R k i → S k u ≡ R k u → C) → (R k u ≡ R k i → S k u ≡ 0 → C)
      → (R k i < R k u → S k u ≡ R k u - 1 → C) → C
  drop_cases C u l before same after =
      on_le C (R k i) (R k u)
      (λ a. on_eq C (R k u) (R k i) (λ e. same e (rw (only e) x.out)) (λ ne. after (omega arith) (x.behind u l (omega arith))))
      (λ a. before a (x.ahead u l a))
    where
      only : R k u ≡ R k i → u ≡ i
      only e = sym (sole r k u l (omega (arith, x.stood))) ∙ ap (task_ranked n (R k)) e ∙ sole r k i x.inside x.stood

  pub drop_max : max_below n (R k) ≡ suc (max_below n (S k))
  drop_max =
      let own : R k i ≤ max_below n (R k) = max_at n i (R k) x.inside in
      let a : max_below n (S k) ≤ max_below n (R k) - 1 =
      max_bound n (max_below n (R k) - 1) (S k) (λ u l. drop_cases (S k u ≤ max_below n (R k) - 1) u l
      (λ b e. omega arith) (λ b e. omega arith) (λ b e. omega (arith, max_at n u (R k) l))) in
      let b : max_below n (R k) ≤ suc (max_below n (S k)) =
      max_bound n (suc (max_below n (S k))) (R k) (λ u l. drop_cases (R k u ≤ suc (max_below n (S k))) u l
      (λ b e. omega (arith, max_at n u (S k) l)) (λ b e. omega (arith, before)) (λ b e. omega (arith, max_at n u (S k) l))) in
      omega (arith, x.stood)
    where
      before : R k i ≤ suc (max_below n (S k))
      before =
          on_le (R k i ≤ suc (max_below n (S k))) 2 (R k i)
          (λ a. let u : ℕ = task_ranked n (R k) (R k i - 1) in
          let l : u < n = (ranked_at r k).backed i x.inside a in
          let e : R k u ≡ R k i - 1 = task_rank n (R k i - 1) (R k) l in
          omega (arith, x.ahead u l (omega arith), max_at n u (S k) l))
          (λ a. omega arith)

  pub drop_ahead : (j : ℕ) → 1 ≤ j → j < R k i → task_ranked n (S k) j ≡ task_ranked n (R k) j
  drop_ahead j a b =
      find_same n (λ u. eqb (S k u) j) (λ u. eqb (R k u) j)
      (λ u l. same_eqb (S k u) j (R k u) j
      (λ d. drop_cases (R k u ≡ j) u l (λ c e. omega arith) (λ c e. omega arith) (λ c e. omega arith))
      (λ d. omega (arith, x.ahead u l (omega arith))))

  pub drop_behind : (j : ℕ) → R k i ≤ j → task_ranked n (S k) j ≡ task_ranked n (R k) (suc j)
  drop_behind j a =
      find_same n (λ u. eqb (S k u) j) (λ u. eqb (R k u) (suc j))
      (λ u l. same_eqb (S k u) j (R k u) (suc j)
      (λ d. let some = x.stood in drop_cases (R k u ≡ suc j) u l (λ c e. omega arith) (λ c e. omega arith) (λ c e. omega arith))
      (λ d. omega (arith, x.behind u l (omega arith))))

  -- who is first stays so, where that was another
  pub drop_first : (l : ℕ) → task_ranked n (R l) 1 ≢ i → task_ranked n (S l) 1 ≡ task_ranked n (R l) 1
  drop_first l d =
      on_eq (task_ranked n (S l) 1 ≡ task_ranked n (R l) 1) l k
      (λ e. let ne : R k i ≢ 1 = λ z. d (rw e (rw z at (sole r k i x.inside x.stood))) in
      rw e (drop_ahead 1 (omega arith) (omega (arith, x.stood))))
      (λ ne. sym (other_task (drop_other x) l 1 ne))

  -- ── its turn, and those of others ──
  abbrev tasks : (ℕ → ℕ → ℕ) → ℕ → List ℕ
  tasks Q l = list_from (max_below n (Q l)) 1 (task_ranked n (Q l))

  abbrev kept : ℕ → List ℕ
  kept u = cond (eqb u i) [] (u ∷ [])

  more : (u : ℕ) (us : List ℕ) → all_but i (u ∷ us) ≡ kept u ++ all_but i us
  more u us = by_eq (λ (b : Bool). cond b (all_but i us) (u ∷ all_but i us) ≡ cond b [] (u ∷ []) ++ all_but i us) u i (λ _. refl) (λ _. refl)

  -- a task of another rank is kept
  stays : (l j v : ℕ) → 1 ≤ j → j ≤ max_below n (R l) → R l i ≢ j → v ≡ task_ranked n (R l) j → kept (task_ranked n (R l) j) ≡ v ∷ []
  stays l j v a b ne e =
      rw (ne_eqb (task_ranked n (R l) j) i (λ z. ne (rw z at (task_rank n j (R l) (full r l j a b)))), e)

  tasks_but : (l : ℕ) → all_but i (tasks R l) ≡ tasks S l
  tasks_but l =
      on_eq (all_but i (tasks R l) ≡ tasks S l) l k
      (λ e. let own : R k i ≤ max_below n (R k) = max_at n i (R k) x.inside in
      rw (e, drop_max) (one_goes (all_but i) kept refl more (max_below n (S k)) 1 (R k i) (task_ranked n (R k)) (task_ranked n (S k))
      x.stood (omega (arith, drop_max)) (rw (sole r k i x.inside x.stood, eq-eqb i i refl))
      (λ j a b. stays k j _ a (omega arith) (λ z. omega arith) (drop_ahead j a b))
      (λ j a b. stays k (suc j) _ (omega arith) (omega (arith, drop_max)) (λ z. omega arith) (drop_behind j a))))
      (λ ne. rw (← other_max (drop_other x) l ne) (each_stays (all_but i) kept refl more (max_below n (R l)) 1 (task_ranked n (R l)) (task_ranked n (S l))
      (λ j a b. stays l j _ a (omega arith) (λ z. omega (arith, away l ne)) (sym (other_task (drop_other x) l j ne)))))
    where
      away : (l : ℕ) → l ≢ k → R l i ≡ 0
      away l ne = r.own l i x.inside (λ e. ne (e ∙ sym (owner r k i x.inside x.stood)))

  abbrev turn_kept : Turn → List Turn
  turn_kept (turn l u us) = turn_with l (all_but i (u ∷ us))

  turns_more : (y : Turn) (ys : List Turn) → turns_but i (y ∷ ys) ≡ turn_kept y ++ turns_but i ys
  turns_more (turn l u us) ys = refl

  turn_stays : (l : ℕ) → 1 ≤ max_below n (R l) → 1 ≤ max_below n (S l) → turn_kept (turn_of n R l) ≡ turn_of n S l ∷ []
  turn_stays l a b = ap (λ (us : List ℕ). turn_with l us) (ap (all_but i) (all_tasks n (R l) a) ∙ tasks_but l ∙ sym (all_tasks n (S l) b))

  turn_goes : (l : ℕ) → 1 ≤ max_below n (R l) → max_below n (S l) ≡ 0 → turn_kept (turn_of n R l) ≡ []
  unfolding list_from
  turn_goes l a z =
      ap (λ (us : List ℕ). turn_with l us)
      (ap (all_but i) (all_tasks n (R l) a) ∙ tasks_but l ∙ ap (λ (m : ℕ). list_from m 1 (task_ranked n (S l))) z)

  -- ── the line, which another task holds ──
  module _ {m : ℕ} {c : ℕ} {g : ℕ → ℕ} (w : Queued n m R c g) (held : 1 ≤ c) (d : task_ranked n (R (g 0)) 1 ≢ i) (h b : ℕ) where
    held_but : {q : List Turn} → turns_but i (queue_from n R c g) ≡ q → withdrawn i (line h b (queue_from n R c g)) ≡ line h b q
    held_but e = but ∙ ap (λ (y : List Turn). line h b y) e
      where
        but : withdrawn i (line h b (queue_from n R c g)) ≡ line h b (turns_but i (queue_from n R c g))
        but = rw (list_first c 0 (λ j. turn_of n R (g j)) held, ne_eqb (task_ranked n (R (g 0)) 1) i d)

    after_max : (l : ℕ) → l ≢ k → 1 ≤ max_below n (R l) → 1 ≤ max_below n (S l)
    after_max l ne a = omega (arith, other_max (drop_other x) l ne)

    -- its processor has another task
    pub withdrawn_stays : 2 ≤ max_below n (R k) → withdrawn i (line h b (queue_from n R c g)) ≡ line h b (queue_from n S c g)
    withdrawn_stays a =
        held_but
        (each_stays (turns_but i) turn_kept refl turns_more c 0 (λ j. turn_of n R (g j)) (λ j. turn_of n S (g j))
        (λ j _ l. let some = w.served j (omega arith) in
        turn_stays (g j) some (on_eq (1 ≤ max_below n (S (g j))) (g j) k (λ e. rw e (omega (arith, drop_max))) (λ ne. after_max (g j) ne some))))

    -- it has none, and goes from slot a
    pub withdrawn_goes : (a : ℕ) (f : ℕ → ℕ) → max_below n (R k) ≤ 1 → a < c → g a ≡ k → ((j : ℕ) → j < a → f j ≡ g j)
        → ((j : ℕ) → a ≤ j → j < c - 1 → f j ≡ g (suc j)) → withdrawn i (line h b (queue_from n R c g)) ≡ line h b (queue_from n S (c - 1) f)
    withdrawn_goes a f one la at before after =
        let count : c ≡ suc (c - 1) = omega arith in
        held_but
        (ap (λ (y : ℕ). turns_but i (queue_from n R y g)) count
        ∙ one_goes (turns_but i) turn_kept refl turns_more (c - 1) 0 a (λ j. turn_of n R (g j)) (λ j. turn_of n S (f j)) (omega arith) (omega arith)
        (turn_goes (g a) (w.served a la) (rw at (omega (arith, drop_max))))
        (λ j _ l. other j (f j) (omega arith) (λ e. omega arith) (before j l))
        (λ j p l. other (suc j) (f j) (omega arith) (λ e. omega arith) (after j p (omega arith))))
      where
        other : (j l : ℕ) → j < c → j ≢ a → l ≡ g j → turn_kept (turn_of n R (g j)) ≡ turn_of n S l ∷ []
        other j l b ne e =
            let some = w.served j b in
            rw e (turn_stays (g j) some (after_max (g j) (λ z. ne (w.once j a b la (z ∙ sym at))) some))
