-- What a sound line shows: a proper queue, the tasks of each processor, and who stands in line.
use Rattle.queue_ranks.proofs.Ground.{ℕ, zero, suc, ◌+◌, ◌<◌, ◌≤◌, Bool, cond, ◌≡◌, refl, sym, ap, ◌∙◌, ◌≢◌, List, ◌∷◌, eqb, arith}
use Rattle.queue_ranks.proofs.Ground.{eqb-true, eq-eqb, ne_eqb, le-leb, lt-leb, max_below, max_at, by_eq, Terms, line, list_from}
use Rattle.queue_ranks.proofs.Ground.{task_ranked, others_of, turn_of, queue_from, on_eq, on_le}
use Rattle.folds.proofs.Ground.{true, false, ◌||◌, not, or-true, true≢false, leb, leb-true, eqb-false, not-true}
use Rattle.folds.proofs.Tests.{and_parts, or_out, is_not_true}
use Rattle.queue_rules.specs.Rules.{among, stands_in, has_turn, tasks_of, holds, waiting}
use Rattle.queue_rules.proofs.Sound.{Owns, Proper, nobody, stands}
use Rattle.queue_rules.proofs.FirstCome.{no_tasks}
use Rattle.queue_rules.proofs.Own.{own_stands}
use Rattle.queue_ranks.proofs.Lists.{list_first}
use Rattle.queue_ranks.proofs.Ranked.{At, Ranked, Queued, task_rank, ranked_at, full}

-- the tasks of a turn, first and others
abbrev tasks : ℕ → (ℕ → ℕ) → List ℕ
tasks n f = task_ranked n f 1 ∷ others_of n f

pub all_tasks : (n : ℕ) (f : ℕ → ℕ) → 1 ≤ max_below n f → task_ranked n f 1 ∷ others_of n f ≡ list_from (max_below n f) 1 (task_ranked n f)
all_tasks n f a = sym (list_first (max_below n f) 1 (task_ranked n f) a)

-- ── one of a list is one of its numbers' figures ──
among_there : (i : ℕ) (f : ℕ → ℕ) (c a j : ℕ) → a ≤ j → j < a + c → f j ≡ i → among i (list_from c a f) ≡ true
unfolding list_from
among_there i f zero a j p l e = let bad : ⊥ = omega arith in absurd bad
among_there i f (suc c) a j p l e =
    on_eq ((eqb (f a) i || among i (list_from c (suc a) f)) ≡ true) a j
    (λ q. rw (eq-eqb (f a) i (ap f q ∙ e)))
    (λ q. rw (among_there i f c (suc a) j (omega arith) (omega arith) e) (or-true (eqb (f a) i)))

pub among_out : (i : ℕ) (f : ℕ → ℕ) (c a : ℕ) (C : Type 0) → among i (list_from c a f) ≡ true → ((j : ℕ) → a ≤ j → j < a + c → f j ≡ i → C) → C
unfolding list_from
among_out i f zero a C e h = absurd (true≢false (sym e))
among_out i f (suc c) a C e h =
    or_out (eqb (f a) i) (among i (list_from c (suc a) f)) C e (λ t. h a (omega arith) (omega arith) (eqb-true (f a) i t))
    (λ t. among_out i f c (suc a) C t (λ j p l. h j (omega arith) (omega arith)))

-- ── the tasks of processor k ──
module _ (n : ℕ) (R : ℕ → ℕ → ℕ) (g : ℕ → ℕ) (k : ℕ) where
  no_turn : (c i : ℕ) → ((j : ℕ) → i ≤ j → j < i + c → g j ≢ k) → has_turn k (list_from c i (λ j. turn_of n R (g j))) ≡ false
  unfolding list_from
  no_turn zero i h = refl
  no_turn (suc c) i h = rw (ne_eqb (g i) k (h i (omega arith) (omega arith))) (no_turn c (suc i) (λ j a l. h j (omega arith) (omega arith)))

  tasks_there : (c i x : ℕ) → i ≤ x → x < i + c → g x ≡ k
      → tasks_of k (list_from c i (λ j. turn_of n R (g j))) ≡ tasks n (R k)
  unfolding list_from
  tasks_there zero i x a l e = let bad : ⊥ = omega arith in absurd bad
  tasks_there (suc c) i x a l e =
      by_eq (λ (b : Bool). cond b (tasks n (R (g i))) (tasks_of k (list_from c (suc i) (λ j. turn_of n R (g j)))) ≡ tasks n (R k)) (g i) k
      (λ p. ap (λ (l : ℕ). tasks n (R l)) p)
      (λ ne. on_eq (tasks_of k (list_from c (suc i) (λ j. turn_of n R (g j))) ≡ tasks n (R k)) i x
      (λ p. absurd (ne (ap g p ∙ e))) (λ p. tasks_there c (suc i) x (omega arith) (omega arith) e))

pub tasks_in : {n m : ℕ} {R : ℕ → ℕ → ℕ} {c : ℕ} {g : ℕ → ℕ} → Queued n m R c g → (k : ℕ)
    → tasks_of k (queue_from n R c g) ≡ list_from (max_below n (R k)) 1 (task_ranked n (R k))
unfolding list_from
tasks_in {n} {m} {R} {c} {g} w k =
    on_eq (tasks_of k (queue_from n R c g) ≡ list_from (max_below n (R k)) 1 (task_ranked n (R k))) (max_below n (R k)) 0
    (λ z. rw z (no_tasks k (queue_from n R c g)
    (no_turn n R g k c 0 (λ j a l e. let s : 1 ≤ max_below n (R k) = rw e at (w.served j (omega arith)) in omega arith))))
    (λ z. let x : At c g k = w.stands k (omega arith) in
    tasks_there n R g k c 0 x.index (omega arith) (omega (arith, x.within)) x.is ∙ all_tasks n (R k) (omega arith))

-- ── the queue is proper, where a hold time makes a task known ──
module _ {n m : ℕ} {t : Terms} {R : ℕ → ℕ → ℕ} (known : ℕ → Bool) (user : (u : ℕ) → 1 ≤ t.hold u → known u ≡ true) (r : Ranked n t R) where
  turn_owns : (k : ℕ) → 1 ≤ max_below n (R k) → Owns t known m k (tasks n (R k))
  turn_owns k a = record {
    each = λ i e. among_out i (task_ranked n (R k)) (max_below n (R k)) 1 _ (ap (among i) (sym (all_tasks n (R k) a)) ∙ e)
        (λ j p l f. let b = full r k j p (omega arith) in task i j p (rw f at b) (rw f at (task_rank n j (R k) b)));
  }
    where
      task : (i j : ℕ) → 1 ≤ j → i < n → R k i ≡ j → (t.processor i ≡ k) × (known i ≡ true)
      task i j p l e = (sym ((ranked_at r k).own i l (omega arith)), user i ((ranked_at r k).uses i l (omega arith)))

  pub proper : {c : ℕ} {g : ℕ → ℕ} → Queued n m R c g → (d a : ℕ) → a + d ≤ c → Proper t known m (list_from d a (λ i. turn_of n R (g i)))
  unfolding list_from
  proper w zero a b = nobody
  proper {g = g} w (suc d) a b =
      stands (w.placed a (omega arith))
      (no_turn n R g (g a) d (suc a) (λ j l p e. omega (arith, w.once j a (omega arith) (omega arith) e)))
      (turn_owns (g a) (w.served a (omega arith))) (proper w d (suc a) (omega arith))

-- ── who stands in line ──
module _ {n m : ℕ} {t : Terms} {R : ℕ → ℕ → ℕ} {c : ℕ} {g : ℕ → ℕ} (r : Ranked n t R) (w : Queued n m R c g) (i : ℕ) where
  own_tasks : stands_in i (queue_from n R c g) ≡ among i (list_from (max_below n (R (t.processor i))) 1 (task_ranked n (R (t.processor i))))
  own_tasks = own_stands t (λ _. true) m i (proper (λ _. true) (λ u a. refl) r w c 0 (omega arith)) ∙ ap (among i) (tasks_in w (t.processor i))

  -- a task is in line exactly when it has a rank in its processor's queue
  pub in_line_lem : i < n → stands_in i (queue_from n R c g) ≡ leb 1 (R (t.processor i) i)
  in_line_lem l =
      let k = t.processor i in
      let most : R k i ≤ max_below n (R k) = max_at n i (R k) l in
      own_tasks ∙ on_le (among i (list_from (max_below n (R k)) 1 (task_ranked n (R k))) ≡ leb 1 (R k i)) 1 (R k i)
      (λ a. among_there i (task_ranked n (R k)) (max_below n (R k)) 1 (R k i) a (omega arith) (r.alone i l a) ∙ sym (le-leb 1 (R k i) a))
      (λ z. is_not_true _ (λ s. among_out i (task_ranked n (R k)) (max_below n (R k)) 1 ⊥ s
      (λ j a b e. let f : R k i ≡ j = rw e at (task_rank n j (R k) (rw e l)) in omega arith)) ∙ sym (lt-leb 1 (R k i) z))

  -- and what is no task is not
  pub out_line : n ≤ i → stands_in i (queue_from n R c g) ≡ false
  out_line l =
      let k = t.processor i in
      own_tasks ∙ is_not_true _
      (λ s. among_out i (task_ranked n (R k)) (max_below n (R k)) 1 ⊥ s (λ j a b e. omega (arith, full r k j a (omega arith))))

-- who holds: nobody in a free line, else the first task of the head
module _ (n : ℕ) (R : ℕ → ℕ → ℕ) (i : ℕ) where
  pub holds_none : (c : ℕ) (g : ℕ → ℕ) (h b : ℕ) → c ≡ 0 → holds i (line h b (queue_from n R c g)) ≡ false
  unfolding list_from
  holds_none c g h b e = rw e

  pub holds_first : (c : ℕ) (g : ℕ → ℕ) (h b : ℕ) → 1 ≤ c → holds i (line h b (queue_from n R c g)) ≡ eqb (task_ranked n (R (g 0)) 1) i
  holds_first c g h b a = rw (list_first c 0 (λ j. turn_of n R (g j)) a)

-- task i waits: it has a rank in its processor's queue, and is not the first of the head
pub record Waiting (n : ℕ) (t : Terms) (R : ℕ → ℕ → ℕ) (c : ℕ) (g : ℕ → ℕ) (i : ℕ) : Type 0 where
  pub stood : 1 ≤ R (t.processor i) i
  pub held : 1 ≤ c
  pub behind : task_ranked n (R (g 0)) 1 ≢ i

module _ {n m : ℕ} {t : Terms} {R : ℕ → ℕ → ℕ} {c : ℕ} {g : ℕ → ℕ} (r : Ranked n t R) (w : Queued n m R c g) (i : ℕ) (l : i < n) (h b : ℕ) where
  pub waits : waiting i (line h b (queue_from n R c g)) ≡ true → Waiting n t R c g i
  waits e =
      let (a, z) = and_parts (stands_in i (queue_from n R c g)) (not (holds i (line h b (queue_from n R c g)))) e in
      let stood : 1 ≤ R (t.processor i) i = leb-true 1 _ (sym (in_line_lem r w i l) ∙ a) in
      let at : At c g (t.processor i) = w.stands (t.processor i) (omega (arith, max_at n i (R (t.processor i)) l)) in
      let held : 1 ≤ c = omega (arith, at.within) in
      record {
        stood = stood;
        held = held;
        behind = eqb-false _ i (sym (holds_first n R i c g h b held) ∙ not-true _ z);
      }
