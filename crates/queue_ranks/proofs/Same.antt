-- Ranks and slots that agree: they show one queue, and are sound together.
use Rattle.queue_ranks.proofs.Ground.{ℕ, ◌-◌, ◌<◌, ◌≤◌, ◌≡◌, sym, ap, ap₂, ◌∙◌, ◌≢◌, List, eqb, arith, max_below, Terms, turn}
use Rattle.queue_ranks.proofs.Ground.{task_ranked, others_of, turn_of, queue_from, on_eq, find_same}
use Rattle.folds.proofs.Figures.{max_same}
use Rattle.queue_ranks.proofs.Lists.{list_same}
use Rattle.queue_ranks.proofs.Ranked.{At, Ranked, RankedAt, Queued, Timed, ranked_each, ranked_at}

-- one queue of tasks
module _ (n : ℕ) (f g : ℕ → ℕ) (same : (u : ℕ) → u < n → f u ≡ g u) where
  pub same_task : (j : ℕ) → task_ranked n f j ≡ task_ranked n g j
  same_task j = find_same n (λ u. eqb (f u) j) (λ u. eqb (g u) j) (λ u l. ap (λ (x : ℕ). eqb x j) (same u l))

  pub same_others : others_of n f ≡ others_of n g
  same_others = rw (max_same n f g same) (list_same (max_below n g - 1) 2 (task_ranked n f) (task_ranked n g) (λ j a l. same_task j))

pub same_turn : (n : ℕ) (R S : ℕ → ℕ → ℕ) (k : ℕ) → ((u : ℕ) → u < n → R k u ≡ S k u) → turn_of n R k ≡ turn_of n S k
same_turn n R S k h = ap₂ (λ (u : ℕ) (us : List ℕ). turn k u us) (same_task n (R k) (S k) h 1) (same_others n (R k) (S k) h)

-- the whole queue
module _ (n : ℕ) (R S : ℕ → ℕ → ℕ) (same : (k u : ℕ) → u < n → R k u ≡ S k u) (c : ℕ) where
  pub same_queue : (g : ℕ → ℕ) → queue_from n R c g ≡ queue_from n S c g
  same_queue g = list_same c 0 (λ j. turn_of n R (g j)) (λ j. turn_of n S (g j)) (λ j a l. same_turn n R S (g j) (same (g j)))

  pub same_queued : (m : ℕ) (g f : ℕ → ℕ) → ((j : ℕ) → j < c → g j ≡ f j) → Queued n m R c g → Queued n m S c f
  same_queued m g f e w = record {
    placed = λ i l. rw (← e i l) (w.placed i l);
    served = λ i l. rw (← e i l, ← max_same n (R (g i)) (S (g i)) (same (g i))) (w.served i l);
    once = λ i j a b q. w.once i j a b (e i a ∙ q ∙ sym (e j b));
    stands = λ k a. let x : At c g k = w.stands k (rw (max_same n (R k) (S k) (same k)) a) in
        record { index = x.index; within = x.within; is = sym (e x.index x.within) ∙ x.is };
  }

  pub same_timed : (t : Terms) (g f : ℕ → ℕ) (h b : ℕ) → ((j : ℕ) → j < c → g j ≡ f j) → Timed n t R c g h b → Timed n t S c f h b
  same_timed t g f h b e k = record {
    idle = k.idle;
    runs = λ a. rw (← e 0 a, ← same_task n (R (g 0)) (S (g 0)) (same (g 0)) 1) (k.runs a);
  }

same_ranked_at : {n : ℕ} {t : Terms} {k : ℕ} (f g : ℕ → ℕ) → ((u : ℕ) → u < n → f u ≡ g u) → RankedAt n t k f → RankedAt n t k g
same_ranked_at {n} f g same r = record {
  own = λ u l a. r.own u l (rw (same u l) a);
  alone = λ u l a. rw (← same u l, ← same_task n f g same (f u)) (r.alone u l (rw (same u l) a));
  backed = λ u l a. rw (← same u l, ← same_task n f g same (f u - 1)) (r.backed u l (rw (same u l) a));
  uses = λ u l a. r.uses u l (rw (same u l) a);
}

pub same_ranked : (n : ℕ) (t : Terms) (R S : ℕ → ℕ → ℕ) → ((k u : ℕ) → u < n → R k u ≡ S k u) → Ranked n t R → Ranked n t S
same_ranked n t R S same r = ranked_each (λ k. same_ranked_at (R k) (S k) (same k) (ranked_at r k))

-- a move changes the ranks of one processor k and no other's
module _ {n : ℕ} {R S : ℕ → ℕ → ℕ} {k : ℕ} (same : (l u : ℕ) → l ≢ k → u < n → R l u ≡ S l u) where
  pub other_ranked : {t : Terms} → Ranked n t R → RankedAt n t k (S k) → Ranked n t S
  other_ranked {t} r x =
      ranked_each (λ l. on_eq (RankedAt n t l (S l)) l k (λ e. rw e x) (λ d. same_ranked_at (R l) (S l) (λ u a. same l u d a) (ranked_at r l)))

  pub other_max : (l : ℕ) → l ≢ k → max_below n (R l) ≡ max_below n (S l)
  other_max l d = max_same n (R l) (S l) (λ u a. same l u d a)

  pub other_task : (l j : ℕ) → l ≢ k → task_ranked n (R l) j ≡ task_ranked n (S l) j
  other_task l j d = same_task n (R l) (S l) (λ u a. same l u d a) j

  pub other_turn : (l : ℕ) → l ≢ k → turn_of n R l ≡ turn_of n S l
  other_turn l d = same_turn n R S l (λ u a. same l u d a)

-- the hold and the budget left go on where the head and its first task stay
pub first_timed : {n : ℕ} {t : Terms} {R S : ℕ → ℕ → ℕ} {c d : ℕ} {g f : ℕ → ℕ} {h b : ℕ} → Timed n t R c g h b → 1 ≤ c → 1 ≤ d → f 0 ≡ g 0
    → task_ranked n (S (g 0)) 1 ≡ task_ranked n (R (g 0)) 1 → Timed n t S d f h b
first_timed k a b e same = record { idle = λ z. omega arith; runs = λ _. rw (e, same) (k.runs a) }
