-- What a sound line is, over ranks and slots.
use Rattle.queue_ranks.proofs.Ground.{ℕ, zero, suc, ◌+◌, ◌-◌, ◌<◌, ◌≤◌, Bool, cond, ◌≡◌, sym, ap, ◌∙◌, ◌≢◌, eqb, le_antisymm, arith}
use Rattle.queue_ranks.proofs.Ground.{eqb-true, eq-eqb, max_below, max_at, max_bound, by_eq, Terms, Clock, task_ranked, on_eq, on_le}
use Rattle.folds.proofs.Ground.{ltb, lt-ltb, le-ltb}
use Rattle.folds.proofs.Ranges.{max_where_bound, max_where_at}
use Rattle.folds.proofs.Searches.{find_passes, find_first, pigeon}

-- a place of the queue at which processor k stands
pub record At (c : ℕ) (g : ℕ → ℕ) (k : ℕ) : Type 0 where
  pub index : ℕ
  pub within : index < c
  pub is : g index ≡ k

-- each task in line is so in its own processor's queue, alone at its rank, behind one of the rank before, and has a hold time
pub record Ranked (n : ℕ) (t : Terms) (R : ℕ → ℕ → ℕ) : Type 0 where
  pub own : (k u : ℕ) → u < n → k ≢ t.processor u → R k u ≡ 0
  pub alone : (u : ℕ) → u < n → 1 ≤ R (t.processor u) u → task_ranked n (R (t.processor u)) (R (t.processor u) u) ≡ u
  pub backed : (u : ℕ) → u < n → 2 ≤ R (t.processor u) u → task_ranked n (R (t.processor u)) (R (t.processor u) u - 1) < n
  pub uses : (u : ℕ) → u < n → 1 ≤ R (t.processor u) u → 1 ≤ t.hold u

-- each processor with a task in line and no other is queued, just once
pub record Queued (n m : ℕ) (R : ℕ → ℕ → ℕ) (c : ℕ) (g : ℕ → ℕ) : Type 0 where
  pub placed : (i : ℕ) → i < c → g i < m
  pub served : (i : ℕ) → i < c → 1 ≤ max_below n (R (g i))
  pub once : (i j : ℕ) → i < c → j < c → g i ≡ g j → i ≡ j
  pub stands : (k : ℕ) → 1 ≤ max_below n (R k) → At c g k

-- the hold and the budget left
pub record Timed (n : ℕ) (t : Terms) (R : ℕ → ℕ → ℕ) (c : ℕ) (g : ℕ → ℕ) (h b : ℕ) : Type 0 where
  pub idle : c ≡ 0 → (h ≡ 0) × (b ≡ 0)
  pub runs : 1 ≤ c → (1 ≤ h) × (h ≤ t.hold (task_ranked n (R (g 0)) 1)) × (h ≤ b) × (b ≤ t.budget (g 0))

-- a held line, whose clock runs
pub held_timed : {n : ℕ} {t : Terms} {R : ℕ → ℕ → ℕ} {c : ℕ} {g : ℕ → ℕ} {h b : ℕ} → 1 ≤ c
    → Clock h b (t.hold (task_ranked n (R (g 0)) 1)) (t.budget (g 0)) → Timed n t R c g h b
held_timed a k = record { idle = λ z. omega arith; runs = λ _. (k.runs, k.lent, k.covered, k.budgeted) }

-- the task found at a rank has it, and is the first that has
pub task_rank : (n j : ℕ) (f : ℕ → ℕ) → task_ranked n f j < n → f (task_ranked n f j) ≡ j
task_rank n j f l = eqb-true _ _ (find_passes n (λ u. eqb (f u) j) l)

pub task_first : (n j u : ℕ) (f : ℕ → ℕ) → u < n → f u ≡ j → task_ranked n f j ≤ u
task_first n j u f l e = find_first n u (λ v. eqb (f v) j) l (eq-eqb _ _ e)

-- the greatest rank is some task's
pub max_there : (n : ℕ) (f : ℕ → ℕ) → 1 ≤ max_below n f → task_ranked n f (max_below n f) < n
max_there n f a =
    on_le (task_ranked n f (max_below n f) < n) n (task_ranked n f (max_below n f))
    (λ out. omega (
      arith,
      max_bound n (max_below n f - 1) f (λ u l. on_eq (f u ≤ max_below n f - 1) (f u) (max_below n f)
          (λ e. omega (arith, task_first n (max_below n f) u f l e)) (λ ne. omega (arith, max_at n u f l))),
    ))
    (λ l. l)

-- where no two tasks share a rank, the last task of rank j is the first
pub seated : (n : ℕ) (f : ℕ → ℕ) → ((u : ℕ) → u < n → 1 ≤ f u → task_ranked n f (f u) ≡ u) → (j : ℕ) → 1 ≤ j
    → max_below n (λ u. cond (eqb (f u) j) (u + 1) 0) ≡ cond (ltb (task_ranked n f j) n) (task_ranked n f j + 1) 0
seated n f alone j a =
    on_le (max_below n (λ u. cond (eqb (f u) j) (u + 1) 0) ≡ cond (ltb (task_ranked n f j) n) (task_ranked n f j + 1) 0) n (task_ranked n f j)
    (λ out. rw (le-ltb (task_ranked n f j) n out) (le_antisymm
    (max_where_bound n 0 (λ u. eqb (f u) j) (λ u. u + 1) (λ u l e. omega (arith, task_first n j u f l (eqb-true _ _ e))))
    (omega arith)))
    (λ l. rw (lt-ltb (task_ranked n f j) n l) (le_antisymm
    (max_where_bound n (task_ranked n f j + 1) (λ u. eqb (f u) j) (λ u. u + 1) (λ u b e. omega (arith, one u b (eqb-true _ _ e))))
    (max_where_at n (task_ranked n f j) (λ u. eqb (f u) j) (λ u. u + 1) l (eq-eqb _ _ (task_rank n j f l)))))
  where
    one : (u : ℕ) → u < n → f u ≡ j → task_ranked n f j ≡ u
    one u l e = rw e at (alone u l (rw e a))

-- the same of the ranks f in the queue of one processor k: a move changes those of one processor
pub record RankedAt (n : ℕ) (t : Terms) (k : ℕ) (f : ℕ → ℕ) : Type 0 where
  pub own : (u : ℕ) → u < n → 1 ≤ f u → k ≡ t.processor u
  pub alone : (u : ℕ) → u < n → 1 ≤ f u → task_ranked n f (f u) ≡ u
  pub backed : (u : ℕ) → u < n → 2 ≤ f u → task_ranked n f (f u - 1) < n
  pub uses : (u : ℕ) → u < n → 1 ≤ f u → 1 ≤ t.hold u

pub ranked_each : {n : ℕ} {t : Terms} {R : ℕ → ℕ → ℕ} → ((k : ℕ) → RankedAt n t k (R k)) → Ranked n t R
ranked_each {n} {t} {R} r = record {
  own = λ k u l ne. on_le (R k u ≡ 0) 1 (R k u) (λ a. absurd (ne ((r k).own u l a))) (λ a. omega arith);
  alone = λ u. (r (t.processor u)).alone u;
  backed = λ u. (r (t.processor u)).backed u;
  uses = λ u. (r (t.processor u)).uses u;
}

module _ {n : ℕ} {t : Terms} {R : ℕ → ℕ → ℕ} (r : Ranked n t R) where
  -- who has a rank in k's queue is k's
  pub owner : (k u : ℕ) → u < n → 1 ≤ R k u → k ≡ t.processor u
  owner k u l a =
      on_eq (k ≡ t.processor u) k (t.processor u) (λ e. e) (λ ne. omega (arith, r.own k u l ne))

  pub ranked_at : (k : ℕ) → RankedAt n t k (R k)
  ranked_at k = record {
    own = owner k;
    alone = λ u l a. let o = owner k u l a in rw o (r.alone u l (rw (← o) a));
    backed = λ u l a. let o = owner k u l (omega arith) in rw o (r.backed u l (rw (← o) a));
    uses = λ u l a. r.uses u l (rw (← owner k u l a) a);
  }

  -- and alone at it
  pub sole : (k u : ℕ) → u < n → 1 ≤ R k u → task_ranked n (R k) (R k u) ≡ u
  sole k = (ranked_at k).alone

  -- no rank is left out
  down : (k d j : ℕ) → 1 ≤ j → j + d ≡ max_below n (R k) → task_ranked n (R k) j < n
  down k zero j a e = let i : j ≡ max_below n (R k) = omega arith in rw i (max_there n (R k) (omega arith))
  down k (suc d) j a e =
      let u : ℕ = task_ranked n (R k) (suc j) in
      let l : u < n = down k d (suc j) (omega arith) (omega arith) in
      let f : R k u ≡ suc j = task_rank n (suc j) (R k) l in
      let x = (ranked_at k).backed u l (omega arith) in
      let y : R k u - 1 ≡ j = omega arith in
      rw y at x

  pub full : (k j : ℕ) → 1 ≤ j → j ≤ max_below n (R k) → task_ranked n (R k) j < n
  full k j a b = down k (max_below n (R k) - j) j a (omega arith)

  -- there are no more ranks than tasks
  pub ranks_few : (k : ℕ) → max_below n (R k) ≤ n
  ranks_few k =
      pigeon n (max_below n (R k)) (λ j. task_ranked n (R k) (suc j))
      (λ j l. full k (suc j) (omega arith) l)
      (λ i j a b e. omega (arith, at i a, at j b, ap (R k) e))
    where
      at : (j : ℕ) → j < max_below n (R k) → R k (task_ranked n (R k) (suc j)) ≡ suc j
      at j l = task_rank n (suc j) (R k) (full k (suc j) (omega arith) l)

  -- a task outside its processor's queue makes the ranks fewer than the tasks
  pub room : (i : ℕ) → i < n → R (t.processor i) i ≡ 0 → max_below n (R (t.processor i)) < n
  room i lt out =
      pigeon n (suc (max_below n f)) pick (λ j l. let (a, _) = at j l in a)
      (λ j k a b e. let (_, x) = at j a in let (_, y) = at k b in sym x ∙ ap f e ∙ y)
    where
      f : ℕ → ℕ
      f = R (t.processor i)

      pick : ℕ → ℕ
      pick j = cond (eqb j 0) i (task_ranked n f j)

      at : (j : ℕ) → j < suc (max_below n f) → (pick j < n) × (f (pick j) ≡ j)
      at j l =
          by_eq (λ (d : Bool). let u : ℕ = cond d i (task_ranked n f j) in (u < n) × (f u ≡ j)) j 0 (λ e. (lt, omega arith))
          (λ ne. let a = full (t.processor i) j (omega arith) (omega arith) in (a, task_rank n j f a))

-- a queue has at most as many processors as there are
pub queued_few : {n m : ℕ} {R : ℕ → ℕ → ℕ} {c : ℕ} {g : ℕ → ℕ} → Queued n m R c g → c ≤ m
queued_few {n} {m} {R} {c} {g} w = pigeon m c g w.placed w.once
