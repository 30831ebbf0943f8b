-- Task i joins: the rules' line after it, over ranks and slots.
use Rattle.queue_ranks.proofs.Ground.{ℕ, zero, suc, ◌+◌, ◌-◌, ◌<◌, ◌≤◌, ◌≡◌, refl, sym, ap, ap₂, ◌∙◌, ◌≢◌, List, [], ◌∷◌, ◌++◌, eqb}
use Rattle.queue_ranks.proofs.Ground.{le_antisymm, add-one, arith, eq-eqb, ne_eqb, max_below, max_at, max_bound, Terms, Turn, turn}
use Rattle.queue_ranks.proofs.Ground.{line, list_from, task_ranked, others_of, turn_of, queue_from, on_eq, find_same}
use Rattle.queue_rules.specs.Rules.{join, entered}
use Rattle.folds.proofs.Searches.{find_is}
use Rattle.queue_ranks.proofs.Lists.{list_first, list_same, list_snoc}
use Rattle.queue_ranks.proofs.Ranked.{At, Queued}
use Rattle.queue_ranks.proofs.Same.{other_turn}

-- the ranks S are R with i, not in line, at the end of its processor's queue
pub record Joins (n : ℕ) (t : Terms) (R S : ℕ → ℕ → ℕ) (i : ℕ) : Type 0 where
  pub inside : i < n
  pub out : R (t.processor i) i ≡ 0
  pub new : S (t.processor i) i ≡ suc (max_below n (R (t.processor i)))
  pub elsewhere : (k : ℕ) → k ≢ t.processor i → S k i ≡ R k i
  pub kept : (k u : ℕ) → u < n → u ≢ i → S k u ≡ R k u

module _ {n : ℕ} {t : Terms} {R S : ℕ → ℕ → ℕ} {i : ℕ} (x : Joins n t R S i) where
  -- its processor, and the ranks that are there
  abbrev core : ℕ
  core = t.processor i

  abbrev most : ℕ
  most = max_below n (R core)

  -- the queues of other processors
  pub join_other : (k u : ℕ) → k ≢ core → u < n → R k u ≡ S k u
  join_other k u ne l = on_eq (R k u ≡ S k u) u i (λ e. rw e (sym (x.elsewhere k ne))) (λ d. sym (x.kept k u l d))

  -- ── the queue of its own ──
  below : (u : ℕ) → u < n → u ≢ i → S core u ≤ most
  below u l d = omega (arith, x.kept core u l d, max_at n u (R core) l)

  pub join_max : max_below n (S core) ≡ suc most
  join_max =
      le_antisymm
      (max_bound n (suc most) (S core)
      (λ u l. on_eq (S core u ≤ suc most) u i (λ e. rw e (omega (arith, x.new))) (λ d. omega (arith, below u l d))))
      (omega (arith, x.new, max_at n i (S core) x.inside))

  pub join_task : (j : ℕ) → 1 ≤ j → j ≤ most → task_ranked n (S core) j ≡ task_ranked n (R core) j
  join_task j a b =
      find_same n (λ u. eqb (S core u) j) (λ u. eqb (R core u) j)
      (λ u l. on_eq (eqb (S core u) j ≡ eqb (R core u) j) u i
      (λ e. rw e (ne_eqb _ j (λ z. omega (arith, x.new)) ∙ sym (ne_eqb _ j (λ z. omega (arith, x.out)))))
      (λ d. ap (λ (y : ℕ). eqb y j) (x.kept core u l d)))

  pub join_last : task_ranked n (S core) (suc most) ≡ i
  join_last =
      find_is n i (λ u. eqb (S core u) (suc most)) x.inside (eq-eqb _ _ x.new)
      (λ u l. ne_eqb (S core u) (suc most) (λ z. omega (arith, below u (omega (arith, x.inside)) (λ e. omega arith))))

  own_turn : 1 ≤ most → turn_of n S core ≡ turn core (task_ranked n (R core) 1) (others_of n (R core) ++ (i ∷ []))
  own_turn a =
      let m : max_below n (S core) - 1 ≡ suc (most - 1) = omega (arith, join_max) in
      ap₂ (λ (u : ℕ) (us : List ℕ). turn core u us) (join_task 1 (omega arith) a)
      (rw (m, list_snoc (most - 1) 2 (suc most) (task_ranked n (S core)) (omega arith), join_last)
      (ap (λ (l : List ℕ). l ++ (i ∷ []))
      (list_same (most - 1) 2 (task_ranked n (S core)) (task_ranked n (R core)) (λ j b l. join_task j (omega arith) (omega arith)))))

  new_turn : most ≡ 0 → turn_of n S core ≡ turn core i []
  unfolding list_from
  new_turn e =
      let a : task_ranked n (S core) 1 ≡ i = rw e at join_last in
      let m : max_below n (S core) - 1 ≡ 0 = omega (arith, join_max) in
      rw (a, m)

  -- ── the queue of processors ──
  join_absent : (c a : ℕ) (g : ℕ → ℕ) → ((j : ℕ) → a ≤ j → j < a + c → g j ≢ core)
      → join t i (list_from c a (λ j. turn_of n R (g j))) ≡ list_from c a (λ j. turn_of n S (g j)) ++ (turn core i [] ∷ [])
  unfolding list_from
  join_absent zero a g h = refl
  join_absent (suc c) a g h =
      rw (ne_eqb (g a) core (h a (omega arith) (omega arith)))
      (ap₂ (λ (y : Turn) (ys : List Turn). y ∷ ys) (other_turn join_other (g a) (h a (omega arith) (omega arith)))
      (join_absent c (suc a) g (λ j b l. h j (omega arith) (omega arith))))

  join_there : (c a s : ℕ) (g : ℕ → ℕ) → 1 ≤ most → a ≤ s → s < a + c → g s ≡ core
      → ((j : ℕ) → j ≢ s → a ≤ j → j < a + c → g j ≢ core)
      → join t i (list_from c a (λ j. turn_of n R (g j))) ≡ list_from c a (λ j. turn_of n S (g j))
  unfolding list_from
  join_there zero a s g m b l e h = let bad : ⊥ = omega arith in absurd bad
  join_there (suc c) a s g m b l e h =
      on_eq (join t i (list_from (suc c) a (λ j. turn_of n R (g j))) ≡ list_from (suc c) a (λ j. turn_of n S (g j))) a s
      (λ p. let q : g a ≡ core = ap g p ∙ e in
      rw (eq-eqb (g a) core q)
      (ap₂ (λ (y : Turn) (ys : List Turn). y ∷ ys) (rw q (sym (own_turn m)))
      (list_same c (suc a) (λ j. turn_of n R (g j)) (λ j. turn_of n S (g j))
      (λ j v w. other_turn join_other (g j) (h j (λ z. omega arith) (omega arith) (omega arith))))))
      (λ p. rw (ne_eqb (g a) core (h a p (omega arith) (omega arith)))
      (ap₂ (λ (y : Turn) (ys : List Turn). y ∷ ys) (other_turn join_other (g a) (h a p (omega arith) (omega arith)))
      (join_there c (suc a) s g m (omega arith) (omega arith) e (λ j d v w. h j d (omega arith) (omega arith)))))

  -- ── the line ──
  -- a free one
  pub enter_free : (c : ℕ) (g f : ℕ → ℕ) (h b : ℕ) → c ≡ 0 → most ≡ 0 → f 0 ≡ core
      → entered t i (line h b (queue_from n R c g)) ≡ line (t.hold i) (t.budget core) (queue_from n S 1 f)
  unfolding list_from
  enter_free c g f h b e z p =
      rw (e, p) (ap (λ (y : Turn). line (t.hold i) (t.budget core) (y ∷ [])) (sym (new_turn z)))

  enter_held : (c : ℕ) (g : ℕ → ℕ) (h b : ℕ) → 1 ≤ c → entered t i (line h b (queue_from n R c g)) ≡ line h b (join t i (queue_from n R c g))
  enter_held c g h b a = rw (list_first c 0 (λ j. turn_of n R (g j)) a)

  -- a held one, in which its processor is not
  pub enter_new : {m : ℕ} (c : ℕ) (g f : ℕ → ℕ) (h b : ℕ) → 1 ≤ c → Queued n m R c g → most ≡ 0
      → ((j : ℕ) → j < c → f j ≡ g j) → f c ≡ core
      → entered t i (line h b (queue_from n R c g)) ≡ line h b (queue_from n S (c + 1) f)
  enter_new c g f h b a w z same last =
      enter_held c g h b a ∙ ap (λ (q : List Turn). line h b q)
      (join_absent c 0 g (λ j _ l e. let s : 1 ≤ most = rw e at (w.served j (omega arith)) in omega arith)
      ∙ ap₂ (λ (q : List Turn) (y : Turn). q ++ (y ∷ []))
      (list_same c 0 (λ j. turn_of n S (g j)) (λ j. turn_of n S (f j)) (λ j _ l. ap (turn_of n S) (sym (same j (omega arith)))))
      (sym (new_turn z) ∙ ap (turn_of n S) (sym last))
      ∙ sym (list_snoc c 0 c (λ j. turn_of n S (f j)) (omega arith)) ∙ ap (λ (d : ℕ). queue_from n S d f) (sym (add-one c)))

  -- one in which its processor is
  pub enter_there : {m : ℕ} (c : ℕ) (g : ℕ → ℕ) (h b : ℕ) → Queued n m R c g → 1 ≤ most
      → entered t i (line h b (queue_from n R c g)) ≡ line h b (queue_from n S c g)
  enter_there c g h b w a =
      let s : At c g core = w.stands core a in
      enter_held c g h b (omega (arith, s.within)) ∙ ap (λ (q : List Turn). line h b q)
      (join_there c 0 s.index g a (omega arith) (omega (arith, s.within)) s.is
      (λ j ne _ l e. ne (w.once j s.index (omega arith) s.within (e ∙ sym s.is))))
