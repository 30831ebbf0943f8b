-- The queue of processors when a move changes the tasks of one processor k: k stays where it is, comes to the tail, or goes.
use Rattle.queue_ranks.proofs.Ground.{ℕ, suc, ◌-◌, ◌<◌, ◌≤◌, cond, ◌≡◌, refl, sym, ap, ◌∙◌, ◌≢◌, eqb, arith, eq-eqb, ne_eqb}
use Rattle.queue_ranks.proofs.Ground.{max_below, max_bound, on_eq, on_le}
use Rattle.queue_ranks.proofs.Ranked.{At, Queued}

module _ {n m : ℕ} {R S : ℕ → ℕ → ℕ} {k : ℕ} (others : (l : ℕ) → l ≢ k → max_below n (R l) ≡ max_below n (S l)) where
  -- it has tasks before and after
  pub slots_stay : {c : ℕ} {g : ℕ → ℕ} → Queued n m R c g → 1 ≤ max_below n (R k) → 1 ≤ max_below n (S k) → Queued n m S c g
  slots_stay {c} {g} w a b = record {
    placed = w.placed;
    served = λ j l. on_eq (1 ≤ max_below n (S (g j))) (g j) k (λ e. rw e b) (λ d. omega (arith, others (g j) d, w.served j l));
    once = w.once;
    stands = λ l y. on_eq (At c g l) l k (λ e. rw e (w.stands k a)) (λ d. w.stands l (omega (arith, others l d)));
  }

  -- it has none before
  pub slots_last : {c : ℕ} {g : ℕ → ℕ} (f : ℕ → ℕ) → Queued n m R c g → max_below n (R k) ≡ 0 → 1 ≤ max_below n (S k) → k < m
      → ((j : ℕ) → j < c → f j ≡ g j) → f c ≡ k → Queued n m S (suc c) f
  slots_last {c} {g} f w z a small same last = record {
    placed = λ j l. on_eq (f j < m) j c (λ e. rw (e, last) small) (λ d. rw (same j (omega arith)) (w.placed j (omega arith)));
    served = λ j l. on_eq (1 ≤ max_below n (S (f j))) j c (λ e. rw (e, last) a)
        (λ d. let p : j < c = omega arith in rw (same j p) (omega (arith, w.served j p, others (g j) (λ e. apart j p (same j p ∙ e)))));
    once = λ i j p q e. on_eq (i ≡ j) i c
        (λ x. on_eq (i ≡ j) j c (λ y. x ∙ sym y) (λ d. absurd (apart j (omega arith) (sym e ∙ ap f x ∙ last))))
        (λ d. on_eq (i ≡ j) j c (λ x. absurd (apart i (omega arith) (e ∙ ap f x ∙ last)))
        (λ y. w.once i j (omega arith) (omega arith) (sym (same i (omega arith)) ∙ e ∙ same j (omega arith))));
    stands = λ l b. on_eq (At (suc c) f l) l k (λ e. record { index = c; within = omega arith; is = last ∙ sym e })
        (λ d. let y : At c g l = w.stands l (omega (arith, others l d)) in
        record { index = y.index; within = omega (arith, y.within); is = same y.index y.within ∙ y.is });
  }
    where
      apart : (j : ℕ) → j < c → f j ≢ k
      apart j l e = let y : 1 ≤ max_below n (R k) = rw (sym (same j l) ∙ e) at (w.served j l) in omega arith

  -- it is in slot a, and has none after: those behind it move up
  pub slots_gone : {c : ℕ} {g : ℕ → ℕ} (a : ℕ) (f : ℕ → ℕ) → Queued n m R (suc c) g → a < suc c → g a ≡ k → max_below n (S k) ≡ 0
      → ((j : ℕ) → j < a → f j ≡ g j) → ((j : ℕ) → a ≤ j → j < c → f j ≡ g (suc j)) → Queued n m S c f
  slots_gone {c} {g} a f w la at z before after = record {
    placed = λ j l. from j l (f j < m) (λ i b e d. rw e (w.placed i b));
    served = λ j l. from j l (1 ≤ max_below n (S (f j))) (λ i b e d. rw e (omega (arith, w.served i b, others (g i) d)));
    once = λ i j p q e. on_le (i ≡ j) a i
        (λ x. on_le (i ≡ j) a j (λ y. omega (arith, w.once (suc i) (suc j) (omega arith) (omega arith) (sym (after i x p) ∙ e ∙ after j y q)))
        (λ y. omega (arith, w.once (suc i) j (omega arith) (omega arith) (sym (after i x p) ∙ e ∙ before j y))))
        (λ x. on_le (i ≡ j) a j (λ y. omega (arith, w.once i (suc j) (omega arith) (omega arith) (sym (before i x) ∙ e ∙ after j y q)))
        (λ y. w.once i j (omega arith) (omega arith) (sym (before i x) ∙ e ∙ before j y)));
    stands = λ l b. let d : l ≢ k = λ e. let y : 1 ≤ max_below n (S k) = rw e at b in omega arith in
        let y : At (suc c) g l = w.stands l (omega (arith, others l d)) in find l d y.index y.within y.is;
  }
    where
      -- where what stands in slot j came from
      from : (j : ℕ) → j < c → (C : Type 0) → ((i : ℕ) → i < suc c → f j ≡ g i → g i ≢ k → C) → C
      from j l C h =
          on_le C a j
          (λ x. h (suc j) (omega arith) (after j x l) (λ e. omega (arith, w.once (suc j) a (omega arith) la (e ∙ sym at))))
          (λ x. h j (omega arith) (before j x) (λ e. omega (arith, w.once j a (omega arith) la (e ∙ sym at))))

      find : (l : ℕ) → l ≢ k → (i : ℕ) → i < suc c → g i ≡ l → At c f l
      find l d i p e =
          on_le (At c f l) a i
          (λ x. let b : i ≢ a = λ y. d (sym e ∙ ap g y ∙ at) in
          let s : suc (i - 1) ≡ i = omega arith in
          record { index = i - 1; within = omega arith; is = after (i - 1) (omega arith) (omega arith) ∙ ap g s ∙ e })
          (λ x. record { index = i; within = omega arith; is = before i x ∙ e })

  -- it is first, and has none after
  pub slots_first : {c : ℕ} {g : ℕ → ℕ} (f : ℕ → ℕ) → Queued n m R (suc c) g → g 0 ≡ k → max_below n (S k) ≡ 0
      → ((j : ℕ) → j < c → f j ≡ g (suc j)) → Queued n m S c f
  slots_first f w first z same = slots_gone 0 f w (omega arith) first z (λ j l. omega arith) (λ j _ l. same j l)

-- it goes from the front to the tail: it leaves, and comes
pub slots_back : {n m : ℕ} {R S : ℕ → ℕ → ℕ} {c : ℕ} {g : ℕ → ℕ} (f : ℕ → ℕ) → ((l : ℕ) → l ≢ g 0 → max_below n (R l) ≡ max_below n (S l))
    → Queued n m R (suc c) g → 1 ≤ max_below n (S (g 0)) → ((j : ℕ) → j < c → f j ≡ g (suc j)) → f c ≡ g 0 → Queued n m S (suc c) f
slots_back {n} {m} {R} {S} {c} {g} f others w a same last =
    slots_last {R = gone} {S = S} {k = g 0} (λ l d. rw (ne_eqb l (g 0) d)) f
    (slots_first {R = R} {S = gone} {k = g 0} (λ l d. rw (ne_eqb l (g 0) d) (others l d)) f w refl none same)
    none a (w.placed 0 (omega arith)) (λ j l. refl) last
  where
    gone : ℕ → ℕ → ℕ
    gone l = cond (eqb l (g 0)) (λ u. 0) (S l)

    none : max_below n (gone (g 0)) ≡ 0
    none = rw (eq-eqb (g 0) (g 0) refl) (omega (arith, max_bound n 0 (λ u. 0) (λ u l. omega arith)))
