-- Who holds: the table of holders, and the holder's number in a row, against the first task of the head.
use Rattle.image.proofs.Ground.{ℕ, zero, suc, ◌+◌, ◌%◌, ◌<◌, Bool, true, false, cond, ◌&&◌, ◌≡◌, refl, sym, ap, ◌∙◌, eqb}
use Rattle.image.proofs.Ground.{ltb, get_or, replicate, length-replicate, get_or-replicate, arith, eqb-true, eq-eqb, ne_eqb, lt-ltb}
use Rattle.image.proofs.Ground.{and_parts, by_eq, any_below, most_resources, absent, Plan, Valid, processor_of}
use Rattle.image.proofs.Ground.{task_ranked, list_from, queue_from, full, sole, task_rank, State, Standing, line_at, slot, standing}
use Rattle.image.proofs.Ground.{rank, shows, Good, Whole, holder_number, holder_key, key_at, holder_table}
use Rattle.folds.proofs.Tests.{any_at, any_none, is_not_true}
use Rattle.folds.proofs.Figures.{max_at}
use Rattle.folds.proofs.Arrays.{stamped_where}
use Rattle.queue_rules.specs.Rules as Rules

-- the holder in a line over ranks
pub holder_ranked : (n : ℕ) (R : ℕ → ℕ → ℕ) (g : ℕ → ℕ) (c h b : ℕ)
    → holder_number (Rules.line h b (queue_from n R c g)) ≡ cond (eqb c 0) absent (task_ranked n (R (g 0)) 1)
unfolding list_from
holder_ranked n R g zero h b = refl
holder_ranked n R g (suc c) h b = rw (ne_eqb (suc c) 0 (λ e. omega arith))

module _ (p : Plan) (v : Valid p) (s : State) (w : Whole p s) where
  -- task u is put at q exactly where it is the first of the head
  key_rank : (q u : ℕ) → q < most_resources → key_at p s u ≡ q → rank p s.tasks q (slot (line_at s q) 0) u ≡ 1
  unfolding holder_key rank
  key_rank q u l e = go (ltb r 16 && (eqb t.place 0 && eqb (slot (line_at s (r % 16)) 0) (processor_of p u))) refl e
    where
      t : Standing
      t = standing s.tasks u

      r : ℕ
      r = t.resource

      go : (b : Bool) → (ltb r 16 && (eqb t.place 0 && eqb (slot (line_at s (r % 16)) 0) (processor_of p u))) ≡ b → cond b r 16 ≡ q
          → cond (eqb (processor_of p u) (slot (line_at s q) 0) && eqb r q) (t.place + 1) 0 ≡ 1
      go false h f = let bad : ⊥ = omega arith in absurd bad
      go true h f =
          let x = and_parts (ltb r 16) _ h in
          let y = and_parts (eqb t.place 0) _ x.1 in
          let z : eqb t.place 0 ≡ true = y.0 in
          let small : r % 16 ≡ q = omega arith in
          let head : slot (line_at s (r % 16)) 0 ≡ processor_of p u = eqb-true _ _ y.1 in
          rw (eq-eqb (processor_of p u) (slot (line_at s q) 0) (sym (rw small at head)), eq-eqb r q f, eqb-true t.place 0 z)

  rank_key : (q u : ℕ) → q < most_resources → rank p s.tasks q (slot (line_at s q) 0) u ≡ 1 → key_at p s u ≡ q
  unfolding holder_key rank
  rank_key q u l e = go (eqb (processor_of p u) (slot (line_at s q) 0) && eqb r q) refl e
    where
      t : Standing
      t = standing s.tasks u

      r : ℕ
      r = t.resource

      go : (b : Bool) → (eqb (processor_of p u) (slot (line_at s q) 0) && eqb r q) ≡ b → cond b (t.place + 1) 0 ≡ 1
          → cond (ltb r 16 && (eqb t.place 0 && eqb (slot (line_at s (r % 16)) 0) (processor_of p u))) r 16 ≡ q
      go false h f = let bad : ⊥ = omega arith in absurd bad
      go true h f =
          let x = and_parts (eqb (processor_of p u) (slot (line_at s q) 0)) _ h in
          let own : processor_of p u ≡ slot (line_at s q) 0 = eqb-true _ _ x.0 in
          let here : r ≡ q = eqb-true _ _ x.1 in
          let small : r % 16 ≡ q = omega arith in
          rw (small, lt-ltb r 16 (omega arith), eq-eqb t.place 0 (omega arith), eq-eqb (slot (line_at s q) 0) (processor_of p u) (sym own)) here

  -- the table has the holder of each resource
  pub table_at : (q : ℕ) → q < most_resources → get_or (holder_table p s) q 0 ≡ holder_number ((shows p s).lines q)
  unfolding shows holder_table
  table_at q l =
      let g : Good p s.tasks q (line_at s q) = w.lines q l in
      let k : ℕ = slot (line_at s q) 0 in
      let R : ℕ → ℕ → ℕ = rank p s.tasks q in
      let i : ℕ = task_ranked p.tasks (R k) 1 in
      let one : (u : ℕ) → u < p.tasks → key_at p s u ≡ q → u ≡ i =
      λ u b e. let r = key_rank q u l e in sym (sole g.ranked k u b (omega arith)) ∙ ap (task_ranked p.tasks (R k)) r in
      stamped_where p.tasks (key_at p s) (λ u. u) (replicate 17 absent) q i 0 (rw length-replicate (omega arith)) one
      ∙ rest q l g
      ∙ sym (holder_ranked p.tasks R (slot (line_at s q)) (line_at s q).queued (line_at s q).hold_left (line_at s q).budget_left)
    where
      rest : (q : ℕ) → q < most_resources → Good p s.tasks q (line_at s q)
          → cond (any_below p.tasks (λ u. eqb (key_at p s u) q)) (task_ranked p.tasks (rank p s.tasks q (slot (line_at s q) 0)) 1) (get_or (replicate 17 absent) q 0)
          ≡ cond (eqb (line_at s q).queued 0) absent (task_ranked p.tasks (rank p s.tasks q (slot (line_at s q) 0)) 1)
      rest q l g =
          let k : ℕ = slot (line_at s q) 0 in
          let R : ℕ → ℕ → ℕ = rank p s.tasks q in
          let i : ℕ = task_ranked p.tasks (R k) 1 in
          by_eq (λ (z : Bool). cond (any_below p.tasks (λ u. eqb (key_at p s u) q)) i (get_or (replicate 17 absent) q 0) ≡ cond z absent i) (line_at s q).queued 0
          (λ e. rw (any_none p.tasks (λ u. eqb (key_at p s u) q)
          (λ u b. is_not_true _ (λ t. let r = key_rank q u l (eqb-true _ _ t) in
          omega (arith, (g.queued.stands k (omega (arith, max_at p.tasks u (R k) b))).within))))
          (get_or-replicate 17 q absent 0 (omega arith)))
          (λ ne. let lt = full g.ranked k 1 (omega arith) (g.queued.served 0 (omega arith)) in
          rw (any_at p.tasks i (λ u. eqb (key_at p s u) q) lt (eq-eqb _ _ (rank_key q i l (task_rank p.tasks 1 (R k) lt)))))
