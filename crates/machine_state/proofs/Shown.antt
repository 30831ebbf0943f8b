-- A sound state shows sound lines, in which nobody stands twice.
use Rattle.machine_state.proofs.Ground.{ℕ, zero, suc, ◌+◌, ◌<◌, ◌≤◌, Bool, true, false, true≢false, ◌≡◌, refl, sym, ap, ◌∙◌, eqb}
use Rattle.machine_state.proofs.Ground.{length, List·getD-eq-default, arith, eqb-true, ne_eqb, most_resources, max_below, or_out}
use Rattle.machine_state.proofs.Ground.{is_not_true, Plan, Valid, hold_at, queue_of, list_from, task_ranked, turn_of, queue_from, on_le}
use Rattle.machine_state.proofs.Ground.{Ranked, Queued, Timed, task_rank, full, State, no_line, line_at, slot, shows, sound}
use Rattle.folds.proofs.Ground.{◌∷◌}
use Rattle.queue_rules.specs.Rules.{Terms, line, among, has_turn}
use Rattle.queue_rules.proofs.Sound.{Owns, Proper, nobody, stands, Sound, is_free, is_held}
use Rattle.queue_rules.proofs.Once.{Once, none, more, EachOnce, empty, next}
use Rattle.machine_rules.proofs.SoundLines.{known, SoundAt}
use Rattle.machine_rules.proofs.OnceLines.{Orderly}
use Rattle.queue_ranks.specs.Ranks.{others_of}
use Rattle.queue_ranks.proofs.Reading.{all_tasks}
use Rattle.queue_ranks.proofs.Ranked.{owner}
use Rattle.machine_state.proofs.Wholes.{hold_user, whole_of}

-- one of a list is one of its numbers' figures
among_out : (i : ℕ) (f : ℕ → ℕ) (c a : ℕ) (C : Type 0) → among i (list_from c a f) ≡ true → ((j : ℕ) → a ≤ j → j < a + c → f j ≡ i → C) → C
unfolding list_from
among_out i f zero a C e h = absurd (true≢false (sym e))
among_out i f (suc c) a C e h =
    or_out (eqb (f a) i) (among i (list_from c (suc a) f)) C e (λ t. h a (omega arith) (omega arith) (eqb-true (f a) i t))
    (λ t. among_out i f c (suc a) C t (λ j p l. h j (omega arith) (omega arith)))

-- a list whose figures differ has each once
once_from : (f : ℕ → ℕ) (c a : ℕ) → ((i j : ℕ) → a ≤ i → i < j → j < a + c → f i ≡ f j → ⊥) → Once (list_from c a f)
unfolding list_from
once_from f zero a h = none
once_from f (suc c) a h =
    more
    (is_not_true (among (f a) (list_from c (suc a) f))
    (λ m. among_out (f a) f c (suc a) ⊥ m (λ j l b e. h a j (omega arith) l (omega arith) (sym e))))
    (once_from f c (suc a) (λ i j l b d e. h i j (omega arith) b (omega arith) e))

-- nobody stands in a line over ranks twice
module _ {n : ℕ} {t : Terms} {R : ℕ → ℕ → ℕ} (r : Ranked n t R) where
  turn_once : (k : ℕ) → 1 ≤ max_below n (R k) → Once (task_ranked n (R k) 1 ∷ others_of n (R k))
  turn_once k a =
      let at : (j : ℕ) → 1 ≤ j → j ≤ max_below n (R k) → R k (task_ranked n (R k) j) ≡ j = λ j l h. task_rank n j (R k) (full r k j l h) in
      rw (all_tasks n (R k) a) (once_from (task_ranked n (R k)) (max_below n (R k)) 1
      (λ i j l b h e. omega (arith, at i l (omega arith), at j (omega arith) (omega arith), ap (R k) e)))

  each_once : {m c : ℕ} {g : ℕ → ℕ} → Queued n m R c g → (d a : ℕ) → a + d ≤ c → EachOnce (list_from d a (λ i. turn_of n R (g i)))
  unfolding list_from
  each_once w zero a b = empty
  each_once {g = g} w (suc d) a b = next (turn_once (g a) (w.served a (omega arith))) (each_once w d (suc a) (omega arith))

-- a line over ranks, for whose tasks a hold time makes them known
module _ {n m : ℕ} {t : Terms} {R : ℕ → ℕ → ℕ} (known : ℕ → Bool) (user : (u : ℕ) → 1 ≤ t.hold u → known u ≡ true) (r : Ranked n t R) where
  -- the tasks of a turn
  turn_owns : (k : ℕ) → 1 ≤ max_below n (R k) → Owns t known m k (task_ranked n (R k) 1 ∷ others_of n (R k))
  turn_owns k a = record {
    each = λ i e. among_out i (task_ranked n (R k)) (max_below n (R k)) 1 _ (ap (among i) (sym (all_tasks n (R k) a)) ∙ e)
        (λ j p l f. let b = full r k j p (omega arith) in
        let low : i < n = rw f at b in
        let ranked : R k i ≡ j = rw f at (task_rank n j (R k) b) in
        let o : k ≡ t.processor i = owner r k i low (omega arith) in
        (sym o, user i (r.uses i low (rw (← o) (omega arith)))));
  }

  module _ {c : ℕ} {g : ℕ → ℕ} (w : Queued n m R c g) where
    -- nobody behind slot x has its processor
    no_turn : (x d a : ℕ) → x < a → a + d ≤ c → has_turn (g x) (list_from d a (λ i. turn_of n R (g i))) ≡ false
    unfolding list_from
    no_turn x zero a l b = refl
    no_turn x (suc d) a l b =
        rw (ne_eqb (g a) (g x) (λ e. omega (arith, w.once a x (omega arith) (omega arith) e))) (no_turn x d (suc a) (omega arith) (omega arith))

    proper : (d a : ℕ) → a + d ≤ c → Proper t known m (list_from d a (λ i. turn_of n R (g i)))
    unfolding list_from
    proper zero a b = nobody
    proper (suc d) a b =
        stands (w.placed a (omega arith)) (no_turn a d (suc a) (omega arith) (omega arith)) (turn_owns (g a) (w.served a (omega arith)))
        (proper d (suc a) (omega arith))

  line_sound : (c : ℕ) (g : ℕ → ℕ) (h b : ℕ) → Queued n m R c g → Timed n t R c g h b → Sound t known m (line h b (queue_from n R c g))
  unfolding list_from
  line_sound zero g h b w k = let e = k.idle refl in rw (e.0, e.1) is_free
  line_sound (suc c) g h b w k =
      let x = k.runs (omega arith) in
      is_held (record { runs = x.0; lent = x.1; covered = x.2; budgeted = x.3 }) (proper w (suc c) 0 (omega arith))

-- past the last line nobody stands
pub shown_orderly : (p : Plan) → Valid p → (s : State) → length s.lines ≡ most_resources → sound p s ≡ true → Orderly p (shows p s)
unfolding shows list_from
shown_orderly p v s long h = record { sound = λ q. (at q).0; once = λ q. (at q).1 }
  where
    at : (q : ℕ) → SoundAt p q ((shows p s).lines q) × EachOnce (queue_of ((shows p s).lines q))
    at q =
        on_le (SoundAt p q ((shows p s).lines q) × EachOnce (queue_of ((shows p s).lines q))) most_resources q
        (λ l. rw (List·getD-eq-default s.lines no_line {n = q} (rw long l)) (is_free, empty))
        (λ l. let w = (whole_of p v s h).lines q l in
        let user : (u : ℕ) → 1 ≤ hold_at p u q → known p q u ≡ true = λ u a. hold_user p v u q a in
        let count : ℕ = (line_at s q).queued in (
          line_sound (known p q) user w.ranked count (slot (line_at s q)) (line_at s q).hold_left (line_at s q).budget_left w.queued w.timed,
          each_once w.ranked w.queued count 0 (omega arith),
        ))
