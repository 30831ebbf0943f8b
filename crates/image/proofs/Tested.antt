-- An image is sound exactly where it passes the tests of the code: its counts and offsets, the holder's number in each row, and the state
-- that it shows.
use Rattle.image.proofs.Ground.{ℕ, ◌+◌, ◌<◌, ◌≤◌, Bool, true, false, cond, ◌&&◌, ◌||◌, not, or-true, ◌≡◌, refl, sym, ap, ◌∙◌, ⊎_elim, List}
use Rattle.image.proofs.Ground.{eqb, ltb, length-replicate, arith, eqb-true, eq-eqb, ne_eqb, lt-ltb, le-ltb, and_parts}
use Rattle.image.proofs.Ground.{same_test, all_at, all_from, by_eq, on_eq, on_le, all_below, placed_at}
use Rattle.image.proofs.Ground.{most_processors, most_tasks, absent, Plan, Valid, processor_of, global, uses, task_ranked, full}
use Rattle.image.proofs.Ground.{sole, task_rank, State, Standing, LineRow, fresh_state, none_in_line, no_line, no_standing, is_idle}
use Rattle.image.proofs.Ground.{line_at, slot, standing, rank, alone, backed, holder_of, task_fits, sound, Good, Whole, both, rank_own}
use Rattle.image.proofs.Ground.{hold_resource, whole_of, state_in, line_in, holder_in, standing_in, absent_filled, free_filled}
use Rattle.image.proofs.Ground.{task_filled, place_fits, holder_fits, filled, counts_fit, image_sound, first, holder_test, fit_test}
use Rattle.folds.proofs.Ground.{true≢false}
use Rattle.folds.proofs.Tests.{or_out}
use Rattle.folds.proofs.Figures.{max_at}
use Rattle.analysis_equations.specs.HoldTimes.{hold_at}
use Rattle.queue_ranks.proofs.Ranked.{ranks_few}

-- a rank of 1 is the first place of that queue
rank_one : (p : Plan) (ts : List Standing) (q k u : ℕ) → rank p ts q k u ≡ 1 → first q k (standing ts u) (processor_of p u) ≡ true
unfolding rank
rank_one p ts q k u e = go (eqb (processor_of p u) k && eqb (standing ts u).resource q) refl e
  where
    go : (b : Bool) → (eqb (processor_of p u) k && eqb (standing ts u).resource q) ≡ b → cond b ((standing ts u).place + 1) 0 ≡ 1
        → first q k (standing ts u) (processor_of p u) ≡ true
    go false h f = let bad : ⊥ = omega arith in absurd bad
    go true h f =
        let x = and_parts (eqb (processor_of p u) k) (eqb (standing ts u).resource q) h in
        both (both x.1 (eq-eqb (standing ts u).place 0 (omega arith))) x.0

one_rank : (p : Plan) (ts : List Standing) (q k u : ℕ) → first q k (standing ts u) (processor_of p u) ≡ true → rank p ts q k u ≡ 1
unfolding rank
one_rank p ts q k u h =
    let x = and_parts (eqb (standing ts u).resource q && eqb (standing ts u).place 0) (eqb (processor_of p u) k) h in
    let y = and_parts (eqb (standing ts u).resource q) (eqb (standing ts u).place 0) x.0 in
    rw (x.1, y.0, eqb-true (standing ts u).place 0 y.1)

-- the test of a holder's number, by what the code looks at
module _ (p : Plan) (b : List ℕ) (q : ℕ) where
  pub free_test_lem : {l : LineRow} {holder : ℕ} → l ≡ line_in b q → holder ≡ holder_in b q → l.queued ≡ 0 → eqb holder absent ≡ holder_test p b q
  unfolding holder_test
  free_test_lem e f z = rw (← e, ← f, eq-eqb _ 0 z)

  pub past_test : {l : LineRow} {holder : ℕ} → l ≡ line_in b q → holder ≡ holder_in b q → (l.queued ≡ 0 → ⊥) → p.tasks ≤ holder
      → false ≡ holder_test p b q
  unfolding holder_test
  past_test e f ne past = rw (← e, ← f, ne_eqb _ 0 ne, le-ltb _ _ past)

  pub first_test : {l : LineRow} {holder i : ℕ} {s : Standing} → l ≡ line_in b q → holder ≡ holder_in b q → (l.queued ≡ 0 → ⊥)
      → holder < p.tasks → i ≡ holder → s ≡ standing_in p b i → first q (slot l 0) s (processor_of p i) ≡ holder_test p b q
  unfolding holder_test
  first_test e f ne lt same row = rw (← e, ← f, ne_eqb _ 0 ne, lt-ltb _ _ lt, row, same)

module _ (p : Plan) (v : Valid p) (b : List ℕ) where
  -- the rows of the state that an image shows
  pub line_loaded : (q : ℕ) → q < p.resources → line_at (state_in p b) q ≡ line_in b q
  line_loaded q l = placed_at p.resources q (line_in b) fresh_state.lines no_line l (rw length-replicate v.resources)

  pub standing_loaded : (i : ℕ) → i < p.tasks → standing (state_in p b).tasks i ≡ standing_in p b i
  standing_loaded i l = placed_at p.tasks i (standing_in p b) fresh_state.tasks no_standing l (rw length-replicate v.tasks)

  module _ (h : sound p (state_in p b) ≡ true) where
    w : Whole p (state_in p b)
    w = whole_of p v (state_in p b) h

    good : (q : ℕ) → q < p.resources → Good p (state_in p b).tasks q (line_in b q)
    good q l = rw (line_loaded q l) at (w.lines q (omega (arith, v.resources)))

    -- the holder's number passes the test exactly where it is that of the head's first task
    holder_is : (q : ℕ) → q < p.resources → ((line_in b q).queued ≡ 0 → ⊥) → holder_test p b q ≡ true
        → holder_in b q ≡ holder_of p (state_in p b).tasks q (line_in b q)
    unfolding holder_test
    holder_is q l ne t =
        on_le (holder_in b q ≡ holder_of p (state_in p b).tasks q (line_in b q)) p.tasks (holder_in b q)
        (λ past. absurd (true≢false (sym (rw (ne_eqb (line_in b q).queued 0 ne, le-ltb (holder_in b q) p.tasks past) at t))))
        (λ lt. let x = rw (ne_eqb (line_in b q).queued 0 ne, lt-ltb (holder_in b q) p.tasks lt, ← standing_loaded (holder_in b q) lt) at t in
        let r : rank p (state_in p b).tasks q (slot (line_in b q) 0) (holder_in b q) ≡ 1 =
        one_rank p (state_in p b).tasks q (slot (line_in b q) 0) (holder_in b q) x in
        sym (sole (good q l).ranked (slot (line_in b q) 0) (holder_in b q) lt (omega arith))
        ∙ ap (task_ranked p.tasks (rank p (state_in p b).tasks q (slot (line_in b q) 0))) r)

    is_holder : (q : ℕ) → q < p.resources → ((line_in b q).queued ≡ 0 → ⊥) → holder_in b q ≡ holder_of p (state_in p b).tasks q (line_in b q)
        → holder_test p b q ≡ true
    unfolding holder_test
    is_holder q l ne e =
        let g = good q l in
        let k : ℕ = slot (line_in b q) 0 in
        let lt : task_ranked p.tasks (rank p (state_in p b).tasks q k) 1 < p.tasks = full g.ranked k 1 (omega arith) (g.queued.served 0 (omega arith)) in
        let r = task_rank p.tasks 1 (rank p (state_in p b).tasks q k) lt in
        let x = rank_one p (state_in p b).tasks q k _ r in
        rw (ne_eqb (line_in b q).queued 0 ne, e, lt-ltb _ p.tasks lt, ← standing_loaded _ lt) x

    -- so a number that is read off what the image shows passes it
    pub holder_passes : (q : ℕ) → q < p.resources
        → holder_in b q ≡ cond (eqb (line_in b q).queued 0) absent (holder_of p (state_in p b).tasks q (line_in b q)) → holder_test p b q ≡ true
    unfolding holder_test
    holder_passes q l e =
        on_eq (holder_test p b q ≡ true) (line_in b q).queued 0
        (λ z. rw (eq-eqb (line_in b q).queued 0 z) (eq-eqb _ _ (rw (eq-eqb (line_in b q).queued 0 z) at e)))
        (λ ne. is_holder q l ne (rw (ne_eqb (line_in b q).queued 0 ne) at e))

    -- the clauses that the state's soundness says again
    slots_filled : (q : ℕ) → q < p.resources → absent_filled p b q ≡ true
    slots_filled q l =
        all_from most_processors (λ j. ltb j (line_in b q).queued || eqb (slot (line_in b q) j) absent)
        (λ j a. on_le ((ltb j (line_in b q).queued || eqb (slot (line_in b q) j) absent) ≡ true) (line_in b q).queued j
        (λ past. rw (eq-eqb _ _ ((good q l).rest j past a)) (or-true (ltb j (line_in b q).queued)))
        (λ lt. rw (lt-ltb _ _ lt)))

    free_filled_lem : (q : ℕ) → q < p.resources → holder_test p b q ≡ true → free_filled p b q ≡ true
    unfolding holder_test
    free_filled_lem q l t =
        by_eq (λ (z : Bool). cond z (eqb (holder_in b q) absent) (cond (ltb (holder_in b q) p.tasks) (first q (slot (line_in b q) 0) (standing_in p b (holder_in b q)) (processor_of p (holder_in b q))) false) ≡ true
        → (not z || (eqb (holder_in b q) absent && eqb (line_in b q).hold_left 0 && eqb (line_in b q).budget_left 0)) ≡ true) (line_in b q).queued 0
        (λ e u. let x = (good q l).timed.idle e in both (both u (eq-eqb _ _ x.0)) (eq-eqb _ _ x.1))
        (λ ne u. refl)
        t

    rows_filled : (i : ℕ) → i < p.tasks → task_filled p b i ≡ true
    rows_filled i l = rw (← standing_loaded i l) (⊎_elim out in_line_lem (w.rows i (omega (arith, v.tasks))))
      where
        row : Standing
        row = standing (state_in p b).tasks i

        out : row ≡ none_in_line → (is_idle row || (not (eqb row.resource absent) && not (eqb row.place absent))) ≡ true
        out e = rw e

        in_line_lem : 1 ≤ hold_at p i row.resource → (is_idle row || (not (eqb row.resource absent) && not (eqb row.place absent))) ≡ true
        in_line_lem a =
            let c = hold_resource p v i row.resource a in
            let g : Good p (state_in p b).tasks row.resource (line_in b row.resource) = good row.resource c in
            let m = ranks_few g.ranked (processor_of p i) in
            let n = max_at p.tasks i (rank p (state_in p b).tasks row.resource (processor_of p i)) l in
            let o = rank_own p (state_in p b).tasks i in
            rw (ne_eqb row.resource absent (λ e. omega (arith, v.resources)), ne_eqb row.place absent (λ e. omega (arith, v.tasks)))
            (or-true (false && eqb row.place absent))

    places_fit : (i : ℕ) → i < p.tasks → place_fits p b i ≡ true
    unfolding sound task_fits
    places_fit i l =
        let ts = (state_in p b).tasks in
        let row = standing ts i in
        let a = and_parts (all_below most_tasks (task_fits p ts)) _ h in
        let x = all_at most_tasks i (task_fits p ts) a.0 (omega (arith, v.tasks)) in
        rw (← standing_loaded i l)
        (or_out (is_idle row) (global p row.resource && uses p i row.resource && (alone p ts i && backed p ts i))
        ((is_idle row || (alone p ts i && backed p ts i)) ≡ true) x
        (λ e. rw e)
        (λ e. rw (and_parts (global p row.resource && uses p i row.resource) (alone p ts i && backed p ts i) e).1 (or-true (is_idle row))))

  -- and back
  test : (q : ℕ) → q < p.resources → free_filled p b q ≡ true → holder_fits p b q ≡ true → sound p (state_in p b) ≡ true → holder_test p b q ≡ true
  unfolding holder_test
  test q l free fits h =
      on_eq (holder_test p b q ≡ true) (line_in b q).queued 0
      (λ z. let x = rw (eq-eqb (line_in b q).queued 0 z) at free in
      rw (eq-eqb (line_in b q).queued 0 z)
      (and_parts (eqb (holder_in b q) absent) (eqb (line_in b q).hold_left 0)
      (and_parts (eqb (holder_in b q) absent && eqb (line_in b q).hold_left 0) (eqb (line_in b q).budget_left 0) x).0).0)
      (λ ne. is_holder h q l ne (eqb-true _ _ (rw (ne_eqb (line_in b q).queued 0 ne) at fits)))

  -- the tests are the definition
  pub image_tested : (fit_test p b && sound p (state_in p b)) ≡ image_sound p b
  unfolding fit_test image_sound
  image_tested = same_test _ _ there back
    where
      s : State
      s = state_in p b

      there : ((counts_fit p b && all_below p.resources (holder_test p b)) && sound p s) ≡ true → image_sound p b ≡ true
      there e =
          let x = and_parts (counts_fit p b && all_below p.resources (holder_test p b)) (sound p s) e in
          let y = and_parts (counts_fit p b) (all_below p.resources (holder_test p b)) x.0 in
          let held : (q : ℕ) → q < p.resources → holder_test p b q ≡ true = λ q l. all_at p.resources q (holder_test p b) y.1 l in
          both
          (both y.0
          (both (all_from p.resources (λ q. absent_filled p b q && free_filled p b q) (λ q l. both (slots_filled x.1 q l) (free_filled_lem x.1 q l (held q l))))
          (all_from p.tasks (task_filled p b) (rows_filled x.1))))
          (both (all_from p.tasks (place_fits p b) (places_fit x.1))
          (both (all_from p.resources (holder_fits p b)
          (λ q l. by_eq (λ (z : Bool). (z || eqb (holder_in b q) (holder_of p s.tasks q (line_in b q))) ≡ true) (line_in b q).queued 0
          (λ z. refl) (λ ne. eq-eqb _ _ (holder_is x.1 q l ne (held q l)))))
          x.1))

      back : image_sound p b ≡ true → ((counts_fit p b && all_below p.resources (holder_test p b)) && sound p s) ≡ true
      back e =
          let x = and_parts (counts_fit p b && filled p b) _ e in
          let y = and_parts (counts_fit p b) (filled p b) x.0 in
          let f = and_parts (all_below p.resources (λ q. absent_filled p b q && free_filled p b q)) (all_below p.tasks (task_filled p b)) y.1 in
          let z = and_parts (all_below p.tasks (place_fits p b)) _ x.1 in
          let g = and_parts (all_below p.resources (holder_fits p b)) (sound p s) z.1 in
          both (both y.0 (all_from p.resources (holder_test p b)
          (λ q l. let free = and_parts (absent_filled p b q) (free_filled p b q) (all_at p.resources q (λ q. absent_filled p b q && free_filled p b q) f.0 l) in
          test q l free.1 (all_at p.resources q (holder_fits p b) g.0 l) g.1)))
          g.1
