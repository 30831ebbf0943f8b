-- A fresh state is sound, shows nobody in line, and is what such lines tell.
use Rattle.machine_state.proofs.Ground.{ℕ, ◌<◌, true, false, ◌≡◌, refl, ap, leb, length-replicate, get_or-replicate}
use Rattle.machine_state.proofs.Ground.{List·getD-eq-default, arith, eq-eqb, le-ltb, leb-true, all_from, any_none, is_not_true}
use Rattle.machine_state.proofs.Ground.{find_none, most_processors, most_tasks, most_resources, absent, Plan, Valid, list_from, on_le}
use Rattle.machine_state.proofs.Ground.{Standing, standing, none_in_line, no_line, line_at, rank, shows, task_fits, serves, slot_fits}
use Rattle.machine_state.proofs.Ground.{core_fits, clock_fits, line_fits, sound, resource_of, standing_of, state_of}
use Rattle.folds.proofs.Ground.{fun_ext}
use Rattle.machine_rules.specs.Machine.{Lines, fresh}
use Rattle.queue_ranks.proofs.Lists.{list_same}
use Rattle.machine_state.specs.Shows.{free_line, fresh_state}
use Rattle.machine_state.proofs.Wholes.{both, state_same, rank_of_lem}

row_fresh : (u : ℕ) → u < most_tasks → standing fresh_state.tasks u ≡ none_in_line
row_fresh u l = get_or-replicate most_tasks u none_in_line _ l

line_fresh : (q : ℕ) → q < most_resources → line_at fresh_state q ≡ free_line
line_fresh q l = get_or-replicate most_resources q free_line no_line l

pub fresh_sound : (p : Plan) → Valid p → sound p fresh_state ≡ true
unfolding sound task_fits line_fits slot_fits core_fits clock_fits
fresh_sound p v =
    both (all_from most_tasks (task_fits p fresh_state.tasks) (λ u l. rw (row_fresh u l)))
    (all_from most_resources (λ q. line_fits p fresh_state.tasks q (line_at fresh_state q)) (λ q l. rw (line_fresh q l) (free q l)))
  where
    -- nobody has a rank
    none : (q k : ℕ) → q < most_resources → serves p fresh_state.tasks q k ≡ false
    none q k b =
        any_none p.tasks (λ u. leb 1 (rank p fresh_state.tasks q k u))
        (λ u l. is_not_true _ (λ e.
        let r = (rank_of_lem p fresh_state.tasks q k u (leb-true 1 (rank p fresh_state.tasks q k u) e)).resource in
        let n = ap (λ (x : Standing). x.resource) (row_fresh u (omega (arith, v.tasks))) in
        omega arith))

    free : (q : ℕ) → q < most_resources → line_fits p fresh_state.tasks q free_line ≡ true
    free q b =
        both (all_from most_processors (slot_fits p fresh_state.tasks q free_line)
        (λ i l. rw (le-ltb i 0 (omega arith)) (eq-eqb _ _ (get_or-replicate most_processors i absent 0 l))))
        (both (all_from p.processors (core_fits p fresh_state.tasks q free_line) (λ k l. rw (none q k b))) refl)

pub fresh_shows : (p : Plan) → shows p fresh_state ≡ fresh
unfolding shows list_from
fresh_shows p =
    ap (λ (l : Lines). record { lines = l })
    (fun_ext (λ q. on_le ((shows p fresh_state).lines q ≡ fresh.lines q) most_resources q
    (λ l. rw (List·getD-eq-default fresh_state.lines no_line {n = q} (rw length-replicate l)))
    (λ l. rw (line_fresh q l))))

-- fresh lines tell it, whatever the plan
none_fresh : (p : Plan) (u : ℕ) → standing_of p fresh u ≡ none_in_line
unfolding standing_of resource_of
none_fresh p u =
    rw (find_none p.resources (λ q. false) (all_from p.resources (λ q. true) (λ q l. refl)), le-ltb p.resources p.resources (omega arith))

pub fresh_told : (p : Plan) → state_of p fresh ≡ fresh_state
unfolding list_from
fresh_told p =
    state_same (state_of p fresh) fresh_state refl
    (list_same most_tasks 0 (standing_of p fresh) (λ u. none_in_line) (λ u a l. none_fresh p u))
