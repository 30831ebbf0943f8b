-- The meters are what the calls give.
use Rattle.folds.proofs.Ground.{ℕ, ◌+◌, ◌<◌, max, min, Bool, true, false, not, cond, true≢false, ◌≡◌, refl, sym, ap, ◌∙◌, List, [], ◌∷◌, ◌++◌}
use Rattle.folds.proofs.Ground.{arith, eqb, eq-eqb, eqb-true, lt-ltb, ltb-true, not-true}
use Rattle.folds.specs.Below.{find_below}
use Rattle.folds.proofs.Tests.{and_parts}
use Rattle.folds.proofs.Searches.{find_passes, find_first}
use Rattle.plan_reading.specs.Plan.{Plan, Valid}
use Rattle.analysis_equations.specs.Questions.{task_number}
use Rattle.queue_rules.specs.Rules.{Terms, turn, Line, line, holds, join, entered}
use Rattle.machine_rules.specs.declared.Call.{Call}
use Rattle.machine_rules.specs.declared.Call.TheVariants.{Request}
use Rattle.machine_rules.specs.Machine.{View, fresh, terms, step, run, call_code}
use Rattle.machine_rules.specs.Waiting.{ticks, is_tick, grants, StillWaits}
use Rattle.meters.specs.declared.Meter.{Meter}
use Rattle.meters.specs.Meters.{top_count, one_more, counted, no_meter}
use Rattle.meter_rules.specs.Waited.{Watched, fresh_watched, ticking, unbounded, step_watched, after_watched}
use Rattle.meter_rules.specs.Metered.{grantee, granting, cutting, wait_ended, mark_of, meter_after, grants_in, cuts_in, longest_in, given, MeterTold}
use Rattle.meter_rules.proofs.Counts.{more_top, longer_top}
use Rattle.meter_rules.proofs.Waited.{Both, both_step, ticked_once, watched_view, idle_none, asks, asked, counted_since}

-- so many grants and cuts and so long a wait, up to the top
abbrev up_to : ℕ → ℕ → ℕ → Meter
up_to g k n = record { grants = min top_count g; cuts = min top_count k; longest = min top_count n }

same_counts : {g h k l m n : ℕ} → g ≡ h → k ≡ l → m ≡ n → up_to g k m ≡ up_to h l n
same_counts a b c = rw (a, b, c)

module _ (p : Plan) (q : ℕ) where
  -- the wait that a grant ends, up to the top, is that without an end
  wait_top : (w x : Watched) (c : Call) → Both p w x → wait_ended p q one_more w c ≡ min top_count (wait_ended p q unbounded x c)
  wait_top w x c b = rw (b.view, b.waited (grantee p q x.view c), more_top) (go (granting p q x.view c) _)
    where
      go : (t : Bool) (y : ℕ) → cond t (min top_count y) 0 ≡ min top_count (cond t y 0)
      go true y = refl
      go false y = refl

  -- a call counts the same in both
  one_call : (w x : Watched) (c : Call) (g k n : ℕ) → Both p w x
      → counted (up_to g k n) (mark_of p q one_more w c)
      ≡ up_to (unbounded (granting p q x.view c) g) (unbounded (cutting p q x.view c) k) (max n (wait_ended p q unbounded x c))
  unfolding counted
  one_call w x c g k n b =
      rw (wait_top w x c b, b.view, more_top (granting p q x.view c) g, more_top (cutting p q x.view c) k)
      (rw (longer_top (granting p q x.view c) _ n))

  meter_after_lem : (w x : Watched) (cs : List Call) (g k n : ℕ) → Both p w x
      → meter_after p q w (up_to g k n) cs ≡ up_to (g + grants_in p q x cs) (k + cuts_in p q x cs) (max n (longest_in p q x cs))
  meter_after_lem w x [] g k n b = same_counts {g = g} {k = k} {m = n} (omega arith) (omega arith) (omega arith)
  meter_after_lem w x (c ∷ cs) g k n b =
      let y : Watched = step_watched p unbounded x c in
      let later = meter_after_lem (step_watched p one_more w c) y cs (unbounded (granting p q x.view c) g) (unbounded (cutting p q x.view c) k)
      (max n (wait_ended p q unbounded x c)) (both_step p w x c b) in
      ap (λ (m : Meter). meter_after p q (step_watched p one_more w c) m cs) (one_call w x c g k n b) ∙ later
      ∙ same_counts (omega arith) (omega arith) (omega arith)

  meter_is : (calls : List Call) → meter_after p q fresh_watched no_meter calls ≡ given p q calls
  meter_is calls =
      meter_after_lem fresh_watched fresh_watched calls 0 0 0 (record { view = refl; waited = λ i. refl })
      ∙ same_counts (omega arith) (omega arith) (omega arith)

-- ── the wait that a grant ends ──

ticks_last : (cs : List Call) (c : Call) → ticks (cs ++ (c ∷ [])) ≡ ticks cs + is_tick c
ticks_last [] c = omega arith
ticks_last (d ∷ cs) c = omega (arith, ticks_last cs c)

-- one task holds at most
one_holder : (i j : ℕ) (l : Line) → holds i l ≡ true → holds j l ≡ true → i ≡ j
one_holder i j (line h b []) x y = absurd (true≢false (sym x))
one_holder i j (line h b (turn k u us ∷ rest)) x y = sym (eqb-true u i x) ∙ eqb-true u j y

-- who holds behind a request and did not before is who asked
asker : (t : Terms) (i j : ℕ) (l : Line) → holds j l ≡ false → holds j (entered t i l) ≡ true → i ≡ j
asker t i j (line h b []) x y = eqb-true i j y
asker t i j (line h b (turn k u us ∷ rest)) x y = absurd (true≢false (sym (go (eqb k (t.processor i)) y) ∙ x))
  where
    go : (d : Bool) → holds j (line h b (cond d (turn k u (us ++ (i ∷ [])) ∷ rest) (turn k u us ∷ join t i rest))) ≡ true → eqb u j ≡ true
    go true e = e
    go false e = e

module _ (p : Plan) (v : Valid p) (q : ℕ) where
  -- the one task that a call grants q to is found
  grantee_is : (i : ℕ) (s : View) (c : Call) → i < p.tasks → grants p i q s c ≡ true → grantee p q s c ≡ i
  unfolding grantee
  grantee_is i s c l g =
      let f : ℕ → Bool = λ j. grants p j q s c in
      let low : find_below p.tasks f < p.tasks = omega (arith, find_first p.tasks i f l g) in
      let found = find_passes p.tasks f low in
      let (_, theirs) = and_parts (not (holds (find_below p.tasks f) (s.lines q))) _ found in
      let (_, mine) = and_parts (not (holds i (s.lines q))) _ g in
      one_holder _ _ ((step p s c).lines q) theirs mine

  -- what a grant to task i ends
  ended_wait : (w : Watched) (c : Call) (i : ℕ) → i < p.tasks → grants p i q w.view c ≡ true
      → wait_ended p q unbounded w c ≡ unbounded (ticking c) (w.waited i)
  ended_wait w c i l g = let e = grantee_is i w.view c l g in rw (e, lt-ltb i p.tasks l)

  waited_since : (calls : List Call) (i : ℕ) (w : StillWaits p fresh calls i q) (c : Call) → grants p i q (run p calls) c ≡ true
      → wait_ended p q unbounded (after_watched p unbounded fresh_watched calls) c ≡ ticks (w.request.since ++ (c ∷ []))
  waited_since calls i w c g =
      let x : Watched = after_watched p unbounded fresh_watched calls in
      let low : i < p.tasks = rw w.task at (asked p v calls w.tag q w.request).task in
      ended_wait x c i low (rw (watched_view p unbounded fresh_watched calls) g)
      ∙ ticked_once c (x.waited i) ∙ rw (counted_since p v calls i q w) (sym (ticks_last w.request.since c))

  -- a request that is not refused grants q to nobody but its own task
  asked_only : (s : View) (tag j : ℕ) → call_code p s (Request tag q) ≡ 0 → grants p j q s (Request tag q) ≡ true → task_number p tag ≡ j
  unfolding step
  asked_only s tag j e g =
      let (before, behind) = and_parts (not (holds j (s.lines q))) _ g in
      asker (terms p q) (task_number p tag) j (s.lines q) (not-true _ before) (rw (e, eq-eqb q q refl) at behind)

  at_once : (calls : List Call) (tag : ℕ) → call_code p (run p calls) (Request tag q) ≡ 0
      → wait_ended p q unbounded (after_watched p unbounded fresh_watched calls) (Request tag q) ≡ 0
  unfolding grantee
  at_once calls tag e = go (granting p q x.view (Request tag q)) refl
    where
      x : Watched
      x = after_watched p unbounded fresh_watched calls

      same : x.view ≡ run p calls
      same = watched_view p unbounded fresh_watched calls

      go : (t : Bool) → granting p q x.view (Request tag q) ≡ t → cond t (unbounded false (x.waited (grantee p q x.view (Request tag q)))) 0 ≡ 0
      go true l =
          let passes = find_passes p.tasks (λ j. grants p j q x.view (Request tag q)) (ltb-true _ _ l) in
          let own = asked_only x.view tag (grantee p q x.view (Request tag q)) (rw same e) passes in
          rw (← own) (omega (arith, idle_none p unbounded calls (task_number p tag) (asks p v (run p calls) tag q e).idle))
      go false l = refl

  pub meter_told : (calls : List Call) → MeterTold p q calls
  meter_told calls = record { told = meter_is p q calls; waited = waited_since calls; at_once = at_once calls }
