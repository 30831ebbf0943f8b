-- The ticks waited are those since the last accepted request.
use Rattle.folds.proofs.Ground.{ℕ, ◌+◌, ◌<◌, min, Bool, true, false, cond, not, ◌≡◌, refl, sym, ap, ◌∙◌, List, [], ◌∷◌, ◌++◌, arith}
use Rattle.folds.proofs.Tests.{any_at, any_none, any_out, and_parts, is_not_true, first_zero, then_zero}
use Rattle.plan_reading.specs.Plan.{Plan, Valid}
use Rattle.analysis_equations.specs.Questions.{task_number, use_code}
use Rattle.analysis_equations.proofs.Laws.{use_clear}
use Rattle.queue_rules.specs.Rules.{in_line, holds, waiting}
use Rattle.queue_rules.proofs.Cases.{or_no}
use Rattle.machine_rules.specs.declared.Call.{Call}
use Rattle.machine_rules.specs.declared.Call.TheVariants.{Request, Release, GiveUp, Tick}
use Rattle.machine_rules.specs.Machine.{View, fresh, busy, request_code, step, after, run}
use Rattle.machine_rules.specs.Waiting.{is_tick, ticks, occurs, ended, task_for, after_call, Asked, StillWaits}
use Rattle.machine_rules.proofs.OnceLines.{Orderly, orderly_fresh, orderly_step, orderly_after}
use Rattle.machine_rules.proofs.Bounds.{served_from}
use Rattle.machine_rules.proofs.Since.{after_last}
use Rattle.machine_rules.proofs.Promise.{told, all_served}
use Rattle.meters.specs.Meters.{top_count, one_more}
use Rattle.meter_rules.specs.Waited.{Watched, fresh_watched, ticking, unbounded, Counting, waits_in, step_watched, after_watched, waited_in, WaitedTold}
use Rattle.meter_rules.proofs.Counts.{more_top}

-- a tick counts 1, another call nothing
pub ticked_once : (c : Call) (n : ℕ) → unbounded (ticking c) n ≡ n + is_tick c
ticked_once (Request tag q) n = refl
ticked_once (Release tag q) n = refl
ticked_once (GiveUp tag q) n = refl
ticked_once Tick n = refl

module _ (p : Plan) (more : Counting) where
  -- what is shown behind a list is what the rules say
  pub watched_view : (w : Watched) (cs : List Call) → (after_watched p more w cs).view ≡ after p w.view cs
  watched_view w [] = refl
  watched_view w (c ∷ cs) = watched_view (step_watched p more w c) cs

  -- two lists, one after the other
  watched_append : (w : Watched) (xs ys : List Call) → after_watched p more w (xs ++ ys) ≡ after_watched p more (after_watched p more w xs) ys
  watched_append w [] ys = refl
  watched_append w (c ∷ xs) ys = watched_append (step_watched p more w c) xs ys

  -- who does not wait has 0
  abbrev Idle : Watched → Type 0
  Idle w = (i : ℕ) → waits_in p w.view i ≡ false → w.waited i ≡ 0

  idle_after : (w : Watched) (cs : List Call) → Idle w → Idle (after_watched p more w cs)
  idle_after w [] h = h
  idle_after w (c ∷ cs) h = idle_after (step_watched p more w c) cs (λ i e. rw e)

  pub idle_none : (cs : List Call) (i : ℕ) → waits_in p (run p cs) i ≡ false → waited_in p more cs i ≡ 0
  idle_none cs i e = idle_after fresh_watched cs (λ j _. refl) i (rw (watched_view fresh_watched cs) e)

-- counted up to the top, and without an end
module _ (p : Plan) where
  pub record Both (w x : Watched) : Type 0 where
    pub view : w.view ≡ x.view
    pub waited : (i : ℕ) → w.waited i ≡ min top_count (x.waited i)

  pub both_step : (w x : Watched) (c : Call) → Both w x → Both (step_watched p one_more w c) (step_watched p unbounded x c)
  both_step w x c b =
      record { view = ap (λ (s : View). step p s c) b.view; waited = λ i. rw (b.view, b.waited i) (one (waits_in p (step p x.view c) i) i) }
    where
      one : (t : Bool) (i : ℕ) → cond t (one_more (ticking c) (min top_count (x.waited i))) 0 ≡ min top_count (cond t (unbounded (ticking c) (x.waited i)) 0)
      one true i = more_top (ticking c) (x.waited i)
      one false i = refl

  both_after : (w x : Watched) (cs : List Call) → Both w x → Both (after_watched p one_more w cs) (after_watched p unbounded x cs)
  both_after w x [] b = b
  both_after w x (c ∷ cs) b = both_after (step_watched p one_more w c) (step_watched p unbounded x c) cs (both_step w x c b)

  pub both_fresh : (cs : List Call) (i : ℕ) → waited_in p one_more cs i ≡ min top_count (waited_in p unbounded cs i)
  both_fresh cs = (both_after fresh_watched fresh_watched cs (record { view = refl; waited = λ i. refl })).waited

-- ── since a request ──
module _ (p : Plan) (v : Valid p) where
  nowhere : (i : ℕ) (s : View) → ((q : ℕ) → waiting i (s.lines q) ≡ false) → waits_in p s i ≡ false
  unfolding waits_in
  nowhere i s h = any_none p.resources (λ q. waiting i (s.lines q)) (λ q l. h q)

  somewhere : (i q : ℕ) (s : View) → q < p.resources → waiting i (s.lines q) ≡ true → waits_in p s i ≡ true
  unfolding waits_in
  somewhere i q s l = any_at p.resources q (λ r. waiting i (s.lines r)) l

  -- a task that waits, and neither is granted nor gives up, goes on waiting, and each tick counts
  waits_on : (i q : ℕ) (s : View) (c : Call) → Orderly p s → waiting i (s.lines q) ≡ true → ended p (task_for p i q) s c ≡ false
      → waiting i ((step p s c).lines q) ≡ true
  waits_on i q s c o w e = ((served_from p v s o (c ∷ [])).task i q w).only (rw e)

  ticks_count : (i q : ℕ) → q < p.resources → (w : Watched) (cs : List Call) → Orderly p w.view → waiting i (w.view.lines q) ≡ true
      → occurs p (ended p (task_for p i q)) w.view cs ≡ false → (after_watched p unbounded w cs).waited i ≡ w.waited i + ticks cs
  ticks_count i q l w [] o a e = omega arith
  ticks_count i q l w (c ∷ cs) o a e =
      let (first, rest) = or_no (ended p (task_for p i q) w.view c) (occurs p (ended p (task_for p i q)) (step p w.view c) cs) e in
      let on = waits_on i q w.view c o a first in
      let later = ticks_count i q l (step_watched p unbounded w c) cs (orderly_step p v w.view c o) on rest in
      later ∙ rw (somewhere i q (step p w.view c) l on, ticked_once c (w.waited i)) (omega arith)

  -- who asks and is not refused did not wait before
  pub record Asks (s : View) (tag q : ℕ) : Type 0 where
    pub task : task_number p tag < p.tasks
    pub resource : q < p.resources
    pub idle : waits_in p s (task_number p tag) ≡ false

  pub asks : (s : View) (tag q : ℕ) → request_code p s tag q ≡ 0 → Asks s tag q
  unfolding request_code busy waits_in
  asks s tag q e =
      record {
        task = (use_clear p tag q (first_zero (use_code p tag q) _ e)).task;
        resource = (use_clear p tag q (first_zero (use_code p tag q) _ e)).resource;
        idle = is_not_true _ (λ h. any_out p.resources (λ r. waiting (task_number p tag) (s.lines r)) ⊥ h busy_then);
      }
    where
      i : ℕ
      i = task_number p tag

      busy_then : (r : ℕ) → r < p.resources → waiting i (s.lines r) ≡ true → ⊥
      busy_then r l t =
          let (there, _) = and_parts (in_line i (s.lines r)) (not (holds i (s.lines r))) t in
          let z : ◌≡◌ {A = ℕ} 15 0 = rw (any_at p.resources r (λ q. in_line i (s.lines q)) l there) at (then_zero (use_code p tag q) _ e) in
          omega arith

  -- behind a request that was told to wait, all ticks since are counted
  module _ (calls : List Call) (tag q : ℕ) (r : Asked p fresh calls tag q) where
    abbrev i : ℕ
    i = task_number p tag

    -- before the request, and behind it
    abbrev before : Watched
    before = after_watched p unbounded fresh_watched r.before

    abbrev behind : Watched
    behind = step_watched p unbounded before (Request tag q)

    abbrev seen : View
    seen = after_call p fresh r.before (Request tag q)

    behind_view : behind.view ≡ seen
    behind_view =
        ap (λ (s : View). step p s (Request tag q)) (watched_view p unbounded fresh_watched r.before) ∙ sym (after_last p fresh r.before (Request tag q))

    pub asked : Asks (after p fresh r.before) tag q
    asked = asks (after p fresh r.before) tag q (told p (after p fresh r.before) tag q r.ahead r.limit r.answered).code

    waits : waiting i (seen.lines q) ≡ true
    waits =
        ((all_served p v fresh (orderly_fresh p) (r.before ++ (Request tag q ∷ []))).asked tag q
        (record { before = r.before; since = []; list = refl; ahead = r.ahead; limit = r.limit; answered = r.answered })).only refl

    none_yet : behind.waited i ≡ 0
    none_yet = rw (idle_none p unbounded r.before i asked.idle) (go (waits_in p behind.view i))
      where
        go : (t : Bool) → ◌≡◌ {A = ℕ} (cond t 0 0) 0
        go true = refl
        go false = refl

    counted_from : occurs p (ended p (task_for p i q)) seen r.since ≡ false → waited_in p unbounded calls i ≡ ticks r.since
    counted_from still =
        let o : Orderly p seen = orderly_after p v fresh (r.before ++ (Request tag q ∷ [])) (orderly_fresh p) in
        let all = ticks_count i q asked.resource behind r.since (rw behind_view o) (rw behind_view waits) (rw behind_view still) in
        let whole = ap (λ (w : Watched). w.waited i) (watched_append p unbounded fresh_watched r.before (Request tag q ∷ r.since)) in
        rw r.list (omega (arith, whole, all, none_yet))

  pub counted_since : (calls : List Call) (i q : ℕ) (w : StillWaits p fresh calls i q) → waited_in p unbounded calls i ≡ ticks w.request.since
  counted_since calls i q w = let h = counted_from calls w.tag q w.request (rw w.task w.still) in rw w.task at h

  pub waited_told : (calls : List Call) → WaitedTold p calls
  waited_told calls =
      record {
        since = λ i q w. both_fresh p calls i ∙ ap (min top_count) (counted_since calls i q w);
        below = λ i q w. let few = ((all_served p v fresh (orderly_fresh p) calls).asked w.tag q w.request).bound.lasts (rw w.task w.still) in
            omega (arith, both_fresh p calls i, counted_since calls i q w);
        none = λ i h. idle_none p one_more calls i (nowhere i (run p calls) h);
      }
