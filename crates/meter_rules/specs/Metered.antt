-- Document 02 §5: "Where each call gets the same plan and the state and meters that the last one left, meters equal what the calls since the
-- start give, up to that top." Here by the rules alone.
use Rattle.std.specs.Prelude.{ℕ, ◌+◌, max, min, Bool, true, cond, ◌&&◌, List, [], ◌∷◌, ◌++◌, ◌≡◌, ltb}
use Rattle.folds.specs.Below.{find_below}
use Rattle.plan_reading.specs.Plan.{Plan}
use Rattle.queue_rules.specs.Rules as Rules
use Rattle.machine_rules.specs.declared.Call.{Call}
use Rattle.machine_rules.specs.declared.Call.TheVariants.{Request}
use Rattle.machine_rules.specs.Machine.{View, fresh, call_code, run}
use Rattle.machine_rules.specs.Waiting.{ticks, grants, StillWaits}
use Rattle.meters.specs.declared.Meter.{Meter}
use Rattle.meters.specs.declared.Mark.{Mark}
use Rattle.meters.specs.Meters.{top_count, one_more, counted, no_meter}
use Rattle.meter_rules.specs.Waited.{Watched, fresh_watched, ticking, Counting, unbounded, step_watched, after_watched}

module _ (p : Plan) (q : ℕ) where
  -- ── what a call does to resource q ──

  -- the task that it grants q to, N where it grants it to nobody
  unfoldable pub grantee : View → Call → ℕ
  grantee s c = find_below p.tasks (λ i. grants p i q s c)

  -- it grants q
  abbrev pub granting : View → Call → Bool
  granting s c = ltb (grantee s c) p.tasks

  -- it cuts the hold of q: "only a tick" does
  abbrev pub cutting : View → Call → Bool
  cutting s c = ticking c && Rules.cut (s.lines q)

  module _ (more : Counting) where
    -- the wait that its grant ends, "the granting tick included"; 0 where it grants nothing
    abbrev pub wait_ended : Watched → Call → ℕ
    wait_ended w c = cond (granting w.view c) (more (ticking c) (w.waited (grantee w.view c))) 0

    -- the mark that a meter counts
    abbrev pub mark_of : Watched → Call → Mark
    mark_of w c = record { cut = cutting w.view c; granted = granting w.view c; waited = wait_ended w c }

  -- the meter behind a list of calls, from m on
  abbrev pub meter_after : Watched → Meter → List Call → Meter
  meter_after w m [] = m
  meter_after w m (c ∷ cs) = meter_after (step_watched p one_more w c) (counted m (mark_of one_more w c)) cs

  -- ── what the calls give, with numbers that have no end ──

  -- how many of them grant q
  abbrev pub grants_in : Watched → List Call → ℕ
  grants_in w [] = 0
  grants_in w (c ∷ cs) = cond (granting w.view c) 1 0 + grants_in (step_watched p unbounded w c) cs

  -- how many cut it
  abbrev pub cuts_in : Watched → List Call → ℕ
  cuts_in w [] = 0
  cuts_in w (c ∷ cs) = cond (cutting w.view c) 1 0 + cuts_in (step_watched p unbounded w c) cs

  -- the longest wait that a grant of theirs ended
  abbrev pub longest_in : Watched → List Call → ℕ
  longest_in w [] = 0
  longest_in w (c ∷ cs) = max (wait_ended unbounded w c) (longest_in (step_watched p unbounded w c) cs)

  -- those from a fresh machine on, each or the top
  abbrev pub given : List Call → Meter
  given cs =
      record {
        grants = min top_count (grants_in fresh_watched cs);
        cuts = min top_count (cuts_in fresh_watched cs);
        longest = min top_count (longest_in fresh_watched cs);
      }

  -- What is promised of the meter of q, for a list of calls from a fresh machine on
  pub record MeterTold (calls : List Call) : Type 0 where
    -- it is what the calls give
    pub told : meter_after fresh_watched no_meter calls ≡ given calls
    -- where a call behind them grants q to a task that waited, the wait so ended is the ticks since its request, those of the call included
    pub waited : (i : ℕ) (w : StillWaits p fresh calls i q) (c : Call) → grants p i q (run p calls) c ≡ true
        → wait_ended unbounded (after_watched p unbounded fresh_watched calls) c ≡ ticks (w.request.since ++ (c ∷ []))
    -- and where it is a request, 0: a grant at once
    pub at_once : (tag : ℕ) → call_code p (run p calls) (Request tag q) ≡ 0
        → wait_ended unbounded (after_watched p unbounded fresh_watched calls) (Request tag q) ≡ 0
