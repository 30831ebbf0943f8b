-- Document 02 §5: "A task's record now carries the ticks waited so far, the granting tick included (0 when not waiting ..)". The ticks stand
-- beside the lines, and no rule of a call looks at them.
use Rattle.std.specs.Prelude.{ℕ, ◌+◌, ◌<◌, min, Bool, false, cond, List, [], ◌∷◌, ◌≡◌, eqb}
use Rattle.folds.specs.Below.{any_below}
use Rattle.plan_reading.specs.Plan.{Plan}
use Rattle.queue_rules.specs.Rules.{waiting}
use Rattle.machine_rules.specs.declared.Call.{Call}
use Rattle.machine_rules.specs.Machine.{View, fresh, step, run}
use Rattle.machine_rules.specs.Waiting.{is_tick, ticks, StillWaits}
use Rattle.meters.specs.Meters.{top_count, one_more}

-- what a state shows, with the ticks that each task has waited
pub record Watched : Type 0 where
  pub view : View
  pub waited : ℕ → ℕ

-- nobody has waited in a fresh one
abbrev pub fresh_watched : Watched
fresh_watched = record { view = fresh; waited = λ i. 0 }

-- the call is a tick
abbrev pub ticking : Call → Bool
ticking c = eqb (is_tick c) 1

-- one more where it is counted, without an end
abbrev pub unbounded : Bool → ℕ → ℕ
unbounded on n = n + cond on 1 0

-- a way to count one more: up to the top, `one_more`, as a state has it; or without an end
abbrev pub Counting : Type 0
Counting = Bool → ℕ → ℕ

module _ (p : Plan) where
  -- task i waits for some resource
  unfoldable pub waits_in : View → ℕ → Bool
  waits_in s i = any_below p.resources (λ q. waiting i (s.lines q))

  module _ (more : Counting) where
    -- a call: whoever waits behind it has waited one tick more, where it is a tick; whoever does not, has 0
    abbrev pub step_watched : Watched → Call → Watched
    step_watched w c =
        record {
          view = step p w.view c;
          waited = λ i. cond (waits_in (step p w.view c) i) (more (ticking c) (w.waited i)) 0;
        }

    -- a list of calls
    abbrev pub after_watched : Watched → List Call → Watched
    after_watched w [] = w
    after_watched w (c ∷ cs) = after_watched (step_watched w c) cs

    -- the ticks waited behind a list of calls from a fresh machine on
    abbrev pub waited_in : List Call → ℕ → ℕ
    waited_in cs = (after_watched fresh_watched cs).waited

  -- What is promised of the ticks waited, for a list of calls from a fresh machine on
  pub record WaitedTold (calls : List Call) : Type 0 where
    -- who waits has waited the tick calls since its last accepted request, up to the top
    pub since : (i q : ℕ) (w : StillWaits p fresh calls i q) → waited_in one_more calls i ≡ min top_count (ticks w.request.since)
    -- which are fewer than the limit that it was told
    pub below : (i q : ℕ) (w : StillWaits p fresh calls i q) → waited_in one_more calls i < w.request.limit
    -- who waits for no resource has 0
    pub none : (i : ℕ) → ((q : ℕ) → waiting i ((run p calls).lines q) ≡ false) → waited_in one_more calls i ≡ 0
