-- The longest wait: how long a task can be kept from a resource, asked of a plan before any call is made; and what is promised of it.
use Rattle.std.specs.Prelude.{ℕ, ◌≤◌, true, List, ◌≡◌, length}
use Rattle.folds.specs.Below.{list_below}
use Rattle.plan_reading.specs.Plan.{Plan}
use Rattle.analysis_equations.specs.HoldTimes.{fellow}
use Rattle.analysis_equations.specs.Questions.{task_number, use_code}
use Rattle.queue_rules.specs.Rules.{waiting, limit}
use Rattle.machine_rules.specs.declared.Call.{Call}
use Rattle.machine_rules.specs.declared.Call.TheVariants.{Request}
use Rattle.machine_rules.specs.declared.Answer.TheVariants.{Waits}
use Rattle.machine_rules.specs.Machine.{View, terms, answer, run}
use Rattle.machine_rules.specs.Waiting.{TaskKept, after_call, Asked}

module _ (p : Plan) where
  -- the fellows of task i on q: the other tasks of its processor that declare it
  unfoldable pub fellows : ℕ → ℕ → List ℕ
  fellows i q = list_below p.tasks (fellow p i q)

  -- the longest wait of task i for q: the limit's formula with every one of them ahead of it
  unfoldable pub longest_wait : ℕ → ℕ → ℕ
  longest_wait i q = limit (terms p q) i (fellows i q)

  -- What is promised of it for a whole list of calls, made on s
  pub record NeverLonger (s : View) (calls : List Call) : Type 0 where
    -- a request that was answered "waits", anywhere in the list, was told no more, neither of tasks ahead nor of ticks
    pub told_ahead : (tag q : ℕ) (w : Asked p s calls tag q) → w.ahead ≤ length (fellows (task_number p tag) q)
    pub told_limit : (tag q : ℕ) (w : Asked p s calls tag q) → w.limit ≤ longest_wait (task_number p tag) q
    -- so its task is kept no longer than the longest wait
    pub asked : (tag q : ℕ) (w : Asked p s calls tag q)
        → TaskKept p (task_number p tag) q (after_call p s w.before (Request tag q)) w.since (longest_wait (task_number p tag) q)
    -- and so for a task that waits at the start of the list
    pub start : (i q : ℕ) → waiting i (s.lines q) ≡ true → TaskKept p i q s calls (longest_wait i q)

  -- a list of calls after which a request is told the longest wait itself: no smaller figure bounds what is told. That somebody waits
  -- so long is not said: with sections 1, 1 and 4 on one core and 1 on another the third task is told 5 and never waits more than 4
  pub record Reached (tag q : ℕ) : Type 0 where
    pub calls : List Call
    pub told_exactly : answer p (run p calls) (Request tag q) ≡ Waits (length (fellows (task_number p tag) q)) (longest_wait (task_number p tag) q)

  -- for each task and resource of which the question is not refused
  abbrev pub EachReached : Type 0
  EachReached = (tag q : ℕ) → use_code p tag q ≡ 0 → Reached tag q
