-- What a request is refused for, what it tells where it is not, and what it then does.
use Rattle.machine_replies.proofs.Ground.{ℕ, ◌+◌, ◌*◌, ◌<◌, ◌≤◌, false, ◌≡◌, sym, ◌∙◌, ◌≢◌, List, eqb, length, arith}
use Rattle.machine_replies.proofs.Ground.{not-false, first_zero, then_zero, most_processors, most_resources, Plan}
use Rattle.machine_replies.proofs.Ground.{Valid, task_number, use_code, use_clear, Request, request_code, request_answer, State}
use Rattle.machine_replies.proofs.Ground.{line_at, shows, plan_of, valid_plan, Whole, sound_of, whole_of, Acted}
use Rattle.machine_replies.specs.declared.Reply.{Reply}
use Rattle.machine_replies.specs.Inner.{OnKnown, Asks}
use Rattle.folds.proofs.Ground.{not, ◌⊎◌, inl, inr, eqb-true}
use Rattle.folds.proofs.Tests.{is_not_true}
use Rattle.sizes.specs.Sizes.{absent}
use Rattle.analysis_equations.specs.Sharing.{processor_of}
use Rattle.analysis_equations.specs.HoldTimes.{hold_at, wait_time}
use Rattle.analysis_equations.proofs.Laws.{hold_shared, hold_low}
use Rattle.machine_rules.specs.declared.Answer.TheVariants.{Granted, Waits}
use Rattle.machine_rules.specs.Machine.{busy}
use Rattle.machine_state.specs.Shows.{standing, none_in_line}
use Rattle.machine_state.proofs.Tables.{low_processor}
use Rattle.machine_state.proofs.Wholes.{hold_resource}
use Rattle.machine_steps.specs.Inner.{QueueOf, Joining, joined_by, taken, taken_holds}
use Rattle.machine_steps.proofs.Joins.{ahead_of, entering, join_room, joined_whole, joined_shows}
use Rattle.machine_steps.proofs.Asking.{taken_is, request_granted, request_waits, busy_is}

-- ── the number ──
-- where the use is not refused, its task is there, and 15 or none is by what its row says
pub user_low : (f figures : List ℕ) (s : State) (tag q : ℕ) → OnKnown f s figures → use_code (plan_of f) tag q ≡ 0 → task_number (plan_of f) tag < 64
user_low f figures s tag q o z = omega (arith, (valid_plan f o.known.plan).tasks, (use_clear (plan_of f) tag q z).task)

pub user_busy : (f figures : List ℕ) (s : State) (tag q : ℕ) → OnKnown f s figures → use_code (plan_of f) tag q ≡ 0
    → busy (plan_of f) (shows (plan_of f) s) (task_number (plan_of f) tag) ≡ not (eqb (standing s.tasks (task_number (plan_of f) tag)).resource absent)
user_busy f figures s tag q o z =
    let v = valid_plan f o.known.plan in busy_is (plan_of f) v s (whole_of (plan_of f) v s o.sound) (task_number (plan_of f) tag) (use_clear (plan_of f) tag q z).task

-- task i is in line for nothing and may join the line of q
pub record Free (p : Plan) (s : State) (i q : ℕ) : Type 0 where
  pub task : i < p.tasks
  pub resource : q < p.resources
  pub some : 1 ≤ hold_at p i q
  pub idle : standing s.tasks i ≡ none_in_line

module _ (p : Plan) (v : Valid p) (s : State) (whole : Whole p s) (tag q : ℕ) where
  -- what the number 0 tells
  pub request_free : request_code p (shows p s) tag q ≡ 0 → Free p s (task_number p tag) q
  unfolding request_code
  request_free z =
      let i = task_number p tag in
      let u = use_clear p tag q (first_zero (use_code p tag q) _ z) in
      let busy_not : busy p (shows p s) i ≡ false = is_not_true _ (λ b. let y = rw b at (then_zero (use_code p tag q) _ z) in omega arith) in
      let r : (standing s.tasks i).resource ≡ absent =
      eqb-true (standing s.tasks i).resource absent (not-false _ (sym (busy_is p v s whole i u.task) ∙ busy_not)) in
      record {
        task = u.task;
        resource = u.resource;
        some = rw (hold_shared p i q u.shared u.used) (hold_low p v i q u.used);
        idle = none i r (whole.rows i (omega (arith, v.tasks, u.task)));
      }
    where
      none : (i : ℕ) → (standing s.tasks i).resource ≡ absent
          → (standing s.tasks i ≡ none_in_line) ⊎ (1 ≤ hold_at p i (standing s.tasks i).resource)
          → standing s.tasks i ≡ none_in_line
      none i r (inl e) = e
      none i r (inr x) = let bad : ⊥ = omega (arith, v.resources, hold_resource p v i (standing s.tasks i).resource x) in absurd bad

-- ── what a request does that is not refused ──
module _ (f : List ℕ) (s : State) (figures seats : List ℕ) (tag q : ℕ) (h : Asks f s figures seats tag q) where
  abbrev p : Plan
  p = plan_of f

  -- the task and its processor
  abbrev i : ℕ
  i = task_number p tag

  abbrev k : ℕ
  k = processor_of p i

  v : Valid p
  v = valid_plan f h.on.known.plan

  w : Whole p s
  w = whole_of p v s h.on.sound

  may : Free p s i q
  may = request_free p v s w tag q h.code

  pub ask_task : i < p.tasks
  ask_task = may.task

  pub ask_resource : q < most_resources
  ask_resource = omega (arith, v.resources, may.resource)

  ask_core : k < most_processors
  ask_core = low_processor p v i may.task

  pub ask_queue : QueueOf figures seats q k
  ask_queue =
      record {
        tables = record { figures_long = h.on.known.figures.long; seats_long = h.on.seated.long; seats_low = h.on.seated.low };
        resource = ask_resource;
        core = ask_core;
      }

  module _ (tasks_long : length s.tasks ≡ 64) (lines_long : length s.lines ≡ 16) where
    -- how many are ahead
    ahead : taken seats q k ≡ ahead_of p s i q
    ahead = taken_is p v s w q k ask_resource ask_core h.on.seated

    pub ask_joins : Joining figures s q i k (taken seats q k)
    ask_joins =
        record {
          figures_long = h.on.known.figures.long;
          resource = ask_resource;
          task = omega (arith, v.tasks, may.task);
          core = ask_core;
          room = λ z. join_room p v s w tasks_long lines_long i q may.task may.some may.idle (sym ahead ∙ z);
        }

    -- it joins the line, whatever the answer
    joined_is : joined_by figures s q i k (taken seats q k) ≡ entering p s i q
    joined_is =
        let t = h.on.known.figures in
        rw (ahead, t.hold i q (omega (arith, v.tasks, may.task)) ask_resource, t.budget k q ask_core ask_resource)

    done : {r : Reply} → r.answer ≡ request_answer p i q ((shows p s).lines q) → r.state ≡ joined_by figures s q i k (taken seats q k) → Acted p s (Request tag q) r
    done a e =
        let n = e ∙ joined_is in
        record {
          answer = a;
          sound = rw n (sound_of p v (entering p s i q) (joined_whole p v s w tasks_long lines_long i q may.task may.some may.idle));
          shows = rw n (joined_shows p v s w tasks_long lines_long i q may.task may.some may.idle);
        }

    pub ask_granted : (r : Reply) → (line_at s q).queued ≡ 0 → r.answer ≡ Granted → r.state ≡ joined_by figures s q i k (taken seats q k) → Acted p s (Request tag q) r
    ask_granted r z a = done (a ∙ sym (request_granted p v s w i q z))

    pub ask_waits : (r : Reply) → (line_at s q).queued ≢ 0
        → r.answer ≡ Waits (taken seats q k) (taken_holds figures seats q k + (taken seats q k + 1) * wait_time p k q)
        → r.state ≡ joined_by figures s q i k (taken seats q k) → Acted p s (Request tag q) r
    ask_waits r d a = done (a ∙ sym (request_waits p v s w i q (omega (arith, d)) ask_resource may.task h.on.seated h.on.known.figures))
