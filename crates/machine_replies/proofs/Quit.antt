-- What a give-up does that is not refused.
use Rattle.machine_replies.proofs.Ground.{ℕ, ◌<◌, ◌≡◌, true, arith, List, length, Plan, Valid, plan_of, valid_plan, task_number, GiveUp, State, shows}
use Rattle.machine_replies.proofs.Ground.{Whole, sound_of, whole_of, Tabled, Acted, most_resources}
use Rattle.analysis_equations.specs.Sharing.{processor_of}
use Rattle.queue_rules.specs.Rules.{waiting}
use Rattle.machine_rules.specs.declared.Answer.TheVariants.{Left}
use Rattle.machine_rules.proofs.LineCodes.{named_task, named_resource, line_named, line_passes}
use Rattle.machine_steps.specs.Inner.{Withdrawing, withdrawn_by}
use Rattle.machine_steps.proofs.Withdrawing.{withdraw_ready, withdrawn_whole, withdrawn_shows}
use Rattle.machine_replies.specs.declared.Reply.{Reply}
use Rattle.machine_replies.specs.Inner.{Quits}
use Rattle.machine_replies.proofs.Loaded.{tabled}

module _ (f : List ℕ) (s : State) (keys seats : List ℕ) (tag q : ℕ) (h : Quits f s keys seats tag q) where
  abbrev p : Plan
  p = plan_of f

  abbrev i : ℕ
  i = task_number p tag

  v : Valid p
  v = valid_plan f h.on.known.plan

  w : Whole p s
  w = whole_of p v s h.on.sound

  pub quit_task : i < p.tasks
  quit_task = named_task p tag q (line_named p waiting 22 (shows p s) tag q h.code)

  low : q < most_resources
  low = omega (arith, v.resources, named_resource p tag q (line_named p waiting 22 (shows p s) tag q h.code))

  waits : waiting i ((shows p s).lines q) ≡ true
  waits = line_passes p waiting 22 (shows p s) tag q h.code

  module _ (tasks_long : length s.tasks ≡ 64) (lines_long : length s.lines ≡ 16) where
    t : Tabled p s h.figures keys seats
    t = tabled h.on h.keyed tasks_long lines_long

    pub quit_ready : Withdrawing keys seats q i (processor_of p i) s
    quit_ready = withdraw_ready p v s w t q i low quit_task waits

    pub quit_done : (r : Reply) → r.answer ≡ Left → r.state ≡ withdrawn_by keys seats q i (processor_of p i) s → Acted p s (GiveUp tag q) r
    quit_done r a e =
        record {
          answer = a;
          sound = rw e (sound_of p v _ (withdrawn_whole p v s w t q i low quit_task waits));
          shows = rw e (withdrawn_shows p v s w t q i low quit_task waits);
        }
