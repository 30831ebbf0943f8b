-- What a release does that is not refused.
use Rattle.machine_replies.proofs.Ground.{ℕ, ◌<◌, ◌≤◌, ◌≡◌, sym, ◌∙◌, List, length, arith, Plan, Valid, plan_of, valid_plan, task_number, Release}
use Rattle.machine_replies.proofs.Ground.{State, line_at, slot, shows, Whole, sound_of, whole_of, Tabled, sized, Acted, granted_answer}
use Rattle.folds.proofs.Ground.{true≢false}
use Rattle.queue_rules.specs.Rules.{holds}
use Rattle.machine_rules.proofs.LineCodes.{named_resource, line_named, line_passes}
use Rattle.folds.proofs.Searches.{on_eq}
use Rattle.machine_steps.specs.Inner.{Leaving, left_by}
use Rattle.machine_steps.proofs.Ready.{ready}
use Rattle.machine_steps.proofs.Leaving.{holder_none, left_whole, left_shows, next_seat, next_told}
use Rattle.machine_replies.specs.declared.Reply.{Reply}
use Rattle.machine_replies.specs.Inner.{Frees, Grants, Makes}
use Rattle.machine_replies.proofs.Loaded.{tabled}

module _ (f : List ℕ) (s : State) (figures keys seats : List ℕ) (q : ℕ) (h : Frees f s figures keys seats q)
    (tasks_long : length s.tasks ≡ 64) (lines_long : length s.lines ≡ 16) where
  abbrev p : Plan
  p = plan_of f

  v : Valid p
  v = valid_plan f h.on.known.plan

  w : Whole p s
  w = whole_of p v s h.on.sound

  t : Tabled p s figures keys seats
  t = tabled h.on h.keyed tasks_long lines_long

  abbrev n : State
  n = left_by figures keys seats q s

  pub free_ready : Leaving figures keys seats q (line_at s q)
  free_ready = record { tables = sized p v s w t; resource = h.resource; ready = ready p v s w t q h.resource h.held }

  pub free_grants : Grants f seats q (slot (line_at s q) 0) (line_at n q)
  free_grants =
      record {
        plan = h.on.known.plan;
        long = h.on.seated.long;
        resource = h.resource;
        head = λ a. let g = next_seat p v s w t q h.resource h.held a in record { placed = g.0; some = g.1; task = g.2 };
      }

  pub free_done : (r : Reply) → r.answer ≡ granted_answer p seats q (slot (line_at s q) 0) (line_at r.state q) → r.state ≡ n → (tag : ℕ) → Acted p s (Release tag q) r
  unfolding granted_answer
  free_done r a e tag =
      record {
        answer = a ∙ rw e (sym (next_told p v s w t q h.resource h.held));
        sound = rw e (sound_of p v _ (left_whole p v s w t q h.resource h.held));
        shows = rw e (left_shows p v s w t q h.resource h.held);
      }

-- what the number 0 of a release tells
module _ (f : List ℕ) (s : State) (figures keys seats : List ℕ) (tag q : ℕ) (m : Makes f s figures keys seats (Release tag q)) where
  pub release_low : q < 16
  release_low =
      let p = plan_of f in
      omega (arith, (valid_plan f m.on.known.plan).resources, named_resource p tag q (line_named p holds 15 (shows p s) tag q m.code))

  pub release_held : 1 ≤ (line_at s q).queued
  release_held =
      let p = plan_of f in
      on_eq (1 ≤ (line_at s q).queued) (line_at s q).queued 0
      (λ e. absurd (true≢false (sym (line_passes p holds 15 (shows p s) tag q m.code) ∙ holder_none p s q (task_number p tag) e))) (λ n. omega arith)
