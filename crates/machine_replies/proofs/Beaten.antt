-- A tick: what it does to a sound state.
use Rattle.machine_replies.proofs.Ground.{ℕ, ◌≡◌, ◌∙◌, List, length, Plan, Valid, plan_of, valid_plan, Tick, State, Whole, sound_of, whole_of, Tabled, sized, Acted}
use Rattle.folds.proofs.Ground.{ap₂}
use Rattle.machine_rules.specs.declared.Answer.TheVariants.{Ticked}
use Rattle.machine_state.specs.Inner.{Sized}
use Rattle.machine_steps.specs.Inner.{AllRunning, ticked_by, cut_word, grant_word}
use Rattle.machine_steps.proofs.Ready.{running}
use Rattle.machine_steps.proofs.Ticks.{ticked_whole, ticked_shows, cut_word_lem, grant_word_lem}
use Rattle.machine_replies.specs.declared.Reply.{Reply}
use Rattle.machine_replies.specs.Inner.{Makes}
use Rattle.machine_replies.proofs.Loaded.{tabled}

module _ (f : List ℕ) (s : State) (figures keys seats : List ℕ) (m : Makes f s figures keys seats Tick)
    (tasks_long : length s.tasks ≡ 64) (lines_long : length s.lines ≡ 16) where
  abbrev p : Plan
  p = plan_of f

  v : Valid p
  v = valid_plan f m.on.known.plan

  w : Whole p s
  w = whole_of p v s m.on.sound

  t : Tabled p s figures keys seats
  t = tabled m.on m.keyed tasks_long lines_long

  pub beat_ready : (Sized figures keys seats) × (AllRunning seats s.lines)
  beat_ready = (sized p v s w t, λ q l a. running p v s w t q l a)

  pub beat_done : (r : Reply) → r.answer ≡ Ticked (cut_word s.lines) (grant_word s.lines r.state.lines) → r.state ≡ ticked_by figures keys seats s → Acted p s Tick r
  beat_done r a e =
      record {
        answer = a ∙ rw e (ap₂ Ticked (cut_word_lem p v s w t) (grant_word_lem p v s w t));
        sound = rw e (sound_of p v (ticked_by figures keys seats s) (ticked_whole p v s w t));
        shows = rw e (ticked_shows p v s w t);
      }
