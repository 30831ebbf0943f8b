-- What is asked of the lines that a list of calls starts from: they are sound, and nobody stands in one twice. Every call keeps that.
use Rattle.machine_rules.proofs.Ground.{ℕ, List, [], ◌∷◌, Plan, Valid, task_number, Line, queue_of, EachOnce, Call, View, fresh, terms}
use Rattle.machine_rules.proofs.Ground.{step, after}
use Rattle.queue_rules.proofs.Sound.{is_free}
use Rattle.queue_rules.proofs.Moves.{sound_entered, sound_released, sound_ticked}
use Rattle.queue_rules.proofs.Once.{empty, each_entered, each_released, each_ticked}
use Rattle.queue_rules.proofs.Withdrawn.{sound_withdrawn, each_withdrawn}
use Rattle.machine_rules.proofs.Moves.{Move, stays, enters, leaves, gives_up_lem, ticks, moved}
use Rattle.machine_rules.proofs.SoundLines.{known, SoundAt, accepted, fits}

pub record Orderly (p : Plan) (s : View) : Type 0 where
  pub sound : (q : ℕ) → SoundAt p q (s.lines q)
  pub once : (q : ℕ) → EachOnce (queue_of (s.lines q))

pub orderly_fresh : (p : Plan) → Orderly p fresh
orderly_fresh p = record { sound = λ q. is_free; once = λ q. empty }

module _ (p : Plan) (v : Valid p) where
  record Neat (q : ℕ) (l : Line) : Type 0 where
    sound : SoundAt p q l
    once : EachOnce (queue_of l)

  neat_move : {s : View} {q : ℕ} {c : Call} {l : Line} → Orderly p s → Move p s q c l → Neat q l
  neat_move {q = q} w (stays z) = record { sound = w.sound q; once = w.once q }
  neat_move {s} {q} w (enters tag e) =
      let i = task_number p tag in
      let a = accepted p s tag q e in
      record {
        sound = sound_entered (terms p q) (known p q) p.processors (fits p v q) i a.user (w.sound q);
        once = each_entered (terms p q) i (s.lines q) a.new (w.once q);
      }
  neat_move {s} {q} w (leaves tag) =
      record {
        sound = sound_released (terms p q) (known p q) p.processors (fits p v q) (w.sound q);
        once = each_released (terms p q) (s.lines q) (w.once q);
      }
  neat_move {s} {q} w (gives_up_lem tag e) =
      record {
        sound = sound_withdrawn (terms p q) (known p q) p.processors (task_number p tag) (w.sound q);
        once = each_withdrawn (task_number p tag) (s.lines q) (w.once q);
      }
  neat_move {s} {q} w ticks =
      record {
        sound = sound_ticked (terms p q) (known p q) p.processors (fits p v q) (w.sound q);
        once = each_ticked (terms p q) (s.lines q) (w.once q);
      }

  pub orderly_step : (s : View) (c : Call) → Orderly p s → Orderly p (step p s c)
  orderly_step s c w = record { sound = λ q. (neat_move w (moved p s q c)).sound; once = λ q. (neat_move w (moved p s q c)).once }

  pub orderly_after : (s : View) (cs : List Call) → Orderly p s → Orderly p (after p s cs)
  orderly_after s [] w = w
  orderly_after s (c ∷ cs) w = orderly_after (step p s c) cs (orderly_step s c w)
