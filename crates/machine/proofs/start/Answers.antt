-- A fresh state shows nobody in line, and is sound where the plan is not refused.
use Rattle.machine.proofs.Ground.{accepted_valid, fresh_sound, fresh_shows}
use Rattle.machine.proofs.start.Goals as goal

pub returns-clause-sound_value : goal.returns-clause-sound_value
returns-clause-sound_value c = λ z.
    rw c.fresh.ensures (fresh_sound _ (accepted_valid (record { none = z; bytes = λ i l. (c.type_inv.file i).fits })))

pub returns-clause-shown : goal.returns-clause-shown
returns-clause-shown c = rw c.fresh.ensures (fresh_shows _)
