-- The state is not sound, the call is refused, or it is made.
use Rattle.machine.proofs.Ground.{sym, ◌∙◌, arith}
use Rattle.refusals.proofs.Laws.{number_no0}
use Rattle.machine.proofs.Answered.{refused_reply}
use Rattle.machine.proofs.Replied.{unsound_code, sound_code, acted_reply}
use Rattle.machine.proofs.surveyed.act.Goals as goal

pub returns-in_default : goal.returns-in_default
returns-in_default c =
    rw c.refuse.ensures (refused_reply _ _ _ (unsound_code _ c.requires.none _ _ c.in_default.ensures.told.0) (λ z. omega arith))

pub returns-in-Err : goal.returns-in-Err
returns-in-Err c =
    let e = sound_code _ c.requires.none _ _ c.in-Ok.ensures.told.0 ∙ sym c.in-Err.ensures in
    rw c.refuse-in-Err.ensures (refused_reply _ _ _ e (number_no0 c.in-Err.refusal))

pub returns : goal.returns
returns c =
    acted_reply _ c.requires.none _ _ c.in-Ok.ensures.told.0 (sym c.in_default-check_call.ensures) c.make.ensures
