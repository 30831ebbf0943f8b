use Rattle.image_calls.proofs.Ground.{sym, arith, accepted_checked}
use Rattle.image_calls.proofs.Made.{short_lent, room_lent}
use Rattle.image_calls.proofs.check_room.Goals as goal

pub image_length-requires : goal.image_length-requires
image_length-requires c = accepted_checked c.requires

pub returns-then-image-image_length : goal.returns-then-image-image_length
returns-then-image-image_length c = sym (short_lent _ _ c.requires.none (omega arith))

pub returns : goal.returns
returns c = sym (room_lent _ _ c.requires.none (omega arith))
