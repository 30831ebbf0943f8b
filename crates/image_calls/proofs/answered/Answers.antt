-- A plan that is refused, and bytes that are too short.
use Rattle.std.proofs.lemmas.Result.{err_from_is_err_and}
use Rattle.refusals.proofs.Laws.{number_no0}
use Rattle.image_calls.proofs.Ground.{sym, refl}
use Rattle.image_calls.proofs.Made.{plan_lent, room_left, lent_first, image_first, refused}
use Rattle.image_calls.proofs.answered.Goals as goal

pub returns-in_err-look : goal.returns-in_err-look
returns-in_err-look c =
    let p = err_from_is_err_and c.from_residual.result c.from_residual.ensures.1 in
    let d = number_no0 c.in_err-look.field-0.0 in
    rw (p.1, p.2) (refused _ _ _ (image_first _ _ _ (lent_first _ _ (plan_lent _ _ c.in_err-look.ensures.surveyed.refusal d) d) d) d)

pub check_room-requires : goal.check_room-requires
check_room-requires c = record { none = sym c.in_ok-look.ensures.surveyed.refusal; bytes = λ i l. (c.type_inv.file i).fits }

pub returns-in_err-check_room : goal.returns-in_err-check_room
returns-in_err-check_room c =
    let p = err_from_is_err_and c.from_residual-in_err-check_room.result c.from_residual-in_err-check_room.ensures.1 in
    let d = number_no0 c.in_err-check_room.field-0.0 in
    rw (p.1, p.2) (refused _ _ _ (image_first _ _ _ (lent_first _ _ (sym c.in_err-check_room.ensures) d) d) d)

pub act-requires : goal.act-requires
act-requires c =
    let s = c.in_ok-look.ensures.surveyed in
    record { none = sym s.refusal; known = s.known refl; room = room_left _ _ (sym s.refusal) (sym c.in_ok-check_room.ensures) }
