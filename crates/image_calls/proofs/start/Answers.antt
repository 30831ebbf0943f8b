-- A plan that is refused, bytes that are too short, or a fresh state stored.
use Rattle.std.proofs.lemmas.Result.{err_from_is_err_and}
use Rattle.refusals.proofs.Laws.{number_no0}
use Rattle.image_calls.proofs.Ground.{sym, ap, ◌∙◌, Accepted, accepted_checked, accepted_valid, plan_of, State, shows}
use Rattle.image_calls.proofs.Ground.{fresh_sound, image_with}
use Rattle.image_calls.proofs.Made.{plan_lent, room_left, start_refused, start_done}
use Rattle.image_calls.proofs.start.Goals as goal

pub returns-in_err-check : goal.returns-in_err-check
returns-in_err-check c =
    let p = err_from_is_err_and c.from_residual.result c.from_residual.ensures.1 in
    let d = number_no0 c.in_err-check.field-0.0 in
    let e = plan_lent c.args.file.now c.args.image.now c.in_err-check.ensures d in
    rw (p.1, p.2) (record { value = sym e; started_image = start_refused _ _ e d })

pub check_room-requires : goal.check_room-requires
check_room-requires c = record { none = sym c.in_ok-check.ensures; bytes = λ i l. (c.type_inv.file i).fits }

pub returns-in_err-check_room : goal.returns-in_err-check_room
returns-in_err-check_room c =
    let p = err_from_is_err_and c.from_residual-in_err-check_room.result c.from_residual-in_err-check_room.ensures.1 in
    let d = number_no0 c.in_err-check_room.field-0.0 in
    rw (p.1, p.2) (record { value = c.in_err-check_room.ensures; started_image = start_refused _ _ (sym c.in_err-check_room.ensures) d })

pub store-requires : goal.store-requires
store-requires c =
    let k : Accepted c.args.file.now = record { none = sym c.in_ok-check.ensures; bytes = λ i l. (c.type_inv.file i).fits } in
    record {
      lent = record { plan = accepted_checked k; room = room_left _ _ k.none (sym c.in_ok-check_room.ensures) };
      sound = rw c.fresh.ensures (fresh_sound _ (accepted_valid k));
    }

pub returns : goal.returns
returns c =
    let f = c.args.file.now in
    let b = c.args.image.now in
    let k : Accepted f = record { none = sym c.in_ok-check.ensures; bytes = λ i l. (c.type_inv.file i).fits } in
    record {
      value = c.in_ok-check_room.ensures;
      started_image = start_done f b (accepted_valid k) k.none (room_left f b k.none (sym c.in_ok-check_room.ensures))
          (c.store.ensures.image_after ∙ ap (λ (x : State). image_with (plan_of f) (shows (plan_of f) x) b) c.fresh.ensures);
    }
