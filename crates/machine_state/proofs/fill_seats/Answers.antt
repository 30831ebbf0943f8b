use Rattle.machine_state.proofs.Ground.{◌<◌, get_or, length-replicate, arith, stamped_length, valid_plan, seat_count}
use Rattle.machine_state.proofs.Tables.{seat_high, seats_done}
use Rattle.machine_state.proofs.fill_seats.Goals as goal

pub bounds-seats-from : goal.bounds-seats-from
bounds-seats-from c =
    let sits : get_or c.args.keys.now c.loop-u.u 0 < seat_count =
    seat_high _ (valid_plan _ c.requires.plan) _ _ c.requires.keyed _ (omega arith) in
    rw (c.loop-u.invariant, stamped_length, length-replicate, c.from.ensures) sits

pub returns : goal.returns
returns c = seats_done _ (valid_plan _ c.requires.plan) _ _ c.requires.keyed c.loop-u.u (omega arith) c.loop-u.invariant
