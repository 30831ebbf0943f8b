-- The tables are those of the plan and the state, and the test by them is that of soundness.
use Rattle.machine_state.proofs.Ground.{sym, ◌∙◌, valid_plan}
use Rattle.machine_state.proofs.Tables.{sized_by}
use Rattle.machine_state.proofs.SoundTest.{sound_test}
use Rattle.machine_state.proofs.seat_tasks.Goals as goal

pub passes-requires : goal.passes-requires
passes-requires c =
    let known = c.requires.0 in
    sized_by _ (valid_plan _ known.plan) _ _ c.key_table-keys.ensures known.figures c.fill_seats.ensures

pub returns-then-passes : goal.returns-then-passes
returns-then-passes c =
    let known = c.requires.0 in
    let keys = c.key_table-keys.ensures in
    let seats = c.fill_seats.ensures in
    let test = sound_test _ (valid_plan _ known.plan) _ _ _ _ known.figures keys seats in
    record { seats = seats; told = (sym test ∙ sym c.if-passes.ensures, keys) }

pub returns-else-passes : goal.returns-else-passes
returns-else-passes c =
    let known = c.requires.0 in
    let keys = c.key_table-keys.ensures in
    let seats = c.fill_seats.ensures in
    let test = sound_test _ (valid_plan _ known.plan) _ _ _ _ known.figures keys seats in
    record { seats = seats; told = (sym test ∙ sym c.if-passes.ensures, keys) }
