-- Each part is put behind those before it, and the rows are those of the image.
use Rattle.std.proofs.iter.Serving.{serving}
use Rattle.image.proofs.Ground.{◌<◌, ◌≤◌, ◌≡◌, ◌∙◌, ◌++◌, drop, length, arith, rules, plan_of, valid_plan, Front, put_front, rows_part}
use Rattle.image.proofs.Ground.{head_bytes, image_length, line_row, standing_row, line_width, standing_width}
use Rattle.image.proofs.Rows.{head_length, line_length, standing_length}
use Rattle.image.proofs.Stored.{stored_same}
use Rattle.image.proofs.store.Goals as goal

pub put_rows-requires-clause-calls : goal.put_rows-requires-clause-calls
put_rows-requires-clause-calls c = λ i row h e.
    let v = valid_plan _ c.requires.lent.plan in
    let few : i < 16 = omega (arith, v.resources) in
    let long : length c.holders_of-holders.result ≡ 17 = search rules in
    grind serving

pub put_rows-requires-2-clause-calls : goal.put_rows-requires-2-clause-calls
put_rows-requires-2-clause-calls c = λ i row h e.
    let v = valid_plan _ c.requires.lent.plan in
    let few : i < 64 = omega (arith, v.tasks) in
    grind serving

pub returns-clause-image_after : goal.returns-clause-image_after
returns-clause-image_after c =
    let p = plan_of c.args.file.now in
    let v = valid_plan _ c.requires.lent.plan in
    let s = c.args.state in
    let at = c.standing_rows_at-at.result in
    let holders = c.holders_of-holders.result in
    let room : image_length p ≤ length c.args.image.now = c.requires.lent.room in
    let head : Front (head_bytes p) 4 c.args.image.now (c.copy_from_slice.new.self ++ drop 4 c.args.image.now) =
    put_front (search rules) (head_length p) (omega arith) in
    let f1 = rows_part line_width _ (λ k. line_length _ _) c.from.result at head
    (c.put_rows.ensures (line_row s.lines holders) (record { wide = λ k. line_length _ _; puts = λ i row left h e. search rules }))
    (omega arith) (omega arith) in
    let f2 = rows_part standing_width _ (λ k. standing_length _) c.from-2.result (image_length p) f1
    (c.put_rows-2.ensures (standing_row s.tasks) (record { wide = λ k. standing_length _; puts = λ i row left h e. search rules }))
    (omega arith) room in
    f2.bytes ∙ stored_same p v s c.requires.sound c.args.image.now (omega arith) (omega arith) c.holders_of-holders.ensures
