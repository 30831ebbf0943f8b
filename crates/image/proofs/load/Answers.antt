-- The rows of both kinds, as many as the plan has.
use Rattle.std.proofs.iter.Serving.{serving}
use Rattle.image.proofs.Ground.{◌+◌, ◌*◌, ◌≤◌, ◌≡◌, length, arith, rules, valid_plan, plan_of, standing_in, line_in}
use Rattle.std.proofs.Common.{ℕ, ◌<◌, get_or}
use Rattle.folds.proofs.Arrays.{table_placed}
use Rattle.machine_state.specs.Shows.{free_line, none_in_line}
use Rattle.image.proofs.load.Goals as goal

pub table-requires : goal.table-requires
table-requires c =
    let v = valid_plan _ c.requires.plan in
    let few : c.from.result ≤ 16 = omega (arith, v.resources) in
    let room : 4 + c.from.result * 14 ≤ length c.args.image.now = omega arith in
    grind serving

pub table-requires-2 : goal.table-requires-2
table-requires-2 c =
    let v = valid_plan _ c.requires.plan in
    let low : c.standing_rows_at-at.result ≤ 228 = omega (arith, v.resources) in
    let few : c.from-2.result ≤ 64 = omega (arith, v.tasks) in
    let room : c.standing_rows_at-at.result + c.from-2.result * 2 ≤ length c.args.image.now = omega arith in
    grind serving

pub returns : goal.returns
unfolding standing_in
returns c =
    let p = plan_of c.args.file.now in
    let b = c.args.image.now in
    let n : c.from.result ≡ p.resources = omega arith in
    let m : c.from-2.result ≡ p.tasks = omega arith in
    let line : (i : ℕ) → i < c.from.result → get_or c.table.result i free_line ≡ line_in b i = λ i h. let g = c.table.ensures.given i h in search rules in
    let standing : (i : ℕ) → i < c.from-2.result → get_or c.table-2.result i none_in_line ≡ standing_in p b i = λ i h. let g = c.table-2.ensures.given i h in search rules in
    let few = valid_plan _ c.requires.plan in
    let lines = table_placed c.from.result 16 (line_in b) free_line c.table.result (omega (arith, few.resources)) (search rules) line (λ i h l. search rules) in
    let tasks = table_placed c.from-2.result 64 (standing_in p b) none_in_line c.table-2.result (omega (arith, few.tasks)) (search rules) standing (λ i h l. search rules) in
    rw (lines, tasks, n, m)
