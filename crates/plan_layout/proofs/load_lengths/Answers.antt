-- The lengths that the table was given are those of the part.
use Rattle.std.proofs.Common.{◌≡◌, ◌<◌, ℕ, get_or, arith, rules}
use Rattle.folds.proofs.Arrays.{table_placed}
use Rattle.plan_layout.specs.Editions.{edition1}
use Rattle.plan_layout.specs.Layout.{length_at, length_rows}
use Rattle.plan_layout.proofs.load_lengths.Goals as goal

pub returns : goal.returns
unfolding length_rows
returns c =
    let given : (i : ℕ) → i < c.args.r → get_or c.table.result i 0 ≡ length_at edition1 c.args.part.now i = λ i h. let g = c.table.ensures.given i h in search rules in
    let placed = table_placed c.args.r 16 (length_at edition1 c.args.part.now) 0 c.table.result (omega arith) (search rules) given (λ i h l. search rules) in
    record { ok = search rules; lengths = placed }
