-- The rows that the table was given are those of the part.
use Rattle.std.proofs.Common.{◌≡◌, ◌<◌, ℕ, get_or, arith, rules}
use Rattle.folds.proofs.Arrays.{table_placed}
use Rattle.plan_rules.specs.Rules.{no_task}
use Rattle.plan_layout.specs.Editions.{edition1}
use Rattle.plan_layout.specs.Layout.{task_at, task_rows}
use Rattle.plan_layout.proofs.load_tasks.Goals as goal

pub returns : goal.returns
unfolding task_rows
returns c =
    let given : (i : ℕ) → i < c.args.n → get_or c.table.result i no_task ≡ task_at edition1 c.args.part.now i = λ i h. let g = c.table.ensures.given i h in search rules in
    table_placed c.args.n 64 (task_at edition1 c.args.part.now) no_task c.table.result (omega arith) (search rules) given (λ i h l. search rules)
