-- The rows that the table was given are those of the part.
use Rattle.std.proofs.Common.{◌≡◌, ◌<◌, ℕ, get_or, arith, rules}
use Rattle.folds.proofs.Arrays.{table_placed}
use Rattle.plan_rules.specs.Rules.{no_section}
use Rattle.plan_layout.specs.Editions.{edition1}
use Rattle.plan_layout.specs.Layout.{section_at, section_rows}
use Rattle.plan_layout.proofs.load_sections.Goals as goal

pub returns : goal.returns
unfolding section_rows
returns c =
    let given : (i : ℕ) → i < c.args.s → get_or c.table.result i no_section ≡ section_at edition1 c.args.part.now i = λ i h. let g = c.table.ensures.given i h in search rules in
    table_placed c.args.s 255 (section_at edition1 c.args.part.now) no_section c.table.result (omega arith) (search rules) given (λ i h l. search rules)
