-- Each return is the branch of the definition.
use Rattle.std.proofs.Common.{◌%◌, sym, ◌∙◌, arith}
use Rattle.folds.proofs.Tests.{held}
use Rattle.plan_layout.proofs.Sums.{sums_small, code_sums}
use Rattle.plan_layout.proofs.check_sections.Goals as goal

pub overflow_add-sums : goal.overflow_add-sums
overflow_add-sums c = omega (arith, sums_small {t = c.from-in-loop-i.result % 64} {part = c.args.part.now} (λ k. (c.type_inv.part k).fits) c.loop-i.invariant (omega arith))

pub returns-then-not-sums_fit : goal.returns-then-not-sums_fit
returns-then-not-sums_fit c =
    let ok = held c.section_rows_ok.ensures c.if-not-section_rows_ok.false in
    code_sums _ _ _ _ c.requires.tasks c.requires.sections ok _ c.loop-i.invariant c.loop-i-test.false c.from-2.ensures (sym c.if-not-sums_fit.true ∙ c.sums_fit.ensures)

pub returns : goal.returns
returns c =
    let ok = held c.section_rows_ok.ensures c.if-not-section_rows_ok.false in
    code_sums _ _ _ _ c.requires.tasks c.requires.sections ok _ c.loop-i.invariant c.loop-i-test.false c.from-2.ensures (sym c.if-not-sums_fit.false ∙ c.sums_fit.ensures)
