-- The table of terms tells whether the task asks.
use Rattle.std.proofs.Common.{◌∙◌, rules}
use Rattle.print_sheet.proofs.Laws.{few_tasks, requirement_out, requirement_in}
use Rattle.print_sheet.proofs.put_requirement_at.Goals as goal

pub returns-then-count_at-eq0 : goal.returns-then-count_at-eq0
returns-then-count_at-eq0 c =
    let told = c.count_at.ensures ∙ c.requires.prepared.terms.count c.args.i (search (rules, few_tasks)) in
    requirement_out c.args.file.now c.args.i told c.args.buf.now c.args.at c.if-count_at-eq0.true

pub returns : goal.returns
returns c =
    let told = c.count_at.ensures ∙ c.requires.prepared.terms.count c.args.i (search (rules, few_tasks)) in
    requirement_in c.args.file.now c.args.i told c.if-count_at-eq0.false c.task-task.ensures c.requirement_of-found.ensures c.put_requirement-end.ensures
