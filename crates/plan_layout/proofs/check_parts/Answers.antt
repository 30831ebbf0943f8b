-- A number of the first two tests that is not 0 is that of all; else that of the others is.
use Rattle.std.proofs.Common.{ℕ, suc, ◌≡◌, ◌≤◌, Bool, true, false, cond, sym, arith}
use Rattle.std.proofs.lemmas.Result.{err_from_is_err_and}
use Rattle.folds.proofs.Tests.{code_zero, code_next}
use Rattle.refusals.proofs.Laws.{number_some}
use Rattle.plan_layout.specs.Layout.{parts_tests, parts_code}
use Rattle.plan_layout.specs.Inner.{task_code, rest_code}
use Rattle.plan_layout.proofs.check_parts.Goals as goal

-- the number of two tests that is not 0 is that of whatever follows them
stop : (a b : Bool) (x m l : ℕ) {k : ℕ} → k ≡ cond a (cond b 0 (suc m)) (suc l) → 1 ≤ k → k ≡ cond a (cond b x (suc m)) (suc l)
stop true true x m l e d = absurd (omega arith)
stop true false x m l e d = e
stop false b x m l e d = e

pub returns-in_err-check_tasks : goal.returns-in_err-check_tasks
unfolding parts_code task_code
returns-in_err-check_tasks c =
    let p = err_from_is_err_and c.from_residual.result c.from_residual.ensures.1 in
    let t = parts_tests c.args.c c.args.tasks.now c.args.resources.now c.args.sections.now c.args.names.now in
    rw (p.1, p.2) (stop t.tasks t.unique _ 5 4 (rw c.from.ensures at c.in_err-check_tasks.ensures) (number_some _))

pub returns : goal.returns
unfolding parts_code task_code rest_code
returns c =
    let t = parts_tests c.args.c c.args.tasks.now c.args.resources.now c.args.sections.now c.args.names.now in
    let none = sym (rw c.from.ensures at c.in_ok-check_tasks.ensures) in
    rw (code_zero t.tasks _ 4 none, code_zero t.unique _ 5 (code_next t.tasks _ 4 none)) c.check_rest.ensures
