-- Where nothing is refused, the task uses the resource, which is global.
use Rattle.std.proofs.Common.{◌≡◌, arith}
use Rattle.plan_reading.specs.Plan.{plan_of}
use Rattle.analysis_equations.specs.Questions.{use_code}
use Rattle.analysis_equations.proofs.Laws.{use_clear}
use Rattle.analysis.specs.Answers.{after_reading, hold_refusal}
use Rattle.analysis.proofs.Told.{told}
use Rattle.analysis.proofs.user_of.Goals as goal

pub returns : goal.returns
unfolding after_reading hold_refusal
returns c =
    let u = c.user_in-user.ensures in
    let e : use_code (plan_of c.args.file.now) c.args.tag c.args.q ≡ 0 = grind (arith, told) in
    let s = use_clear _ c.args.tag c.args.q e in
    record {
      code = grind (arith, told);
      user = rw u.task (grind (arith, told));
    }
