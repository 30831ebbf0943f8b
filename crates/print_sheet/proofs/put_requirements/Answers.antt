-- The lines of the tasks below `i`, one behind the other, and whether all of them pass.
use Rattle.std.proofs.Common.{arith, refl, rules}
use Rattle.folds.specs.Below.{all_below}
use Rattle.folds.proofs.Tests.{all_step, all_done}
use Rattle.analysis_equations.specs.Requirement.{admitted}
use Rattle.print_text.proofs.Turns.{turns_none, turns_more, turns_done}
use Rattle.print_sheet.specs.Sheet.{requirement_lines}
use Rattle.print_sheet.proofs.Laws.{few_tasks}
use Rattle.print_sheet.proofs.put_requirements.Goals as goal

pub loop-i-init : goal.loop-i-init
unfolding all_below
loop-i-init c = record { put = turns_none (few_tasks c.args.file.now c.requires.prepared.plan) c.requires.room; all = refl }

pub loop-i-preserved : goal.loop-i-preserved
loop-i-preserved c =
    let one = c.put_requirement_at-one.ensures in
    let s = c.loop-i.invariant in
    record { put = turns_more s.put (omega arith) one.put (search rules); all = all_step _ _ s.all one.all }

pub returns : goal.returns
unfolding requirement_lines admitted
returns c =
    let l = c.loop-i in
    record { put = turns_done l.invariant.put (omega arith); all = all_done _ l.i _ (omega arith) l.invariant.all }
