-- The lines of the tasks below `i`, one behind the other, and whether all of them pass.
use Rattle.std.proofs.Common.{◌≡◌}
use Rattle.folds.specs.Below.{all_below}
use Rattle.sizes.specs.Sizes.{most_tasks}
use Rattle.print_text.proofs.Turns.{PutBelow}
use Rattle.plan_reading.specs.Plan.{plan_of}
use Rattle.print_sheet.specs.Inner.{requirement_room, passes}
use Rattle.print_sheet.specs.Sheet.{requirement_at}
use Rattle.print_sheet.proofs.put_requirements.Given as goal

abbrev pub invariant-loop-i : goal.invariant-loop-i
invariant-loop-i l = record {
  put : PutBelow l.fn.buf l.buf l.at requirement_room most_tasks (plan_of l.file).tasks l.i (requirement_at l.file) l.end;
  all : l.all ≡ all_below l.i (passes l.file);
}
