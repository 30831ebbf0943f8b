-- The image is what the calls passed leave.
use Rattle.image_calls.proofs.Ground.{LeftBy}
use Rattle.machine_calls.specs.Calls.{call_width, calls_below}
use Rattle.image_calls.proofs.run.Given as goal

abbrev pub invariant-loop-x : goal.invariant-loop-x
invariant-loop-x l = LeftBy l.file l.initial.image (calls_below call_width l.x l.calls) l.image
