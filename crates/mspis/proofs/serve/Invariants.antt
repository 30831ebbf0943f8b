-- Each turn makes a call at least, since there is one.
use Rattle.std.proofs.Common.{◌-◌, ◌≤◌, ◌≡◌, length, take}
use Rattle.machine.specs.Replies.{state_refusal}
use Rattle.mspis.specs.Served.{Wrote}
use Rattle.mspis.proofs.serve.Given as goal

abbrev pub invariant-loop-used : goal.invariant-loop-used
invariant-loop-used g l = record {
  within : l.used ≤ length l.calls;
  long : length l.out ≡ length l.initial.out;
  wrote : Wrote (g.W.Write.contents l.fn.output) (g.W.Write.contents l.output) l.file l.fn.start (take l.used l.calls) l.state;
  sound : state_refusal l.file l.fn.start ≡ 0 → state_refusal l.file l.state ≡ 0;
}

abbrev pub decreases-loop-used : goal.decreases-loop-used
decreases-loop-used g l = length l.calls - l.used
