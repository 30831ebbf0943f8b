-- The lines of the calls so far stand at the front of the buffer, and the iterator has the calls behind them.
use Rattle.std.proofs.Common.{◌≡◌, drop}
use Rattle.std.specs.Slice.Iter.{chunks_exact_rest, chunks_exact_size}
use Rattle.machine_calls.specs.Calls.{call_width}
use Rattle.machine.specs.Inner.{OnAccepted}
use Rattle.print_calls.specs.Buffers.{Written}
use Rattle.print_calls.proofs.Batches.{Begun}
use Rattle.print_calls.proofs.lines.Given as goal

abbrev pub invariant-loop-call : goal.invariant-loop-call
invariant-loop-call l = record {
  plan : OnAccepted l.file l.figures;
  written : Written l.file l.fn.state l.calls l.fn.out l.out l.used l.end l.current;
  begun : Begun l.used l.end;
  width : chunks_exact_size l.call-iterator ≡ call_width;
  rest : chunks_exact_rest l.call-iterator ≡ drop l.used l.calls;
}
