-- Both buffers keep their length, and the bytes kept fit.
use Rattle.std.proofs.Common.{◌≤◌, ◌≡◌, length, take}
use Rattle.plan.specs.Acceptance.{refusal}
use Rattle.mspis.proofs.Going.{Going}
use Rattle.mspis.proofs.serve_all.Given as goal

abbrev pub invariant-loop-turn : goal.invariant-loop-turn
invariant-loop-turn g l = record {
  calls : length l.calls ≡ 65536;
  out : length l.out ≡ 65536;
  kept : l.kept ≤ 65536;
  going : refusal l.file ≡ 0 → Going (g.R.Read.remaining l.fn.input) (g.R.Read.remaining l.input) (g.W.Write.contents l.fn.output) (g.W.Write.contents l.output)
      l.file l.state (take l.kept l.calls) l._turn;
}
