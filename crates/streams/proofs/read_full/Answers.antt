-- Each read adds what it gave behind what came before.
use Rattle.folds.proofs.Ground.{rules, subst, sym}
use Rattle.std.specs.Io.KnownBytes.{Consumes}
use Rattle.streams.proofs.Known.{consumed_both, front_put}
use Rattle.streams.proofs.read_full.Goals as goal

pub loop-done-preserved : goal.loop-done-preserved
loop-done-preserved g c =
    let within = c.loop-done.invariant.0 in
    let read = c.in_ok-n.ensures in
    let both = consumed_both _ _ _ _ _ c.loop-done.invariant.2 read.bytes.0 in
    (search rules, search rules, subst (Consumes _ _) (sym (front_put _ _ _ _ _ within read.bound.0)) both)
