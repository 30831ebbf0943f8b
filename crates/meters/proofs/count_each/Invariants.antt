-- The meters below `q` have counted their marks.
use Rattle.std.proofs.Common.{◌≡◌, get_or}
use Rattle.folds.specs.Each.{each_below}
use Rattle.meters.specs.Meters.{no_meter, no_mark, counted}
use Rattle.meters.proofs.count_each.Given as goal

abbrev pub invariant-loop-q : goal.invariant-loop-q
invariant-loop-q l = l.meters ≡ each_below no_meter (λ q m. counted m (get_or l.marks q no_mark)) l.q l.fn.meters
