-- A pass brings the counted periods, the demand and the greatest from t to t + 1.
use Rattle.std.proofs.lemmas.Int.{ints}
use Rattle.analysis_tolerance.proofs.Ground.{◌∙◌, arith, back, greatest_to}
use Rattle.analysis_tolerance.proofs.Demand.{counted_none, counted_next, demand_none, demand_next, left_of, greatest_next}
use Rattle.analysis_tolerance.proofs.scan.Goals as goal

pub pass-requires : goal.pass-requires
pass-requires c = counted_none c.requires.above

pub loop-t-init : goal.loop-t-init
unfolding greatest_to
loop-t-init c =
    let begun = counted_none c.requires.above in
    let p = c.pass.ensures in
    let none = demand_none c.requires.above in
    let next = demand_next begun p in
    record { counted = counted_next begun p (omega arith); low = omega arith; demanded = omega (arith, ints); told = omega (arith, ints) }

pub loop-t-preserved : goal.loop-t-preserved
loop-t-preserved c =
    let a = c.args in
    let i = c.loop-t.invariant in
    let p = c.pass-in-loop-t.ensures in
    let next = demand_next i.counted p in
    record {
      counted = counted_next i.counted p (omega arith);
      low = omega arith;
      demanded = omega (arith, ints);
      told = back _ c.max-best.type_inv
          ∙ greatest_next c.loop-t.t (left_of a.periods.now a.times.now a.m a.own) (omega arith) i.told (omega (arith, ints)) c.max-best.ensures.value;
    }
