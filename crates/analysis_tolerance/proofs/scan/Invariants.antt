-- `demand` is that of t with `own`, and `best` the greatest for the times up to t.
use Rattle.analysis_tolerance.proofs.Ground.{◌+◌, ◌-◌, ◌*◌, ◌≤◌, ◌≡◌, pos, Counted, demand_of, greatest_to, most_tasks, most_period}
use Rattle.analysis_tolerance.proofs.Demand.{left_of}
use Rattle.analysis_tolerance.proofs.scan.Given as goal

abbrev pub invariant-loop-t : goal.invariant-loop-t
invariant-loop-t l = record {
  counted : Counted l.periods l.times l.m l.t l.ends;
  low : demand_of l.periods l.times l.m l.t ≤ l.t * (most_tasks * most_period);
  demanded : l.demand ≡ pos (l.own + demand_of l.periods l.times l.m l.t);
  told : l.best ≡ greatest_to (l.t - 1) (left_of l.periods l.times l.m l.own);
}
