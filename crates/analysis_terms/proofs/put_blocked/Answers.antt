use Rattle.std.proofs.Common.{arith}
use Rattle.analysis_equations.specs.Blocking.{global_count, longest_global, longest_local}
use Rattle.plan_reading.proofs.Laws.{valid_plan}
use Rattle.analysis_terms.proofs.Raising.{top_low, blocked_more, blocked_same}
use Rattle.analysis_terms.proofs.put_blocked.Goals as goal
use Rattle.analysis_terms.proofs.put_blocked.Goals.{then-terms-q-eq0, else-terms-q-eq0}

pub overflow_add-top-then-terms-q-eq0 : goal.overflow_add-top-then-terms-q-eq0
overflow_add-top-then-terms-q-eq0 c =
    let v = valid_plan _ c.requires.0 in
    omega (arith, top_low v c.section-row.ensures c.from-j.ensures c.from-q.ensures (omega arith) c.loop-s.invariant)

pub loop-s-preserved : goal.loop-s-preserved
loop-s-preserved c =
    let v = valid_plan _ c.requires.0 in
    elim c.if-terms-q-eq0.branch [
      | then-terms-q-eq0 w ↦ rw w.terms-is
          (blocked_more v c.section-row.ensures c.from-j.ensures c.from-q.ensures (omega arith) c.loop-s.invariant
          w.if-terms-q-eq0.true w.raise_blocked.ensures)
      | else-terms-q-eq0 w ↦ rw w.terms-is
          (blocked_same v c.section-row.ensures c.from-j.ensures c.from-q.ensures (omega arith) c.loop-s.invariant w.if-terms-q-eq0.false)
    ]

pub returns : goal.returns
unfolding longest_global global_count longest_local
returns c = grind (arith, valid_plan)
