use Rattle.std.proofs.Common.{arith, tests, rules}
use Rattle.plan_reading.proofs.Laws.{valid_plan}
use Rattle.analysis_terms.proofs.Terms.{count_low, terms_section}
use Rattle.analysis_terms.proofs.put_sections.Goals as goal

pub overflow_add-count-in-loop-s : goal.overflow_add-count-in-loop-s
overflow_add-count-in-loop-s c =
    let v = valid_plan _ c.requires.plan in
    omega (arith, count_low v c.section-row.ensures c.from-j.ensures c.from-q.ensures (omega arith) c.loop-s.invariant)

pub loop-s-preserved : goal.loop-s-preserved
loop-s-preserved c =
    let v = valid_plan _ c.requires.plan in
    terms_section v c.section-row.ensures c.from-j.ensures c.from-q.ensures (omega arith) c.loop-s.invariant
    (search (tests, rules)) c.max-longest.ensures c.max-ceiling.ensures
