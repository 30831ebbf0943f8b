use Rattle.folds.proofs.WordLaws.{word_fits}
use Rattle.machine_steps.proofs.Ground.{◌≡◌, refl, arith, rules, ended_of, stepped_lines, cut_word}
use Rattle.machine_steps.proofs.Marks.{grants_done}
use Rattle.machine_steps.proofs.step_lines.Goals as goal

pub overflow_add-cuts : goal.overflow_add-cuts
overflow_add-cuts c = record { fits = word_fits _ 16 _ c.loop-q.invariant.2 (rw c.cuts_holder-on.ensures at c.bit-cuts.ensures) (omega arith) }

pub overflow_add-grants : goal.overflow_add-grants
overflow_add-grants c =
    record { fits = word_fits _ 16 _ c.loop-q.invariant.3 (rw (c.cuts_holder-on.ensures, c.step-after.ensures) at c.bit-grants.ensures) (omega arith) }

pub returns : goal.returns
unfolding stepped_lines ended_of cut_word
returns c =
    let e : c.loop-q.q ≡ 16 = omega arith in
    let i = rw e at c.loop-q.invariant in
    record { lines = i.0; marks = i.1; cuts = i.2; grants = grants_done _ _ _ 16 (search rules) refl i.3 }
