-- The lines below `q` have made their tick, the others are as they were; marks and words tell of those below.
use Rattle.machine_steps.proofs.Ground.{◌≡◌, get_or, each_below, word_below, no_line, cuts_holder, ended_below, stepped}
use Rattle.machine_steps.proofs.Marks.{newly}
use Rattle.machine_steps.proofs.step_lines.Given as goal

abbrev pub invariant-loop-q : goal.invariant-loop-q
invariant-loop-q l =
    (l.next ≡ each_below no_line (λ r x. stepped l.figures l.seats r x) l.q l.line-items)
    × (l.marks ≡ ended_below l.line-items l.q)
    × (l.cuts ≡ word_below l.q (λ i. cuts_holder (get_or l.line-items i no_line)))
    × (l.grants ≡ word_below l.q (newly l.figures l.seats l.line-items))
