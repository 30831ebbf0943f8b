-- The tables mark the tags and places of the rows below `i`, and the two tests are those of all of them.
use Rattle.plan_layout.proofs.Unique.{Seen}
use Rattle.plan_layout.proofs.check_tasks.Given as goal

abbrev pub invariant-loop-i : goal.invariant-loop-i
invariant-loop-i l = Seen l.n l.p l.part l.tags l.places l.ok l.fresh l.i
