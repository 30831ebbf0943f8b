-- The rows below `i` stand at the front of the buffer, and what lies behind is as it was.
use Rattle.folds.proofs.Fronts.{Rowed}
use Rattle.plan_layout.specs.Editions.{edition1}
use Rattle.plan_layout.specs.Inner.{section_width}
use Rattle.plan_bytes.specs.Encode.{section_bytes}
use Rattle.plan_bytes.proofs.put_sections.Given as goal

abbrev pub invariant-loop-i : goal.invariant-loop-i
invariant-loop-i l = Rowed l.fn.s section_width (section_bytes edition1 l.sections) l.fn.buf l.buf l.i
