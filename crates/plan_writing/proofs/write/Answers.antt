-- Values that keep their rules give a file that fits: its length is below 65536, since the counts and the names are bounded.
use Rattle.std.proofs.Common.{sym, arith}
use Rattle.plan_rules.proofs.Laws.{tags_kept}
use Rattle.plan_writing.proofs.Same.{sized}
use Rattle.plan_writing.proofs.write.Goals as goal

pub put_file-requires : goal.put_file-requires
put_file-requires c =
    let z = sized _ _ _ (sym c.in_ok-check_values.ensures) in
    record { counts = z.rules.counts; tags = tags_kept _ _ _ _ z.rules.tests.tasks; short = z.short; room = omega arith }

pub overflow_cast-result : goal.overflow_cast-result
overflow_cast-result c =
    let z = sized _ _ _ (sym c.in_ok-check_values.ensures) in
    omega (arith, c.names_at.ensures, z.short, z.ranges.tasks, z.ranges.resources, z.ranges.sections)
