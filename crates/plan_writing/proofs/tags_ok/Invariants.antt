-- `ok` says whether there is room for the tags below `i`.
use Rattle.std.proofs.Common.{◌≡◌}
use Rattle.plan_rules.specs.Rules.{tags_ok}
use Rattle.plan_layout.specs.Editions.{edition1, format_of}
use Rattle.plan_writing.proofs.tags_ok.Given as goal

abbrev pub invariant-loop-i : goal.invariant-loop-i
invariant-loop-i l = l.ok ≡ tags_ok l.i (format_of edition1).most_tag l.tasks
