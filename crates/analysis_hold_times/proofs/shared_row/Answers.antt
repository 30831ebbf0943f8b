use Rattle.std.proofs.Common.{of_calls}
use Rattle.analysis_hold_times.proofs.shared_row.Goals as goal

pub returns : goal.returns
returns c = record { long = c.each_resource.ensures.long; at = λ q l. search (of_calls, c.each_resource.ensures.at q l) }
