use Rattle.std.proofs.Common.{refl}
use Rattle.analysis_terms.proofs.Terms.{terms_none}
use Rattle.analysis_terms.proofs.put_shared.Goals as goal

pub loop-q-init : goal.loop-q-init
loop-q-init c = terms_none _ _ refl c.requires.1
