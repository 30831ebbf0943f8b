use Rattle.machine_replies.proofs.Ground.{rules}
use Rattle.machine_replies.proofs.Beaten.{beat_done}
use Rattle.machine_replies.proofs.tick_on.Goals as goal

pub returns : goal.returns
returns c = search (rules, beat_done)
