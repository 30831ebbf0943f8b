use Rattle.machine_replies.proofs.make.Goals as goal

pub returns-in-Release : goal.returns-in-Release
returns-in-Release c = rw c.in-Release.is (c.release_on.ensures _)
