-- The line is put at the front of a buffer of its own, and handed over from there.
use Rattle.print_text.proofs.TextLaws.{put_front}
use Rattle.print_calls.proofs.plan_line.Goals as goal

pub returns : goal.returns
returns c = let h = rw (put_front c.put_plan-end.ensures.put) at c.hand_over.ensures in record { told = h.told; out_after = h.out_after }
