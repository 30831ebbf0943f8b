-- The bytes are no call, or the line is that of its answer.
use Rattle.std.proofs.Common.{sym, rules}
use Rattle.print_calls.proofs.Naming.{call_names}
use Rattle.print_calls.proofs.Calls.{stepped_none, stepped_call}
use Rattle.print_calls.proofs.put_call.Goals as goal

pub returns-in_default : goal.returns-in_default
returns-in_default c = stepped_none _ _ _ (sym c.in_default.ensures) (rw c.number.ensures at c.put_refused-end.ensures)

pub call-reply-requires : goal.call-reply-requires
call-reply-requires c = record { refusal = sym c.requires.plan.none; known = λ z. c.requires.plan.known }

pub put_answer-end-requires : goal.put_answer-end-requires
put_answer-end-requires c = (rw c.call-reply.ensures.answer (call_names _ (λ k l. (c.type_inv.file k).fits) _ _ _ (sym c.in-Some.ensures)), search rules)

pub returns : goal.returns
returns c = stepped_call _ _ _ _ (sym c.in-Some.ensures) c.call-reply.ensures.answer c.call-reply.ensures.next c.put_answer-end.ensures
