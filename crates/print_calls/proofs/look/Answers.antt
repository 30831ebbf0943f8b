-- A state that is not refused is of a plan that is accepted, which has its table.
use Rattle.std.proofs.Common.{sym, ◌∙◌}
use Rattle.machine.proofs.Answered.{state_accepted}
use Rattle.print_calls.proofs.look.Goals as goal

pub returns : goal.returns
returns c =
    let s = c.look-looked.ensures.surveyed in
    record {
      number = c.check_state.ensures;
      plan = λ z. let none = (state_accepted _ _ (sym c.check_state.ensures ∙ z)).0 in record { none = none; known = s.known (s.refusal ∙ none) };
    }
