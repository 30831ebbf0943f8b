-- The theorem of the table: the definitions compute what document 01 says.
use Rattle.folds.proofs.Ground.{true, ◌≡◌, refl}
use Rattle.folds.specs.Below.{any_below, count_below, list_below, sum_below, max_below, find_below}
use Rattle.folds.specs.Words.{word_below}
use Rattle.folds.specs.Signed.{greatest_to}
use Rattle.analysis_equations.specs.Sharing.{uses, used_on, global}
use Rattle.analysis_equations.specs.HoldTimes.{longest_on, longest_off, interference, hold_time, hold_at, budget, wait_time}
use Rattle.analysis_equations.specs.Blocking.{global_count, count_on, ceiling, longest_local, blocking1, longest_global, blocking2, fellow_holds, section_wait, waiting_on, waiting_side}
use Rattle.analysis_equations.specs.Requirement.{demand, left, tolerance, slack, met}
use Rattle.analysis_equations.specs.Questions.{task_number, use_code, sharing_code}
use Rattle.machine_rules.specs.Machine.{busy, request_code, named_code, line_code, step, answer}
use Rattle.machine_rules.specs.Longest.{fellows, longest_wait}
use Rattle.examples.specs.Table.{all_hold, table, c1, c2, c3, c4, c5, c6, sides, longest, give_ups, listing}

pub examples_hold : all_hold table ≡ true
unfolding all_hold c1 c2 c3 c4 c5 c6 sides longest give_ups listing any_below count_below list_below sum_below max_below find_below word_below greatest_to uses used_on global longest_on longest_off interference hold_time hold_at budget wait_time global_count count_on ceiling longest_local blocking1 longest_global blocking2 fellow_holds section_wait waiting_on waiting_side demand left tolerance slack met task_number use_code sharing_code busy request_code named_code line_code step answer fellows longest_wait
examples_hold = refl
