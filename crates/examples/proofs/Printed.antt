-- The definitions give document 01's listing byte for byte, by computing.
use Rattle.folds.proofs.Ground.{◌≡◌, refl, ◌++◌}
use Rattle.plan_rules.specs.Rules.{tag_new, priority_new, unique_ok, lengths_ok, bytes_ok, same_bytes, differ, name_new, names_differ, names_ok, section_sum, sums_ok}
use Rattle.plan_layout.specs.Layout.{header_in, counts_of, length_said, offsets_ok, task_at, task_spare, start_at, length_at, resource_spare, section_at, task_rows, length_rows, section_rows, task_rows_ok, length_rows_ok, section_rows_ok, parts_code}
use Rattle.plan_reading.specs.Plan.{plan_of, name_part}
use Rattle.plan_reading.specs.Checks.{counts_code, header_code, check_code}
use Rattle.plan.specs.Acceptance.{refusal}
use Rattle.plan.specs.Reading.{plan_length}
use Rattle.analysis_equations.specs.HoldTimes.{longest_on, longest_off, interference, hold_time, hold_at, budget, wait_time}
use Rattle.analysis_equations.specs.Questions.{task_number, sharing_code, use_code, processor_code, requirement_code}
use Rattle.analysis_equations.specs.Sharing.{uses, used_on, global}
use Rattle.machine_rules.specs.Machine.{busy, request_code, named_code, line_code, step, answer}
use Rattle.folds.specs.Below.{all_below, any_below, sum_below, max_below, count_below, find_below}
use Rattle.folds.specs.Bytes.{number, fields, row_at, placed_below}
use Rattle.folds.specs.Words.{word_below}
use Rattle.print_text.specs.Text.{places_to, decimals}
use Rattle.machine_calls.specs.Calls.{call_of, tag_at, calls_below}
use Rattle.print_calls.specs.Output.{lines_below, end_line, calls_output, file_output, output}
use Rattle.examples.specs.Listing.{listing_plan, listing_calls, listing_text}

pub listing_printed : output (listing_plan ++ listing_calls) ≡ listing_text
unfolding listing_plan listing_calls listing_text tag_new priority_new unique_ok lengths_ok bytes_ok same_bytes differ name_new names_differ names_ok section_sum sums_ok header_in counts_of length_said offsets_ok task_at task_spare start_at length_at resource_spare section_at task_rows length_rows section_rows task_rows_ok length_rows_ok section_rows_ok parts_code plan_of counts_code header_code check_code refusal name_part plan_length longest_on longest_off interference hold_time hold_at budget wait_time task_number sharing_code use_code processor_code requirement_code uses used_on global busy request_code named_code line_code step answer all_below any_below sum_below max_below count_below find_below number fields row_at placed_below word_below places_to decimals call_of tag_at calls_below lines_below end_line calls_output file_output
listing_printed = refl
