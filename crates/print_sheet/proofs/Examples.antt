-- Lines of a sheet as they are printed, by computing, of a plan whose resource 0 has the name "bus".
use Rattle.print_sheet.proofs.Ground.{ℕ, true, false, ◌≡◌, refl, List, requirement_line}
use lib.IntN.{pos, negsuc}
use Rattle.print_text.specs.Text.{quoted, places_to, decimals}
use Rattle.plan_reading.specs.Plan.{name_part}
use Rattle.print_sheet.specs.Sheet.{resource_line, budget_line, hold_line, admitted_line}

-- the slack of the requirement, C7's, is -4
pub sheet_examples : (f : List ℕ) → name_part f 0 ≡ quoted "bus" →
    (resource_line f 0 true ≡ quoted "resource bus global\n")
    × (budget_line f 1 0 3 2 ≡ quoted "budget 1 bus 3 2\n")
    × (hold_line f 10 0 2 0 3 ≡ quoted "hold 10 bus 2 0 3\n")
    × (requirement_line 10 (record { blocking1 = 0; blocking2 = 4; tolerance = pos 0; slack = negsuc 3; side = 7; met = false }) ≡ quoted "requirement 10 0 4 0 -4 7 unmet\n")
    × (admitted_line true ≡ quoted "admitted yes\n")
unfolding places_to decimals
sheet_examples f bus = rw bus (refl, refl, refl, refl, refl)
