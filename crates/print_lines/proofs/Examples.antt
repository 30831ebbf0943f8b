-- Lines as they are printed, by computing: those of the documents, of a plan whose resource 0 has the name "bus".
use Rattle.print_lines.proofs.Ground.{ℕ, ◌≡◌, refl, List}
use Rattle.machine_rules.specs.declared.Answer.TheVariants.{Granted, Waits, Next, Free, Left, Ticked, Refused}
use Rattle.print_text.specs.Text.{quoted, places_to, decimals}
use Rattle.plan_reading.specs.Plan.{name_part}
use Rattle.print_lines.specs.Lines.{plan_line, answer_line}

pub plan_example : plan_line (record { edition = 1; processors = 2; tasks = 2; resources = 1; sections = 2 }) ≡ quoted "plan 2 2 1 2\n"
unfolding places_to decimals
plan_example = refl

pub answer_examples : (f : List ℕ) → name_part f 0 ≡ quoted "bus" →
    (answer_line f 20 0 Granted ≡ quoted "granted 20 bus\n")
    × (answer_line f 10 0 (Waits 0 3) ≡ quoted "waits 10 bus 0 3\n")
    × (answer_line f 10 0 (Next 20) ≡ quoted "released 10 bus to 20\n")
    × (answer_line f 10 0 Free ≡ quoted "released 10 bus free\n")
    × (answer_line f 10 0 Left ≡ quoted "left 10 bus\n")
    × (answer_line f 0 0 (Ticked 1 1) ≡ quoted "tick 1 1\n")
    × (answer_line f 20 0 (Refused 16) ≡ quoted "refused 16\n")
unfolding places_to decimals
answer_examples f bus = rw bus (refl, refl, refl, refl, refl, refl, refl)
