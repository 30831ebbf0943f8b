-- The datasheet of a plan, line by line: what a builder asks before anything runs.
use Rattle.std.specs.Prelude.{ℕ, Bool, cond, ◌&&◌, List, [], ◌∷◌, ◌++◌, eqb, length, take}
use Rattle.print_text.specs.Text.{quoted, decimal, signed, text_below}
use Rattle.print_text.specs.Buffers.{unless_code, buffer_unless}
use Rattle.plan_layout.specs.Layout.{counts_of}
use Rattle.plan.specs.Acceptance.{refusal}
use Rattle.plan.specs.Reading.{plan_length}
use Rattle.plan_reading.specs.Plan.{Plan, plan_of, name_part}
use Rattle.analysis_equations.specs.Sharing.{uses, used_on, global}
use Rattle.analysis_equations.specs.HoldTimes.{hold_time, budget, wait_time}
use Rattle.analysis_equations.specs.Requirement.{asks, admitted}
use Rattle.analysis_requirements.specs.declared.Requirement.{Requirement}
use Rattle.analysis_requirements.specs.Figures.{requirement_of}
use Rattle.machine_rules.specs.Longest.{fellows, longest_wait}
use Rattle.print_lines.specs.Lines.{line_text, refused_line, plan_line}

-- "resource NAME global" or "resource NAME local"
abbrev pub resource_line : List ℕ → ℕ → Bool → List ℕ
resource_line f q shared = line_text (quoted "resource") (name_part f q ∷ cond shared (quoted "global") (quoted "local") ∷ [])

-- "budget K NAME B W": budget and wait time
abbrev pub budget_line : List ℕ → ℕ → ℕ → ℕ → ℕ → List ℕ
budget_line f k q b w = line_text (quoted "budget") (decimal k ∷ name_part f q ∷ decimal b ∷ decimal w ∷ [])

-- "hold TAG NAME H FELLOWS LONGEST": hold time, the number of its processor's other tasks that declare it, longest wait
abbrev pub hold_line : List ℕ → ℕ → ℕ → ℕ → ℕ → ℕ → List ℕ
hold_line f tag q hold count most =
    line_text (quoted "hold") (decimal tag ∷ name_part f q ∷ decimal hold ∷ decimal count ∷ decimal most ∷ [])

-- "requirement TAG B1 B2 TOLERANCE SLACK SIDE met", or "unmet" in the last place
abbrev pub requirement_line : ℕ → Requirement → List ℕ
requirement_line tag r =
    line_text (quoted "requirement")
    (decimal tag ∷ decimal r.blocking1 ∷ decimal r.blocking2 ∷ signed r.tolerance ∷ signed r.slack ∷ decimal r.side
    ∷ cond r.met (quoted "met") (quoted "unmet") ∷ [])

-- "admitted yes" or "admitted no"
abbrev pub admitted_line : Bool → List ℕ
admitted_line ok = line_text (quoted "admitted") (cond ok (quoted "yes") (quoted "no") ∷ [])

module _ (f : List ℕ) where
  abbrev plan : Plan
  plan = plan_of f

  -- of resource q
  abbrev pub resource_at : ℕ → List ℕ
  resource_at q = resource_line f q (global plan q)

  -- "for each resource in order"
  unfoldable pub resource_lines : List ℕ
  resource_lines = text_below plan.resources resource_at

  -- of processor k and resource q: a line where q is global and k uses it
  abbrev pub budget_at : ℕ → ℕ → List ℕ
  budget_at k q = cond (global plan q && used_on plan k q) (budget_line f k q (budget plan k q) (wait_time plan k q)) []

  -- of processor k, "each global resource in order that K uses"
  unfoldable pub budget_lines_of : ℕ → List ℕ
  budget_lines_of k = text_below plan.resources (budget_at k)

  -- "for each processor K in order"
  unfoldable pub budget_lines : List ℕ
  budget_lines = text_below plan.processors budget_lines_of

  -- of task i and resource q: a line where q is global and i has a section on it
  abbrev pub hold_line_at : ℕ → ℕ → List ℕ
  hold_line_at i q =
      cond (global plan q && uses plan i q)
      (hold_line f (plan.task i).tag q (hold_time plan i q) (length (fellows plan i q)) (longest_wait plan i q)) []

  -- of task i, "each global resource in order on which it has a section"
  unfoldable pub hold_lines_of : ℕ → List ℕ
  hold_lines_of i = text_below plan.resources (hold_line_at i)

  -- "for each task in order"
  unfoldable pub hold_lines : List ℕ
  hold_lines = text_below plan.tasks hold_lines_of

  -- of task i: a line where it has a global section
  abbrev pub requirement_at : ℕ → List ℕ
  requirement_at i = cond (asks plan i) (requirement_line (plan.task i).tag (requirement_of plan i)) []

  -- "for each task with a global section in order"
  unfoldable pub requirement_lines : List ℕ
  requirement_lines = text_below plan.tasks requirement_at

  -- the figures: budgets and wait times, hold times and longest waits
  unfoldable pub figure_lines : List ℕ
  figure_lines = budget_lines ++ hold_lines

  -- what comes of them
  unfoldable pub verdict_lines : List ℕ
  verdict_lines = requirement_lines ++ admitted_line (admitted plan)

  -- the sheet of a plan that is accepted
  unfoldable pub plan_sheet : List ℕ
  plan_sheet = plan_line (counts_of f) ++ resource_lines ++ figure_lines ++ verdict_lines

  -- "Each operation given a plan file first gives 1 to 9 as reading does"; then 10, a buffer of n bytes that is too short for the sheet;
  -- else 0
  unfoldable pub sheet_code : ℕ → ℕ
  sheet_code n = unless_code (refusal f) plan_sheet n

  -- the lent buffer afterwards: the sheet at its front and what lies behind as it was; all as it was after a refusal
  unfoldable pub sheet_in : List ℕ → List ℕ
  sheet_in l = buffer_unless (refusal f) plan_sheet l

  -- what is printed for any file: "a refused plan: "refused N", nothing more; else" the sheet
  unfoldable pub sheet_text : List ℕ
  sheet_text = cond (eqb (refusal f) 0) plan_sheet (refused_line (refusal f))

-- no sheet is longer
abbrev pub most_sheet : ℕ
most_sheet = 131072

-- what the program prints: "a plan on standard input (as long as its bytes 14-15 say; what follows is ignored)"
abbrev pub sheet_output : List ℕ → List ℕ
sheet_output input = sheet_text (take (plan_length input) input)
