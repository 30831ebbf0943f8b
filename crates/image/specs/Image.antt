-- Document 02 §3: the image of what a state shows, and the state that an image shows.
use Rattle.std.specs.Prelude.{ℕ, List, [], ◌∷◌, ◌++◌, get_or, drop}
use Rattle.sizes.specs.Sizes.{most_processors, absent}
use Rattle.folds.specs.Bytes.{row_bytes, row_at, bytes_below, placed_below}
use Rattle.plan_reading.specs.Plan.{Plan}
use Rattle.queue_rules.specs.Rules as Rules
use Rattle.queue_rules.specs.Rules.{turn}
use Rattle.machine_rules.specs.Machine.{View}
use Rattle.queue_ranks.specs.Ranks.{list_from}
use Rattle.machine_state.specs.declared.Standing.{Standing}
use Rattle.machine_state.specs.declared.LineRow.{LineRow}
use Rattle.machine_state.specs.declared.State.{State}
use Rattle.machine_state.specs.Shows.{slot, fresh_state, shows}
use Rattle.machine_state.specs.Rows.{line_of, standing_of}
use Rattle.image.specs.Layout.{head_widths, line_widths, standing_widths, line_rows_at, standing_rows_at, image_length}

-- ── the image of what a state shows ──

-- the numbers of the first four bytes
abbrev pub head_numbers : Plan → List ℕ
head_numbers p = p.tasks ∷ p.resources ∷ line_rows_at ∷ standing_rows_at p ∷ []

-- of a resource row, with the holder's task number
abbrev pub line_numbers : LineRow → ℕ → List ℕ
line_numbers l holder = l.queued ∷ holder ∷ l.hold_left ∷ l.budget_left ∷ list_from most_processors 0 (slot l)

-- and of a task row
abbrev pub standing_numbers : Standing → List ℕ
standing_numbers s = s.resource ∷ s.place ∷ []

-- the first four bytes
unfoldable pub head_bytes : Plan → List ℕ
head_bytes p = row_bytes head_widths (head_numbers p)

-- the bytes of a resource row
unfoldable pub line_bytes : LineRow → ℕ → List ℕ
line_bytes l holder = row_bytes line_widths (line_numbers l holder)

-- and of a task row
unfoldable pub standing_bytes : Standing → List ℕ
standing_bytes s = row_bytes standing_widths (standing_numbers s)

-- "the holder's task number": the first task of the head. "255 fills what is absent"
abbrev pub holder_number : Rules.Line → ℕ
holder_number (Rules.line h b []) = absent
holder_number (Rules.line h b (turn k u us ∷ rest)) = u

-- the image of a state that shows these lines: the first bytes, the resource rows, the task rows
unfoldable pub image_of : Plan → View → List ℕ
image_of p s =
    (head_bytes p ++ bytes_below p.resources (λ q. line_bytes (line_of (s.lines q)) (holder_number (s.lines q))))
    ++ bytes_below p.tasks (λ i. standing_bytes (standing_of p s i))

-- lent bytes with it at their front. "Bytes behind the image stay."
abbrev pub image_with : Plan → View → List ℕ → List ℕ
image_with p s b = image_of p s ++ drop (image_length p) b

-- ── the state that an image shows ──

-- a resource row by its numbers, but for the holder's
abbrev pub line_from : List ℕ → LineRow
line_from vs = record { queued = get_or vs 0 0; queue = drop 4 vs; hold_left = get_or vs 2 0; budget_left = get_or vs 3 0 }

-- a task row by its numbers
abbrev pub standing_from : List ℕ → Standing
standing_from vs = record { resource = get_or vs 0 0; place = get_or vs 1 0 }

-- the row of resource q in an image
unfoldable pub line_in : List ℕ → ℕ → LineRow
line_in b q = line_from (row_at line_widths (drop line_rows_at b) q)

-- the holder's number in it
unfoldable pub holder_in : List ℕ → ℕ → ℕ
holder_in b q = get_or (row_at line_widths (drop line_rows_at b) q) 1 0

-- the row of task i
unfoldable pub standing_in : Plan → List ℕ → ℕ → Standing
standing_in p b i = standing_from (row_at standing_widths (drop (standing_rows_at p) b) i)

-- the state: an image has rows for the plan's resources and tasks, and past these a state is as a fresh one
abbrev pub state_in : Plan → List ℕ → State
state_in p b =
    record {
      lines = placed_below p.resources (line_in b) fresh_state.lines;
      tasks = placed_below p.tasks (standing_in p b) fresh_state.tasks;
    }

-- what that shows
abbrev pub shown_in : Plan → List ℕ → View
shown_in p b = shows p (state_in p b)
