-- Document 02 §3, "The firmware in C keeps the machine": where things stand in the image of a state. A row is told by the widths of its
-- fields. "Numbers are low byte first."
use Rattle.std.specs.Prelude.{ℕ, ◌+◌, ◌*◌, List, [], ◌∷◌}
use Rattle.folds.specs.Bytes.{width}
use Rattle.plan_reading.specs.Plan.{Plan}

-- "bytes 0 to 3 are N, R, and the offsets of the resource rows (4) and of the task rows"
abbrev pub head_widths : List ℕ
head_widths = 1 ∷ 1 ∷ 1 ∷ 1 ∷ []

-- "A resource row of 14 bytes holds the number of queued processors, the holder's task number, hold left (2), budget left (2), and eight
-- processors in queue order"
abbrev pub line_widths : List ℕ
line_widths = 1 ∷ 1 ∷ 2 ∷ 2 ∷ 1 ∷ 1 ∷ 1 ∷ 1 ∷ 1 ∷ 1 ∷ 1 ∷ 1 ∷ []

-- "a task row of 2 bytes holds its resource and its place in its task queue, from 0"
abbrev pub standing_widths : List ℕ
standing_widths = 1 ∷ 1 ∷ []

-- where the resource rows begin
abbrev pub line_rows_at : ℕ
line_rows_at = width head_widths

-- and the task rows
abbrev pub standing_rows_at : Plan → ℕ
standing_rows_at p = line_rows_at + p.resources * width line_widths

-- the length of a plan's image
abbrev pub image_length : Plan → ℕ
image_length p = standing_rows_at p + p.tasks * width standing_widths
