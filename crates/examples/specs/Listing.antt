-- Document 01, "The printing program": the listing's input as bytes, and what it prints.
use Rattle.std.specs.Prelude.{ℕ, List, [], ◌∷◌, ◌++◌}
use Rattle.print_text.specs.Text.{quoted}

-- "Plan: 2 processors, tasks of tag 10 (processor 0) and 20 (processor 1), resource "bus", sections of 2 and 3 ticks." Priorities,
-- periods and execution times are free: here 1, 50 and 5
unfoldable pub listing_plan : List ℕ
listing_plan =
    1 ∷ 2 ∷ 2 ∷ 1 ∷ 2 ∷ 0 ∷ 16 ∷ 0 ∷ 32 ∷ 0 ∷ 36 ∷ 0 ∷ 44 ∷ 0 ∷ 47 ∷ 0
    ∷ 0 ∷ 10 ∷ 1 ∷ 0 ∷ 50 ∷ 0 ∷ 5 ∷ 0
    ∷ 1 ∷ 20 ∷ 1 ∷ 0 ∷ 50 ∷ 0 ∷ 5 ∷ 0
    ∷ 0 ∷ 0 ∷ 3 ∷ 0
    ∷ 0 ∷ 0 ∷ 2 ∷ 0
    ∷ 1 ∷ 0 ∷ 3 ∷ 0
    ∷ quoted "bus"

-- "Calls Q 20, Q 10, T, T, T, R 20, R 10 (all on resource 0)"
unfoldable pub listing_calls : List ℕ
listing_calls =
    81 ∷ 20 ∷ 0 ∷ 81 ∷ 10 ∷ 0 ∷ 84 ∷ 0 ∷ 0 ∷ 84 ∷ 0 ∷ 0 ∷ 84 ∷ 0 ∷ 0 ∷ 82 ∷ 20 ∷ 0 ∷ 82 ∷ 10 ∷ 0 ∷ []

-- what they print
unfoldable pub listing_text : List ℕ
listing_text =
    quoted "plan 2 2 1 2\n" ++ quoted "granted 20 bus\n" ++ quoted "waits 10 bus 0 3\n" ++ quoted "tick 0 0\n" ++ quoted "tick 0 0\n"
    ++ quoted "tick 1 1\n" ++ quoted "refused 16\n" ++ quoted "released 10 bus free\n"
