-- The rows below `i` are given, and those from it on are `none`.
use Rattle.std.proofs.Common.{ℕ, get_or, ◌≡◌, ◌<◌, ◌≤◌, length}
use Rattle.folds.proofs.table.Given as goal

abbrev pub invariant-loop-i : goal.invariant-loop-i
invariant-loop-i g l =
    (length l.rows ≡ g.row.N)
    × ((k : ℕ) → k < l.i → goal.F-post g l.row k (get_or l.rows k l.fn.none))
    × ((k : ℕ) → l.i ≤ k → k < g.row.N → get_or l.rows k l.fn.none ≡ l.fn.none)
