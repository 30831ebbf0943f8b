-- The figures below `q` of the row are put down.
use Rattle.analysis_hold_times.proofs.Ground.{ℕ, ◌<◌, ◌≡◌, ◌&&◌, cond, eqb, ltb, get_or, cell}
use Rattle.analysis_hold_times.proofs.set_row.Given as goal

abbrev pub invariant-loop-q : goal.invariant-loop-q
invariant-loop-q l =
    (j x : ℕ) → x < 16 → get_or l.table (cell j x) 0 ≡ cond (eqb j l.i && ltb x l.q) (get_or l.fn.row x 0) (get_or l.fn.table (cell j x) 0)
