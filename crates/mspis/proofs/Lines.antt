-- The line of bytes left over is short.
use Rattle.folds.proofs.Ground.{ℕ, ◌≤◌, ◌%◌, Bool, true, false, cond, eqb, [], length, arith}
use Rattle.refusals.specs.Numbers.{left_over}
use Rattle.print_lines.specs.Lines.{most_line, refused_line}
use Rattle.print_calls.specs.Output.{end_line}
use Rattle.streams.proofs.Lines.{refused_short}

pub end_short : (n : ℕ) → length (end_line n) ≤ most_line
unfolding end_line
end_short n = go (eqb (n % 3) 0)
  where
    go : (b : Bool) → length (cond b [] (refused_line left_over)) ≤ most_line
    go true = omega arith
    go false = refused_short left_over
