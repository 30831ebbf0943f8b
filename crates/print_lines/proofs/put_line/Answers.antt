-- The word, the fields, the end.
use Rattle.print_lines.proofs.Ground.{length, arith, put_in, put_in_then}
use Rattle.print_lines.proofs.put_line.Goals as goal

pub returns : goal.returns
returns c =
    let word = put_in (length c.args.word.now) c.put-a.ensures (omega arith) in
    put_in_then (put_in_then word c.put_fields-b.ensures) (put_in 1 c.put.ensures (omega arith))
