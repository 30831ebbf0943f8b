-- A space, and the value of a field that is there.
use Rattle.print_lines.proofs.Fields.{put_spaced}
use Rattle.print_lines.proofs.put_field.Goals as goal

pub returns : goal.returns
returns c = put_spaced c.args.file.now c.args.field c.in_default.not-None c.put-start.ensures c.put_value.ensures
