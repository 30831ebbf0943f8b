-- The fields from the index on are left, and those before stand in the buffer.
use Rattle.std.proofs.Common.{drop}
use Rattle.print_lines.proofs.Fields.{Left}
use Rattle.print_lines.proofs.put_fields.Given as goal

abbrev pub invariant-loop-field : goal.invariant-loop-field
invariant-loop-field l = Left l.file l.fn.buf l.at l.fn.fields l.buf l.end (drop l.field-index l.field-items)
