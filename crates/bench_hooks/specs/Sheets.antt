-- What a datasheet gives, as one number: the refusal in the low byte, the length above it.
use Rattle.std.specs.Prelude.{ℕ, ◌*◌, cond, List, eqb, length}
use Rattle.print_sheet.specs.Sheet.{plan_sheet, sheet_code}

-- of the sheet of a file, for a buffer of n bytes
unfoldable pub sheet_number : List ℕ → ℕ → ℕ
sheet_number f n = cond (eqb (sheet_code f n) 0) (256 * length (plan_sheet f)) (sheet_code f n)
