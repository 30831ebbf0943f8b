-- Document 01, "What each operation refuses, in order": the checks of a plan file, 1 to 9.
use Rattle.std.specs.Prelude.{ℕ, cond, List, ltb, eqb, length}
use Rattle.refusals.specs.Numbers.{wrong_length, wrong_edition, wrong_count, wrong_offset}
use Rattle.plan_rules.specs.Rules.{counts_ok}
use Rattle.plan_layout.specs.Editions.{known, header_length}
use Rattle.plan_layout.specs.Layout.{counts_of, length_said, offsets_ok, file_code, names_of}

-- 2, edition; 3, a count beyond its range; 4, an offset
unfoldable pub counts_code : List ℕ → ℕ
counts_code f =
    cond (known (counts_of f).edition)
    (cond (counts_ok (counts_of f)) (cond (offsets_ok (counts_of f) f) 0 wrong_offset) wrong_count)
    wrong_edition

-- 1, fewer bytes than every header has, or not the length that the header says; then these
unfoldable pub header_code : List ℕ → ℕ
header_code f =
    cond (ltb (length f) header_length) wrong_length (cond (eqb (length_said f) (length f)) (counts_code f) wrong_length)

-- 5, a task row; 6, a repeated tag, or a priority repeated on a processor; 7, a resource row or name, or two equal names;
-- 8, a section; 9, sections above C
abbrev pub rows_code : List ℕ → ℕ
rows_code f = file_code (counts_of f) f (names_of f)

-- the first of checks 1 to 9 that a file fails, 0 for none: each check is made over the whole file before the next
unfoldable pub check_code : List ℕ → ℕ
check_code f = cond (eqb (header_code f) 0) (rows_code f) (header_code f)
