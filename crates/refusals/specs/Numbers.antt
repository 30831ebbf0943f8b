-- Document 01, "What each operation refuses, in order", and "The printing program", and document 02: the numbers by which operations
-- refuse. 0 stands for no refusal. A definition whose name ends in "Refusal" has the numbers 1 to 9 of the plan in it; one that ends in
-- "Code" has not.
use Rattle.std.specs.Prelude.{ℕ}

-- ── Reading and writing a plan ──

-- 1, fewer than 16 bytes or not the length in bytes 14-15
abbrev pub wrong_length : ℕ
wrong_length = 1

-- 2, edition
abbrev pub wrong_edition : ℕ
wrong_edition = 2

-- 3, a count beyond its range
abbrev pub wrong_count : ℕ
wrong_count = 3

-- 4, an offset not as it must be, or names offset past the end
abbrev pub wrong_offset : ℕ
wrong_offset = 4

-- 5, a task row with processor ≥ P, a field out of range or a spare byte not 0
abbrev pub wrong_task : ℕ
wrong_task = 5

-- 6, a repeated tag, or a priority repeated on a processor
abbrev pub repeated : ℕ
repeated = 6

-- 7, a resource row or name against its rule, or two equal names
abbrev pub wrong_name : ℕ
wrong_name = 7

-- 8, a section with task ≥ N, resource ≥ R or bad length
abbrev pub wrong_section : ℕ
wrong_section = 8

-- 9, sections above C
abbrev pub sections_above : ℕ
sections_above = 9

-- 10, buffer too short
abbrev pub no_room : ℕ
no_room = 10

-- ── Calls and questions ──

-- 11, unknown tag
abbrev pub unknown_tag : ℕ
unknown_tag = 11

-- 12, resource ≥ R
abbrev pub unknown_resource : ℕ
unknown_resource = 12

-- 13, no section of the task on it
abbrev pub undeclared : ℕ
undeclared = 13

-- 14, local
abbrev pub local : ℕ
local = 14

-- 15, the task already holds or waits
abbrev pub already_in_line : ℕ
already_in_line = 15

-- 16, the task does not hold it
abbrev pub not_held : ℕ
not_held = 16

-- 17, no global section
abbrev pub nothing_global : ℕ
nothing_global = 17

-- 18, processor ≥ P
abbrev pub unknown_processor : ℕ
unknown_processor = 18

-- 19, the state is not sound
abbrev pub unsound : ℕ
unsound = 19

-- 23, "the named task is not waiting for that resource" (document 02 §1)
abbrev pub not_waiting : ℕ
not_waiting = 23

-- ── A state that is lent as an image (document 02 §3) ──

-- 24, "the lent state is shorter than the plan's image"
abbrev pub short_image : ℕ
short_image = 24

-- 25, "the image is not sound"
abbrev pub unsound_image : ℕ
unsound_image = 25

-- ── The printing program ──

-- 21, another letter, or T with other bytes
abbrev pub no_call : ℕ
no_call = 21

-- 22, left-over bytes
abbrev pub left_over : ℕ
left_over = 22
