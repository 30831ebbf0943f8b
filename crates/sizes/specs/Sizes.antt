-- Document 01, "The plan file": the greatest counts of a plan, which are the lengths of arrays and tables.
use Rattle.std.specs.Prelude.{ℕ}

-- "processors P, 1 to 8"
abbrev pub most_processors : ℕ
most_processors = 8

-- "tasks N, 1 to 64"
abbrev pub most_tasks : ℕ
most_tasks = 64

-- "resources R, 1 to 16"
abbrev pub most_resources : ℕ
most_resources = 16

-- "sections S, 0 to 255"
abbrev pub most_sections : ℕ
most_sections = 255

-- the bytes of a name: "its length 1 to 12"
abbrev pub most_name_bytes : ℕ
most_name_bytes = 12

-- "length 1 to 1,000 ticks"
abbrev pub most_section_ticks : ℕ
most_section_ticks = 1000

-- what stands for no processor, no resource and no place in a state
abbrev pub absent : ℕ
absent = 255
