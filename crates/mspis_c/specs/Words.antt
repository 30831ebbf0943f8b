-- Document 02 §3: what each function for C returns: "64 bits, from the low byte up: the refusal or 0; after a request 1 if it waits, the
-- number ahead, the limit (4); after a release 1 if a tag (2) follows; after a tick its two words; the rest 0."
use Rattle.std.specs.Prelude.{ℕ, List, [], ◌∷◌}
use Rattle.folds.specs.Bytes.{number, row_bytes}
use Rattle.machine_rules.specs.declared.Answer.{Answer}
use Rattle.machine_rules.specs.declared.Answer.TheVariants.{Granted, Waits, Next, Free, Left, Ticked, Refused}

-- the eight bytes for each answer, by the widths of their fields
abbrev pub word_bytes : Answer → List ℕ
word_bytes Granted = row_bytes (1 ∷ 1 ∷ 6 ∷ []) (0 ∷ 0 ∷ 0 ∷ [])
word_bytes (Waits ahead most) = row_bytes (1 ∷ 1 ∷ 1 ∷ 4 ∷ 1 ∷ []) (0 ∷ 1 ∷ ahead ∷ most ∷ 0 ∷ [])
word_bytes (Next tag) = row_bytes (1 ∷ 1 ∷ 2 ∷ 4 ∷ []) (0 ∷ 1 ∷ tag ∷ 0 ∷ [])
word_bytes Free = row_bytes (1 ∷ 1 ∷ 6 ∷ []) (0 ∷ 0 ∷ 0 ∷ [])
word_bytes Left = row_bytes (1 ∷ 7 ∷ []) (0 ∷ 0 ∷ [])
word_bytes (Ticked cuts grants) = row_bytes (1 ∷ 2 ∷ 2 ∷ 3 ∷ []) (0 ∷ cuts ∷ grants ∷ 0 ∷ [])
word_bytes (Refused code) = row_bytes (1 ∷ 7 ∷ []) (code ∷ 0 ∷ [])

-- the word
unfoldable pub word_of : Answer → ℕ
word_of a = number 8 (word_bytes a) 0
