-- What a lent buffer holds once a text has been handed over to it, and why it may not be.
use Rattle.std.specs.Prelude.{ℕ, cond, List, ◌++◌, leb, eqb, length, drop}
use Rattle.refusals.specs.Numbers.{no_room}

-- why a text is refused by a buffer of n bytes: 10, buffer too short, or 0 for not at all
unfoldable pub handed_code : List ℕ → ℕ → ℕ
handed_code text n = cond (leb (length text) n) 0 no_room

-- the text at the front of the buffer, and what lies behind as it was; the whole buffer as it was where it is too short
unfoldable pub buffer_with : List ℕ → List ℕ → List ℕ
buffer_with text l = cond (leb (length text) (length l)) (text ++ drop (length text) l) l

-- where something comes before the 10: the number of it, or the same where that number is 0
unfoldable pub unless_code : ℕ → List ℕ → ℕ → ℕ
unless_code code text n = cond (eqb code 0) (handed_code text n) code

-- the buffer then: as it was after that number too
unfoldable pub buffer_unless : ℕ → List ℕ → List ℕ → List ℕ
buffer_unless code text l = cond (eqb code 0) (buffer_with text l) l
