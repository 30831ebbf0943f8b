-- Text as bytes: what is quoted, and numbers in decimal; and what a lent buffer holds once text has been put into it.
use Rattle.std.specs.Prelude.{ℕ, zero, suc, ◌+◌, ◌-◌, ◌*◌, ◌/◌, ◌%◌, ◌≤◌, cond, List, [], ◌∷◌, ◌++◌, ◌≡◌, ltb, ℤ, pos, negsuc, length, take, drop}
use Prim.Native.String.{String, len, char_at}
use Prim.Native.Char.{code}

-- the codes of the first n characters of a quoted text
abbrev pub quoted_to : ℕ → String → List ℕ
quoted_to zero s = []
quoted_to (suc n) s = quoted_to n s ++ (code (char_at s n) ∷ [])

-- a quoted text, a byte for each character
abbrev pub quoted : String → List ℕ
quoted s = quoted_to (len s) s

-- how many digits a number has in decimal, at most k + 1
unfoldable pub places_to : ℕ → ℕ → ℕ
places_to zero n = 1
places_to (suc k) n = cond (ltb n 10) 1 (suc (places_to k (n / 10)))

-- the last k digits of a number, from the highest down
unfoldable pub decimals : ℕ → ℕ → List ℕ
decimals zero n = []
decimals (suc k) n = decimals k (n / 10) ++ ((48 + n % 10) ∷ [])

-- the most digits of a number of 64 bits
abbrev pub most_digits : ℕ
most_digits = 20

-- the most bytes of a signed one, which may have a minus
abbrev pub most_signed : ℕ
most_signed = suc most_digits

-- a number of 64 bits in decimal, with no zero before it
abbrev pub decimal : ℕ → List ℕ
decimal n = decimals (places_to (most_digits - 1) n) n

-- a whole number in decimal, with a minus before one below zero: `negsuc n` is -(n + 1)
abbrev pub signed : ℤ → List ℕ
signed (pos n) = decimal n
signed (negsuc n) = quoted "-" ++ decimal (suc n)

-- the texts of the numbers below n, one after the other
unfoldable pub text_below : ℕ → (ℕ → List ℕ) → List ℕ
text_below zero text = []
text_below (suc n) text = text_below n text ++ text n

-- the number that a text of digits says, read from left to right after `so` has been read; `decimal` is held to it by the laws
-- `decimal_value`, `decimal_digit` and `decimal_first`
unfoldable pub value_from : ℕ → List ℕ → ℕ
value_from so [] = so
value_from so (d ∷ text) = value_from (so * 10 + (d - 48)) text

-- the number that a text of digits says
abbrev pub value_of : List ℕ → ℕ
value_of text = value_from 0 text

-- a buffer that held `before` holds `now` once `text` has been put at `at`; what lies before and behind it is as it was, and it
-- ends at `end`
pub record Put (before now : List ℕ) (at : ℕ) (text : List ℕ) (end : ℕ) : Type 0 where
  pub held : now ≡ take at before ++ (text ++ drop (at + length text) before)
  pub ends : end ≡ at + length text

-- the same, of a text that takes at most `room` bytes
pub record PutIn (before now : List ℕ) (at room : ℕ) (text : List ℕ) (end : ℕ) : Type 0 where
  pub put : Put before now at text end
  pub within : end ≤ at + room
