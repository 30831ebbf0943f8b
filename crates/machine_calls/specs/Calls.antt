-- Calls as bytes: document 01, "The printing program", and document 02 §1.
use Rattle.std.specs.Prelude.{ℕ, zero, suc, ◌+◌, ◌*◌, ◌-◌, ◌/◌, cond, ◌&&◌, List, [], ◌∷◌, ◌++◌, Option, Some, None, eqb, length, get_or}
use Rattle.folds.specs.Bytes.{number}
use Rattle.machine_rules.specs.declared.Call.{Call}
use Rattle.machine_rules.specs.declared.Call.TheVariants.{Request, Release, GiveUp, Tick}
use Rattle.machine_calls.specs.declared.CallBytes.{CallBytes}

-- "calls of 3 bytes"
abbrev pub call_width : ℕ
call_width = 3

-- "a letter (Q request, R release, T tick), a tag, a resource. After T both are 0", and "the call W (tag, resource)" (02 §1). Anything
-- else is no call
unfoldable pub call_of : (letter tag resource : ℕ) → List Call
call_of letter tag q =
    cond (eqb letter 81) (Request tag q ∷ [])
    (cond (eqb letter 82) (Release tag q ∷ [])
    (cond (eqb letter 87) (GiveUp tag q ∷ [])
    (cond (eqb letter 84 && (eqb tag 0 && eqb q 0)) (Tick ∷ []) [])))

-- the calls that a decoding gives
abbrev pub decoded_calls : Option Call → List Call
decoded_calls (Some c) = c ∷ []
decoded_calls None = []

-- the tag in a call of w bytes that begins at `at`: all but the first byte and the last, low byte first
unfoldable pub tag_at : (w : ℕ) → List ℕ → (at : ℕ) → ℕ
tag_at w l at = number (w - 2) l (at + 1)

-- its letter, its tag and its resource
abbrev pub bytes_at : (w : ℕ) → List ℕ → (at : ℕ) → CallBytes
bytes_at w l at = record { letter = get_or l at 0; tag = tag_at w l at; resource = get_or l (at + (w - 1)) 0 }

-- the call in these, where they are one
abbrev pub call_in : CallBytes → List Call
call_in b = call_of b.letter b.tag b.resource

-- the call of w bytes that begins at `at`
abbrev pub call_at : (w : ℕ) → List ℕ → (at : ℕ) → List Call
call_at w l at = call_in (bytes_at w l at)

-- the first n calls of w bytes
unfoldable pub calls_below : (w n : ℕ) → List ℕ → List Call
calls_below w zero l = []
calls_below w (suc n) l = calls_below w n l ++ call_at w l (n * w)

-- the calls of w bytes in these; bytes left over are no call
abbrev pub calls_of : (w : ℕ) → List ℕ → List Call
calls_of w l = calls_below w (length l / w) l
