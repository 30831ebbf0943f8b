-- The word of each answer as a sum: what stands in byte k counts 256 ^ k. And what C reads in its bytes.
use Prim.Native.Nat.{ℕ, ◌+◌, ◌*◌, ◌/◌, ◌%◌, ◌<◌}
use mathlib.Core.Path.{◌≡◌, refl}
use native.Mathlib.Omega.{arith}
use Rattle.folds.specs.Bytes.{number, digits, row_bytes}
use Rattle.machine_rules.specs.declared.Answer.TheVariants.{Granted, Waits, Next, Free, Left, Ticked, Refused}
use Rattle.mspis_c.specs.Words.{word_of}

pub word_granted : 0 ≡ word_of Granted
unfolding word_of number digits row_bytes
word_granted = refl

pub word_waits : (ahead most : ℕ) → 256 + 65536 * ahead + 16777216 * most ≡ word_of (Waits ahead most)
unfolding word_of number digits row_bytes
word_waits ahead most = omega arith

pub word_next : (tag : ℕ) → 256 + 65536 * tag ≡ word_of (Next tag)
unfolding word_of number digits row_bytes
word_next tag = omega arith

pub word_free : 0 ≡ word_of Free
unfolding word_of number digits row_bytes
word_free = refl

pub word_left : 0 ≡ word_of Left
unfolding word_of number digits row_bytes
word_left = refl

pub word_ticked : (cuts grants : ℕ) → 256 * cuts + 16777216 * grants ≡ word_of (Ticked cuts grants)
unfolding word_of number digits row_bytes
word_ticked cuts grants = omega arith

pub word_refused : (code : ℕ) → code ≡ word_of (Refused code)
unfolding word_of number digits row_bytes
word_refused code = omega arith

-- The fields as include/mspis.h takes them out, of answers in their types' ranges: byte 0, byte 1, byte 2, bytes 3 to 6
pub waits_fields : (ahead most w : ℕ) → ahead < 256 → most < 4294967296 → w ≡ word_of (Waits ahead most)
    → (w % 256 ≡ 0) × (w / 256 % 256 ≡ 1) × (w / 65536 % 256 ≡ ahead) × (w / 16777216 % 4294967296 ≡ most)
unfolding word_of number digits row_bytes
waits_fields ahead most w a m e = (omega arith, omega arith, omega arith, omega arith)

-- byte 0, byte 1, bytes 2 and 3
pub next_fields : (tag w : ℕ) → tag < 65536 → w ≡ word_of (Next tag) → (w % 256 ≡ 0) × (w / 256 % 256 ≡ 1) × (w / 65536 % 65536 ≡ tag)
unfolding word_of number digits row_bytes
next_fields tag w t e = (omega arith, omega arith, omega arith)

-- byte 0, bytes 1 and 2, bytes 3 and 4
pub ticked_fields : (cuts grants w : ℕ) → cuts < 65536 → grants < 65536 → w ≡ word_of (Ticked cuts grants)
    → (w % 256 ≡ 0) × (w / 256 % 65536 ≡ cuts) × (w / 16777216 % 65536 ≡ grants)
unfolding word_of number digits row_bytes
ticked_fields cuts grants w c g e = (omega arith, omega arith, omega arith)

-- byte 0, and nothing else
pub refused_fields : (code w : ℕ) → code < 256 → w ≡ word_of (Refused code) → (w % 256 ≡ code) × (w / 256 ≡ 0)
unfolding word_of number digits row_bytes
refused_fields code w c e = (omega arith, omega arith)
