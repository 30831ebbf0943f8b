-- Laws of what is put at the front of a lent buffer: one part behind the other, and rows one after the other.
use Rattle.folds.proofs.Ground.{ℕ, ◌+◌, ◌-◌, ◌*◌, ◌<◌, ◌≤◌, ◌≡◌, refl, ap, ◌∙◌, List, ◌++◌, length, take, drop, length-append, zero-mul, arith}
use Rattle.folds.specs.Bytes.{bytes_below}
use Rattle.folds.proofs.Parts.{put_part, put_length, bytes_length, bytes_step}

-- m is l with the o bytes of x at its front
pub record Front (x : List ℕ) (o : ℕ) (l m : List ℕ) : Type 0 where
  pub size : length x ≡ o
  pub bytes : m ≡ x ++ drop o l
  pub kept : length m ≡ length l

pub put_front : {x l m : List ℕ} {o : ℕ} → m ≡ x ++ drop o l → length x ≡ o → o ≤ length l → Front x o l m
put_front {x} {l} {m} {o} e s h = record { size = s; bytes = e; kept = ap length e ∙ put_length x l o s h }

-- a call was lent `&mut m[o..]` and put x at the front of it
pub part_more : {a l m y : List ℕ} {o : ℕ} (x : List ℕ) (k p : ℕ) → Front a o l m → y ≡ x ++ drop k (take (length m - o) (drop o m))
    → length x ≡ k → o + k ≡ p → p ≤ length l → Front (a ++ x) p l (take o m ++ (y ++ drop (length m - o) (drop o m)))
part_more {a} {l} {m} {y} {o} x k p f q s e h =
    put_front (rw (← e) (put_part a x l m y o k f.size s f.bytes q)) (length-append a x ∙ omega (arith, f.size)) h

-- and x was n rows of w bytes
pub rows_part : {a l m y : List ℕ} {o : ℕ} (w : ℕ) (f : ℕ → List ℕ) → ((k : ℕ) → length (f k) ≡ w) → (n p : ℕ) → Front a o l m
    → y ≡ bytes_below n f ++ drop (n * w) (take (length m - o) (drop o m)) → o + n * w ≡ p → p ≤ length l
    → Front (a ++ bytes_below n f) p l (take o m ++ (y ++ drop (length m - o) (drop o m)))
rows_part w f each n p g q e h = part_more (bytes_below n f) (n * w) p g q (bytes_length w f each n) e h

-- i of n rows of w bytes are put at the front
pub record Rowed (n w : ℕ) (f : ℕ → List ℕ) (l m : List ℕ) (i : ℕ) : Type 0 where
  pub below : i ≤ n
  pub front : Front (bytes_below i f) (i * w) l m

module _ {n w : ℕ} {f : ℕ → List ℕ} {l : List ℕ} where
  pub rows_none : Rowed n w f l l 0
  unfolding bytes_below
  rows_none = record { below = omega arith; front = rw zero-mul (put_front refl refl (omega arith)) }

  -- a call was lent the rest, and put row i at the front of it
  pub rows_more : {m y : List ℕ} {i : ℕ} → ((k : ℕ) → length (f k) ≡ w) → Rowed n w f l m i → y ≡ f i ++ drop w (take (length m - i * w) (drop (i * w) m))
      → i < n → (i + 1) * w ≤ length l → Rowed n w f l (take (i * w) m ++ (y ++ drop (length m - i * w) (drop (i * w) m))) (i + 1)
  rows_more {m} {y} {i} each p q h room =
      record { below = omega arith; front = put_front (bytes_step w f each i l m y p.front.bytes q) (bytes_length w f each (i + 1)) room }

  pub rows_all : {m : List ℕ} {i : ℕ} → Rowed n w f l m i → n ≤ i → m ≡ bytes_below n f ++ drop (n * w) l
  rows_all {m} {i} p h = let e : i ≡ n = omega arith in rw (← e) p.front.bytes
