-- A turn of a loop that puts row i behind those below it.
use Rattle.image.proofs.Ground.{ℕ, ◌+◌, ◌-◌, ◌*◌, ◌<◌, ◌≤◌, ◌≡◌, sym, List, ◌++◌, append_assoc, length, take, drop, drop_at, drop-drop, arith}
use Rattle.image.proofs.Ground.{bytes_below, bytes_length, Rowed, put_front}
use Rattle.folds.proofs.Ground.{take_at, add-one, suc-mul}

row_room : (i n w : ℕ) → i < n → (i + 1) * w ≤ n * w
row_room i n w h = grind arith

module _ {n w : ℕ} {f : ℕ → List ℕ} {l m y : List ℕ} {i : ℕ} where
  pub rows_put : ((j : ℕ) → length (f j) ≡ w) → n * w ≤ length l → Rowed n w f l m i → i < n → y ≡ f i
      → Rowed n w f l (take (i * w) m ++ (y ++ drop ((i + 1) * w - i * w) (drop (i * w) m))) (i + 1)
  unfolding bytes_below
  rows_put each room p h q =
      let a : List ℕ = bytes_below i f in
      let long : length a ≡ i * w = bytes_length w f each i in
      let t : take (i * w) m ≡ a = rw p.front.bytes (take_at a (drop (i * w) l) (i * w) long) in
      let d : drop (i * w) m ≡ drop (i * w) l = rw p.front.bytes (drop_at a (drop (i * w) l) (i * w) long) in
      let s : (i + 1) * w ≡ i * w + w = rw add-one (omega (arith, suc-mul i w)) in
      let e : (i + 1) * w - i * w ≡ w = omega (arith, s) in
      record {
        below = omega arith;
        front = put_front (rw (t, d, q, e, drop-drop, s, add-one) (sym (append_assoc a (f i) (drop (i * w + w) l)))) (bytes_length w f each (i + 1))
            (omega (arith, row_room i n w h));
      }
