-- The rows of an image: what is put into bytes is what is read there, once over the number of a row.
use Rattle.image.proofs.Ground.{ℕ, ◌+◌, ◌*◌, ◌<◌, true, ◌≡◌, refl, sym, ap, ap₂, ◌∙◌, List, ◌++◌, append_assoc, length, drop, drop_at}
use Rattle.image.proofs.Ground.{length-append, arith, eq-eqb, bytes_below, row_at, row_bytes, digits, width, bytes_length, row_length}
use Rattle.image.proofs.Ground.{rows_back, solid, most_processors, Plan, list_from, list_get, list_same, LineRow, Standing}
use Rattle.image.proofs.Ground.{slot, slot_of, line_of, line_widths, standing_widths, line_rows_at, standing_rows_at, image_length, head_numbers}
use Rattle.image.proofs.Ground.{line_numbers, standing_numbers, line_from, head_bytes, line_bytes, standing_bytes, counts_fit, head_widths}
use Rattle.image.proofs.Ground.{◌-◌, take, drop-drop, fields, part_rest}
use Rattle.queue_rules.specs.Rules as Rules

-- how long the parts are
pub head_length : (p : Plan) → length (head_bytes p) ≡ line_rows_at
unfolding head_bytes
head_length p = row_length head_widths (head_numbers p)

pub line_length : (l : LineRow) (holder : ℕ) → length (line_bytes l holder) ≡ width line_widths
unfolding line_bytes
line_length l holder = row_length line_widths (line_numbers l holder)

pub standing_length : (s : Standing) → length (standing_bytes s) ≡ width standing_widths
unfolding standing_bytes
standing_length s = row_length standing_widths (standing_numbers s)

-- an image of these rows, with r behind it
module _ (p : Plan) (ls : ℕ → LineRow) (hs : ℕ → ℕ) (ts : ℕ → Standing) (r : List ℕ) where
  abbrev pub line_rows : List ℕ
  line_rows = bytes_below p.resources (λ q. line_bytes (ls q) (hs q))

  abbrev pub standing_rows : List ℕ
  standing_rows = bytes_below p.tasks (λ i. standing_bytes (ts i))

  abbrev pub laid : List ℕ
  laid = ((head_bytes p ++ line_rows) ++ standing_rows) ++ r

  lines_long : length line_rows ≡ p.resources * width line_widths
  lines_long = bytes_length (width line_widths) (λ q. line_bytes (ls q) (hs q)) (λ q. line_length (ls q) (hs q)) p.resources

  before_long : length (head_bytes p ++ line_rows) ≡ standing_rows_at p
  before_long = length-append (head_bytes p) line_rows ∙ ap₂ ◌+◌ (head_length p) lines_long

  pub rows_long : length ((head_bytes p ++ line_rows) ++ standing_rows) ≡ image_length p
  rows_long =
      length-append (head_bytes p ++ line_rows) standing_rows
      ∙ ap₂ ◌+◌ before_long (bytes_length (width standing_widths) (λ i. standing_bytes (ts i)) (λ i. standing_length (ts i)) p.tasks)

  from_lines : drop line_rows_at laid ≡ line_rows ++ (standing_rows ++ r)
  from_lines =
      ap (λ (l : List ℕ). drop line_rows_at l)
      (append_assoc (head_bytes p ++ line_rows) standing_rows r ∙ append_assoc (head_bytes p) line_rows (standing_rows ++ r))
      ∙ drop_at (head_bytes p) (line_rows ++ (standing_rows ++ r)) line_rows_at (head_length p)

  from_standings : drop (standing_rows_at p) laid ≡ standing_rows ++ r
  from_standings =
      ap (λ (l : List ℕ). drop (standing_rows_at p) l) (append_assoc (head_bytes p ++ line_rows) standing_rows r)
      ∙ drop_at (head_bytes p ++ line_rows) (standing_rows ++ r) (standing_rows_at p) before_long

  pub line_back : (q : ℕ) → q < p.resources → row_at line_widths (drop line_rows_at laid) q ≡ line_numbers (ls q) (hs q)
  unfolding line_bytes solid list_from
  line_back q l =
      ap (λ (s : List ℕ). row_at line_widths s q) from_lines
      ∙ rows_back line_widths (λ k. line_numbers (ls k) (hs k)) p.resources q (standing_rows ++ r) refl refl l

  pub standing_back : (i : ℕ) → i < p.tasks → row_at standing_widths (drop (standing_rows_at p) laid) i ≡ standing_numbers (ts i)
  unfolding standing_bytes solid
  standing_back i l =
      ap (λ (s : List ℕ). row_at standing_widths s i) from_standings
      ∙ rows_back standing_widths (λ k. standing_numbers (ts k)) p.tasks i r refl refl l

  pub head_back : counts_fit p laid ≡ true
  unfolding counts_fit head_bytes row_bytes digits
  head_back =
      rw (eq-eqb p.tasks p.tasks refl, eq-eqb p.resources p.resources refl, eq-eqb (standing_rows_at p) (standing_rows_at p) refl)

-- the numbers of a row that lines tell are read as that row
pub line_same : (l : Rules.Line) (holder : ℕ) → line_from (line_numbers (line_of l) holder) ≡ line_of l
line_same (Rules.line h b queue) holder =
    ap (λ (s : List ℕ). record { queued = length queue; queue = s; hold_left = h; budget_left = b })
    (list_same most_processors 0 (slot (line_of (Rules.line h b queue))) (slot_of queue)
    (λ j a l. list_get most_processors 0 j j (slot_of queue) 0 (omega arith) (omega arith)))

-- the part that begins at row i of rows that begin at `from`
pub row_part : (ws s : List ℕ) (from i : ℕ)
    → fields ws (take (length s - (from + i * width ws)) (drop (from + i * width ws) s)) 0 ≡ row_at ws (drop from s) i
unfolding row_at
row_part ws s from i = ap (λ (l : List ℕ). fields ws l 0) (part_rest (from + i * width ws) s ∙ sym (drop-drop (i * width ws) from s))
