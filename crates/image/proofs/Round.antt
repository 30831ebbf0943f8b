-- The other way round: what is loaded from a sound image and stored again is the same bytes; so two images that show the same are the same.
-- And the image of a sound state is sound.
use Rattle.image.proofs.Ground.{ℕ, ◌+◌, ◌*◌, ◌<◌, ◌≤◌, Bool, true, cond, ◌&&◌, ◌||◌, ◌≡◌, refl, sym, ap, ap₂, ◌∙◌, List, ◌∷◌, ◌++◌, eqb}
use Rattle.image.proofs.Ground.{length, get_or, take, drop, length-drop, arith, eqb-true, and_parts, all_at}
use Rattle.image.proofs.Ground.{by_eq, all_below, bytes_below, row_at, row_bytes, fields, number, width, Bytes, rows_forth}
use Rattle.image.proofs.Ground.{most_processors, most_tasks, most_resources, absent, Plan, Valid, list_from, list_same, LineRow}
use Rattle.image.proofs.Ground.{slot, rank, shows, sound, holder_of, line_of, standing_of, SameRow, line_at_lem, standing_at, rows_told}
use Rattle.image.proofs.Ground.{head_widths, line_widths, standing_widths, line_rows_at, standing_rows_at, image_length, line_numbers}
use Rattle.image.proofs.Ground.{standing_numbers, holder_number, image_with, image_of, head_bytes, line_bytes, standing_bytes, state_in, shown_in}
use Rattle.image.proofs.Ground.{line_in, holder_in, standing_in, counts_fit, filled, absent_filled, free_filled, task_filled, place_fits}
use Rattle.image.proofs.Ground.{holder_fits, image_sound}
use Rattle.folds.proofs.Ground.{[], not, get_or-drop, take-add, take-append-drop}
use Rattle.folds.proofs.Parts.{bytes_same}
use Rattle.folds.proofs.RowLaws.{fields_forth}
use Rattle.image.proofs.Holding.{holder_ranked}
use Rattle.image.proofs.Tested.{line_loaded, standing_loaded}

-- the bytes of a row in an image are those of the numbers read there
line_read : (b : List ℕ) (q : ℕ) → line_numbers (line_in b q) (holder_in b q) ≡ row_at line_widths (drop line_rows_at b) q
unfolding line_in holder_in row_at fields list_from
line_read b q = refl

standing_read : (p : Plan) (b : List ℕ) (i : ℕ) → standing_numbers (standing_in p b i) ≡ row_at standing_widths (drop (standing_rows_at p) b) i
unfolding standing_in row_at fields
standing_read p b i = refl

-- rows that agree in what the struct has room for have the same bytes
pub same_bytes_lem : (a c : LineRow) (h k : ℕ) → SameRow a c → h ≡ k → line_bytes a h ≡ line_bytes c k
unfolding line_bytes
same_bytes_lem a c h k e f =
    ap (row_bytes line_widths)
    (ap₂ (λ (x y : ℕ). x ∷ y ∷ a.hold_left ∷ a.budget_left ∷ list_from most_processors 0 (slot a)) e.queued f
    ∙ ap₂ (λ (x y : ℕ). c.queued ∷ k ∷ x ∷ y ∷ list_from most_processors 0 (slot a)) e.hold e.budget
    ∙ ap (λ (l : List ℕ). c.queued ∷ k ∷ c.hold_left ∷ c.budget_left ∷ l)
    (list_same most_processors 0 (slot a) (slot c) (λ j x l. e.slots j (omega arith))))

module _ (p : Plan) (v : Valid p) (b : List ℕ) (h : image_sound p b ≡ true) where
  -- the parts of the definition
  record Parts : Type 0 where
    counts : counts_fit p b ≡ true
    free : (q : ℕ) → q < p.resources → free_filled p b q ≡ true
    held : (q : ℕ) → q < p.resources → holder_fits p b q ≡ true
    state : sound p (state_in p b) ≡ true

  parts : Parts
  unfolding image_sound
  parts =
      let x = and_parts (counts_fit p b && filled p b) _ h in
      let y = and_parts (counts_fit p b) (filled p b) x.0 in
      let f = and_parts (all_below p.resources (λ q. absent_filled p b q && free_filled p b q)) (all_below p.tasks (task_filled p b)) y.1 in
      let z = and_parts (all_below p.tasks (place_fits p b)) _ x.1 in
      let g = and_parts (all_below p.resources (holder_fits p b)) (sound p (state_in p b)) z.1 in
      record {
        counts = y.0;
        free = λ q l. (and_parts (absent_filled p b q) (free_filled p b q)
            (all_at p.resources q (λ q. absent_filled p b q && free_filled p b q) f.0 l)).1;
        held = λ q l. all_at p.resources q (holder_fits p b) g.0 l;
        state = g.1;
      }

  pub image_state : sound p (state_in p b) ≡ true
  image_state = parts.state

  -- the row of a resource in an image is that of the line that it shows: how many processors are queued and which, hold and budget left
  pub row_shown : (q : ℕ) → q < p.resources → SameRow (line_of ((shown_in p b).lines q)) (line_in b q)
  row_shown q l =
      let c : q < most_resources = omega (arith, v.resources) in
      let e = (rows_told p v (state_in p b) parts.state).lines q c in
      let f : SameRow (line_in b q) (line_of ((shown_in p b).lines q)) = rw (line_loaded p v b q l, line_at_lem p (shown_in p b) q c) at e in
      record { queued = sym f.queued; slots = λ j a. sym (f.slots j a); hold = sym f.hold; budget = sym f.budget }

  -- and the holder's number is that of its holder
  pub holder_shown : (q : ℕ) → q < p.resources → holder_number ((shown_in p b).lines q) ≡ holder_in b q
  unfolding shows
  holder_shown q l =
      let R = rank p (state_in p b).tasks q in
      rw (line_loaded p v b q l)
      (holder_ranked p.tasks R (slot (line_in b q)) (line_in b q).queued (line_in b q).hold_left (line_in b q).budget_left
      ∙ by_eq (λ (z : Bool). (not z || (eqb (holder_in b q) absent && eqb (line_in b q).hold_left 0 && eqb (line_in b q).budget_left 0)) ≡ true
      → (z || eqb (holder_in b q) (holder_of p (state_in p b).tasks q (line_in b q))) ≡ true
      → cond z absent (holder_of p (state_in p b).tasks q (line_in b q)) ≡ holder_in b q) (line_in b q).queued 0
      (λ e f g. sym (eqb-true _ _ (and_parts (eqb (holder_in b q) absent) (eqb (line_in b q).hold_left 0)
      (and_parts (eqb (holder_in b q) absent && eqb (line_in b q).hold_left 0) (eqb (line_in b q).budget_left 0) f).0).0))
      (λ ne f g. sym (eqb-true _ _ g))
      (parts.free q l) (parts.held q l))

  module _ (bytes : Bytes b) (room : image_length p ≤ length b) where
    head_forth : head_bytes p ≡ take line_rows_at b
    unfolding head_bytes counts_fit fields number
    head_forth =
        let x = and_parts (eqb (get_or b 0 0) p.tasks && eqb (get_or b 1 0) p.resources && eqb (get_or b 2 0) line_rows_at) (eqb (get_or b 3 0) (standing_rows_at p)) parts.counts in
        let y = and_parts (eqb (get_or b 0 0) p.tasks && eqb (get_or b 1 0) p.resources) (eqb (get_or b 2 0) line_rows_at) x.0 in
        let z = and_parts (eqb (get_or b 0 0) p.tasks) (eqb (get_or b 1 0) p.resources) y.0 in
        ap (row_bytes head_widths)
        (sym (ap₂ (λ (m n : ℕ). m ∷ n ∷ get_or b 2 0 ∷ get_or b 3 0 ∷ []) (eqb-true _ _ z.0) (eqb-true _ _ z.1)
        ∙ ap₂ (λ (m n : ℕ). p.tasks ∷ p.resources ∷ m ∷ n ∷ []) (eqb-true _ _ y.1) (eqb-true _ _ x.1)))
        ∙ fields_forth head_widths b 0 bytes (omega arith)

    lines_forth : bytes_below p.resources (λ q. line_bytes (line_of ((shown_in p b).lines q)) (holder_number ((shown_in p b).lines q)))
        ≡ take (p.resources * width line_widths) (drop line_rows_at b)
    unfolding line_bytes
    lines_forth =
        bytes_same p.resources _ _
        (λ q l. same_bytes_lem (line_of ((shown_in p b).lines q)) (line_in b q) (holder_number ((shown_in p b).lines q)) (holder_in b q) (row_shown q l) (holder_shown q l)
        ∙ ap (row_bytes line_widths) (line_read b q))
        ∙ rows_forth line_widths (drop line_rows_at b) p.resources (λ i. rw get_or-drop (bytes (line_rows_at + i))) (omega (arith, length-drop line_rows_at b))

    standings_forth : bytes_below p.tasks (λ i. standing_bytes (standing_of p (shown_in p b) i))
        ≡ take (p.tasks * width standing_widths) (drop (standing_rows_at p) b)
    unfolding standing_bytes
    standings_forth =
        bytes_same p.tasks _ _
        (λ i l. let c : i < most_tasks = omega (arith, v.tasks) in
        ap (λ s. row_bytes standing_widths (standing_numbers s))
        (sym (standing_at p (shown_in p b) i c) ∙ sym ((rows_told p v (state_in p b) parts.state).tasks i c) ∙ standing_loaded p v b i l)
        ∙ ap (row_bytes standing_widths) (standing_read p b i))
        ∙ rows_forth standing_widths (drop (standing_rows_at p) b) p.tasks (λ i. rw get_or-drop (bytes (standing_rows_at p + i)))
        (omega (arith, length-drop (standing_rows_at p) b))

    -- the image of what a sound image shows is its bytes
    pub image_forth : image_of p (shown_in p b) ≡ take (image_length p) b
    unfolding image_of
    image_forth =
        ap₂ ◌++◌ (ap₂ ◌++◌ head_forth lines_forth ∙ sym (take-add line_rows_at (p.resources * width line_widths) b)) standings_forth
        ∙ sym (take-add (standing_rows_at p) (p.tasks * width standing_widths) b)

    -- loaded and then stored
    pub stored_back : image_with p (shown_in p b) b ≡ b
    stored_back = ap (λ (l : List ℕ). l ++ drop (image_length p) b) image_forth ∙ take-append-drop (image_length p) b

-- two images of one sound state are the same bytes
pub one_image : (p : Plan) → Valid p → (b c : List ℕ) → image_sound p b ≡ true → image_sound p c ≡ true → Bytes b → Bytes c
    → image_length p ≤ length b → image_length p ≤ length c → shown_in p b ≡ shown_in p c → take (image_length p) b ≡ take (image_length p) c
one_image p v b c h k x y m n e = sym (image_forth p v b h x m) ∙ ap (image_of p) e ∙ image_forth p v c k y n
