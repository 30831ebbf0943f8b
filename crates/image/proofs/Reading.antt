-- What C reads in a sound image, by the rules: who is in line for what, who holds, who waits, and how many are ahead. What its resource
-- rows say is `row-shown` and `holder-shown`.
use Rattle.image.proofs.Ground.{ℕ, ◌<◌, true, ◌&&◌, not, ◌≡◌, refl, sym, ap, ap₂, ◌∙◌, [], ◌∷◌, eqb, length, arith, ne_eqb, absent}
use Rattle.image.proofs.Ground.{List, Plan, Valid, Standing, Whole, whole_of, shown_in, state_in, holder_number, holder_in, standing_in}
use Rattle.image.proofs.Ground.{image_sound}
use Rattle.queue_rules.specs.Rules as Rules
use Rattle.queue_rules.specs.Rules.{turn, in_line, holds, waiting, ahead_in}
use Rattle.machine_rules.specs.Machine.{terms}
use Rattle.machine_state.proofs.Told.{stands_is, place_is}
use Rattle.image.proofs.Tested.{standing_loaded}
use Rattle.image.proofs.Round.{image_state, holder_shown}

-- the holder of a line is the task whose number it gives
holds_number : (i : ℕ) → (absent ≡ i → ⊥) → (l : Rules.Line) → holds i l ≡ eqb (holder_number l) i
holds_number i d (Rules.line h b []) = sym (ne_eqb absent i d)
holds_number i d (Rules.line h b (turn k u us ∷ rest)) = refl

module _ (p : Plan) (v : Valid p) (b : List ℕ) (h : image_sound p b ≡ true) (i : ℕ) (l : i < p.tasks) where
  w : Whole p (state_in p b)
  w = whole_of p v (state_in p b) (image_state p v b h)

  module _ (q : ℕ) (m : q < p.resources) where
    -- in line for q: the task's row names it
    pub in_line_read : in_line i ((shown_in p b).lines q) ≡ eqb (standing_in p b i).resource q
    in_line_read = stands_is p v (state_in p b) w i l q m ∙ ap (λ (s : Standing). eqb s.resource q) (standing_loaded p v b i l)

    -- it holds q: the row of q has its number
    pub holds_read : holds i ((shown_in p b).lines q) ≡ eqb (holder_in b q) i
    holds_read =
        holds_number i (λ e. omega (arith, v.tasks)) ((shown_in p b).lines q) ∙ ap (λ (k : ℕ). eqb k i) (holder_shown p v b h q m)

    -- it waits: the one and not the other
    pub waits_read : waiting i ((shown_in p b).lines q) ≡ (eqb (standing_in p b i).resource q && not (eqb (holder_in b q) i))
    waits_read = ap₂ ◌&&◌ in_line_read (ap not holds_read)

  -- the number of tasks ahead of it is its place
  pub ahead_read : let q = (standing_in p b i).resource in
      q < p.resources → length (ahead_in (terms p q) i ((shown_in p b).lines q)) ≡ (standing_in p b i).place
  ahead_read m =
      rw (standing_loaded p v b i l) at (place_is p v (state_in p b) w i l (rw (standing_loaded p v b i l) (omega (arith, v.resources))))
