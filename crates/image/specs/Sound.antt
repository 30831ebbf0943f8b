-- Document 02 §3: "An image is sound when counts and offsets fit the plan, what is absent or free is filled as said, the places in each
-- task queue have no gap and no repeat, and the state it shows is sound." Each of these by itself; the last says the two before it
-- again, of the state by value.
use Rattle.std.specs.Prelude.{ℕ, Bool, ◌&&◌, ◌||◌, not, List, eqb, ltb, get_or}
use Rattle.sizes.specs.Sizes.{most_processors, absent}
use Rattle.folds.specs.Below.{all_below}
use Rattle.plan_reading.specs.Plan.{Plan}
use Rattle.machine_state.specs.Shows.{slot, is_idle}
use Rattle.machine_state.specs.Sound.{alone, backed, holder_of, sound}
use Rattle.image.specs.Layout.{line_rows_at, standing_rows_at}
use Rattle.image.specs.Image.{line_in, holder_in, standing_in, state_in}

module _ (p : Plan) (b : List ℕ) where
  -- "counts and offsets fit the plan"
  unfoldable pub counts_fit : Bool
  counts_fit = eqb (get_or b 0 0) p.tasks && eqb (get_or b 1 0) p.resources && eqb (get_or b 2 0) line_rows_at && eqb (get_or b 3 0) (standing_rows_at p)

  -- "255 fills what is absent": the processors of row q past the count
  abbrev pub absent_filled : ℕ → Bool
  absent_filled q = all_below most_processors (λ j. ltb j (line_in b q).queued || eqb (slot (line_in b q) j) absent)

  -- "and hold and budget left are 0 for a free resource"; it has no holder
  abbrev pub free_filled : ℕ → Bool
  free_filled q =
      not (eqb (line_in b q).queued 0)
      || (eqb (holder_in b q) absent && eqb (line_in b q).hold_left 0 && eqb (line_in b q).budget_left 0)

  -- a task that is in line for nothing has neither resource nor place, one in line has both
  abbrev pub task_filled : ℕ → Bool
  task_filled i = is_idle (standing_in p b i) || (not (eqb (standing_in p b i).resource absent) && not (eqb (standing_in p b i).place absent))

  -- "the places in each task queue have no gap and no repeat"
  abbrev pub place_fits : ℕ → Bool
  place_fits i = is_idle (standing_in p b i) || (alone p (state_in p b).tasks i && backed p (state_in p b).tasks i)

  -- the holder's number is that of the head's first task, who holds in the state that it shows
  abbrev pub holder_fits : ℕ → Bool
  holder_fits q = eqb (line_in b q).queued 0 || eqb (holder_in b q) (holder_of p (state_in p b).tasks q (line_in b q))

  -- what is absent or free, for all rows
  abbrev pub filled : Bool
  filled = all_below p.resources (λ q. absent_filled q && free_filled q) && all_below p.tasks task_filled

  -- the image is sound
  unfoldable pub image_sound : Bool
  image_sound =
      (counts_fit && filled) && (all_below p.tasks place_fits && (all_below p.resources holder_fits && sound p (state_in p b)))
