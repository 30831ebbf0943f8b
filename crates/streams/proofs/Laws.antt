-- How much of what came is the plan: all of it, by its own bytes 14-15.
use Rattle.folds.proofs.Ground.{ℕ, ◌-◌, ◌≤◌, min, Bool, true, false, cond, ◌≡◌, refl, sym, ap, ap₂, ◌∙◌, List, ◌++◌, ltb, length, take}
use Rattle.folds.proofs.Ground.{drop, length-take-le, get_or-take, take_at, sub-zero, zero-add, arith, le-ltb, ltb-false}
use Rattle.folds.specs.Bytes.{number}
use Rattle.plan_layout.specs.Editions.{header_length}
use Rattle.plan_layout.specs.Layout.{length_said}
use Rattle.plan_layout.proofs.Laws.{length_field_said}
use Rattle.plan.specs.Reading.{plan_length}
use Rattle.print_text.specs.Text.{Put}
use Rattle.streams.specs.Streams.{Came}

-- the length that a plan tells stands in the bytes that every header has
pub header_told : (r : ℕ) (s : List ℕ) → header_length ≤ r → length_said (take r s) ≡ length_said s
unfolding number
header_told r s l = length_field_said (take r s) ∙ same ∙ sym (length_field_said s)
  where
    same : number 2 (take r s) 14 ≡ number 2 s 14
    same = rw (get_or-take r s 14 0 (omega arith), get_or-take r s 15 0 (omega arith))

-- the length of the plan in a buffer is at most the one that it tells
pub told_most : {n : ℕ} (s : List ℕ) → n ≡ plan_length s → header_length ≤ length s → n ≤ length_said s
unfolding plan_length
told_most s e l = rw e (rw (le-ltb _ _ l) (omega arith))

-- and still is, where only bytes behind those are read
pub told_still : {r n : ℕ} (s t : List ℕ) → n ≡ plan_length s → header_length ≤ length s → r ≤ n → r ≤ length_said (take header_length s ++ t)
told_still s t e l h =
    let front : take header_length (take header_length s ++ t) ≡ take header_length s = take_at (take header_length s) t header_length (length-take-le header_length s l) in
    let same : length_said (take header_length s ++ t) ≡ length_said s = sym (header_told header_length _ (omega arith)) ∙ ap length_said front ∙ header_told header_length s (omega arith) in
    rw same (omega (arith, told_most s e l))

-- r bytes that came, fewer than a header has or no more than they tell
pub all_plan : (r : ℕ) (s : List ℕ) → r ≤ length s → (header_length ≤ r → r ≤ length_said s) → plan_length (take r s) ≡ r
unfolding plan_length
all_plan r s h t = rw (length-take-le r s h) (go (ltb r header_length) refl)
  where
    go : (b : Bool) → ltb r header_length ≡ b → cond b r (min (length_said (take r s)) r) ≡ r
    go true e = refl
    go false e = let l : header_length ≤ r = ltb-false r header_length e in rw (header_told r s l) (omega (arith, t l))

-- such bytes, put at the front of a buffer
pub came : {before now : List ℕ} {end r : ℕ} (own : List ℕ) → plan_length (take end own) ≡ end → end ≤ length own → end ≤ length before → Put before now 0 (take (end - 0) own) r → Came before now r
came {before} {now} {end} {r} own plan h room p =
    let len : length (take end own) ≡ end = length-take-le end own h in
    let ends : r ≡ end = rw (sub-zero, len, zero-add) at p.ends in
    let held : now ≡ take end own ++ drop end before = rw (sub-zero, len, zero-add) at p.held in
    let front : take r now ≡ take end own = ap₂ take ends held ∙ take_at (take end own) (drop end before) end len in
    record {
      plan = rw front (plan ∙ sym ends);
      behind = rw (front, ends) held;
      fits = omega arith;
    }
