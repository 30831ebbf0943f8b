-- A loop that puts one text behind the other, each no longer than `width`: the texts of the numbers below its counter. It ends at
-- `count`, which is at most `most`, and there is room for so many.
use Rattle.print_text.proofs.Ground.{ℕ, ◌+◌, ◌*◌, ◌<◌, ◌≤◌, ◌≡◌, refl, ◌∙◌, List, length, add-one, arith, Put, PutIn}
use Rattle.folds.proofs.Ground.{suc-mul, mul-le-mul_right}
use Rattle.print_text.specs.Text.{text_below}
use Rattle.print_text.proofs.TextLaws.{put_none, put_then}

-- what is in a buffer after n turns
pub record PutBelow (before now : List ℕ) (at width most count n : ℕ) (text : ℕ → List ℕ) (end : ℕ) : Type 0 where
  pub put : Put before now at (text_below n text) end
  pub within : end ≤ at + n * width
  pub long : length now ≡ length before
  pub turn : n ≤ count
  pub few : count ≤ most
  pub room : at + most * width ≤ length before

module _ {l : List ℕ} {at width most count : ℕ} {text : ℕ → List ℕ} where
  -- before the first turn
  pub turns_none : count ≤ most → at + most * width ≤ length l → PutBelow l l at width most count 0 text at
  unfolding text_below
  turns_none h r =
      record {
        put = put_none l at;
        within = omega arith;
        long = refl;
        turn = omega arith;
        few = h;
        room = r;
      }

  module _ {m : List ℕ} {n e : ℕ} (s : PutBelow l m at width most count n text e) where
    -- a turn has room, and is one turn more
    pub turns_room : n < count → e + width ≤ length m
    turns_room h =
        let g : n < most = omega (arith, s.few) in
        omega (arith, s.within, s.long, s.room, suc-mul n width, mul-le-mul_right width g)

    pub turns_more : {k : List ℕ} {f : ℕ} → n < count → PutIn m k e width (text n) f → length k ≡ length m → PutBelow l k at width most count (n + 1) text f
    unfolding text_below
    turns_more h p b =
        record {
          put = rw (add-one n) (put_then s.put p.put);
          within = rw add-one (omega (arith, s.within, p.within, suc-mul n width));
          long = b ∙ s.long;
          turn = omega arith;
          few = s.few;
          room = s.room;
        }

    -- after the last turn
    pub turns_done : count ≤ n → PutIn l m at (most * width) (text_below count text) e
    turns_done h =
        let q : n ≡ count = omega (arith, s.turn) in
        let g : n ≤ most = omega (arith, s.few) in
        record { put = rw q at s.put; within = omega (arith, s.within, mul-le-mul_right width g) }
