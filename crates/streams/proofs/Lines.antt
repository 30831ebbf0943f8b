-- A text handed over to a buffer that has room for it stands at the front; how long the lines are.
use Rattle.folds.proofs.Ground.{ℕ, ◌+◌, ◌≤◌, ◌≡◌, refl, ap, ◌∙◌, List, [], ◌++◌, ◌∷◌, length, take, drop, arith, take_at, le-leb, length-append}
use Rattle.folds.proofs.Ground.{subst, sym}
use Rattle.std.specs.Prelude.{Result, Ok, Err, OnOk, IfOk}
use Rattle.std.specs.declared.option.Option.{Option}
use Rattle.std.specs.Borrow.{MutBor}
use Rattle.std.specs.Io.KnownBytes.{Appends}
use Rattle.print_text.proofs.Lines.{line_fits_lem}
use Rattle.streams.specs.Streams.{HandsFitting, Handing}
use Rattle.plan_rules.specs.declared.Counts.{Counts}
use Rattle.print_text.specs.Text.{decimal, quoted}
use Rattle.std.specs.Result.{result_unwrap_or}
use Rattle.refusals.specs.declared.Refusal.{Refusal}
use Rattle.refusals.specs.Refusals.{Told}
use Rattle.refusals.proofs.Laws.{number_no0}
use Rattle.print_text.specs.Buffers.{handed_code, buffer_with}
use Rattle.print_text.proofs.TextLaws.{digits_length, places_high}
use Rattle.print_lines.specs.Lines.{most_line, spaced, refused_line, plan_line}

-- what is handed over, or refused where there is no room
abbrev HandedOver : (text before now : List ℕ) → Result ℕ Refusal → Type 0
HandedOver text before now r = Told (handed_code text (length before)) (length text) r × (now ≡ buffer_with text before)

fitting : (n : ℕ) (r : Result ℕ Refusal) → IfOk r (λ k. k ≤ n) → result_unwrap_or r 0 ≤ n
fitting n (Ok k) h = h
fitting n (Err e) h = omega arith

pub handed_front : (text l m : List ℕ) (r : Result ℕ Refusal) → length text ≤ length l → HandedOver text l m r → take (result_unwrap_or r 0) m ≡ text
unfolding handed_code buffer_with
handed_front text l m (Ok k) h o =
    let held : m ≡ text ++ drop (length text) l = o.1 ∙ rw (le-leb _ _ h) refl in
    ap (take k) held ∙ take_at text (drop (length text) l) k (sym o.0.given)
handed_front text l m (Err e) h o = absurd (number_no0 e (o.0.number ∙ rw (le-leb _ _ h) refl))

-- a text that a closure hands over where there is room for the longest line
module _ (text : List ℕ) {does : MutBor (List ℕ) → Result ℕ Refusal → MutBor (List ℕ) → Type 0}
    (hands : (b c : MutBor (List ℕ)) (r : Result ℕ Refusal) → does b r c → HandedOver text b.now c.now r) where
  pub line_fits : HandsFitting does
  line_fits b c r long d = rw long at (fitting (length b.now) r (line_fits_lem text (length b.now) (hands b c r d).0))

  pub line_wrote : {E : Type 0} (before now : Option (List ℕ)) (r : Result (Unit {0}) E) → length text ≤ most_line → OnOk r (Handing does before now) → OnOk r (Appends before now text)
  line_wrote before now (Ok u) short h =
      let o = hands h.buffer h.after h.line h.handed in
      subst (Appends before now) (handed_front text h.buffer.now h.after.now h.line (omega (arith, h.long)) o) h.wrote
  line_wrote before now (Err e) short h = tt

decimal_short : (n : ℕ) → length (decimal n) ≤ 20
decimal_short n = rw (digits_length _ n) (places_high 19 n)

spaced_one : (n : ℕ) (rest : List (List ℕ)) → length (spaced (decimal n ∷ rest)) ≤ 21 + length (spaced rest)
spaced_one n rest = omega (arith, length-append (decimal n) (spaced rest), decimal_short n)

pub refused_short : (n : ℕ) → length (refused_line n) ≤ most_line
refused_short n = omega (arith, length-append (spaced (decimal n ∷ [])) (quoted "\n"), spaced_one n [])

pub plan_short : (c : Counts) → length (plan_line c) ≤ most_line
plan_short c =
    let last = decimal c.sections ∷ [] in
    let third = decimal c.resources ∷ last in
    let second = decimal c.tasks ∷ third in
    omega (
      arith,
      length-append (spaced (decimal c.processors ∷ second)) (quoted "\n"),
      spaced_one c.processors second,
      spaced_one c.tasks third,
      spaced_one c.resources last,
      spaced_one c.sections [],
    )
