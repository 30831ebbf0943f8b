-- The lines of many calls, one more at a time.
use Rattle.print_calls.proofs.Ground.{ℕ, ◌+◌, ◌<◌, ◌≤◌, ◌≡◌, refl, sym, ◌∙◌, inl, inr, List, ◌++◌}
use Rattle.print_calls.proofs.Ground.{length, arith, ne_eqb, State, CallBytes, call_width, bytes_at}
use Rattle.print_calls.proofs.Ground.{state_refusal, call_line, most_line, Printed, none, more, lines_code, Written, Stepped}
use Rattle.std.proofs.lemmas.List.{take_at, drop_at}
use Rattle.folds.proofs.Ground.{length-append, ap, ◌⊎◌, take, drop, length-drop, take-add, drop-drop, length-take-le, le-leb, lt-ltb}
use Rattle.folds.proofs.Searches.{on_le}
use Rattle.print_text.proofs.TextLaws.{put_front, put_behind}
use Rattle.std.specs.Prelude.{Ok, Err}
use Rattle.refusals.specs.declared.Refusal.{Refusal}
use Rattle.refusals.specs.Refusals.{number}
use Rattle.refusals.proofs.Laws.{number_no0}
use Rattle.print_calls.specs.declared.Step.{Step}
use Rattle.print_calls.specs.Buffers.{Batched}

-- nothing yet
pub written_none : (f : List ℕ) (s : State) (calls out : List ℕ) → Written f s calls out out 0 0 s
written_none f s calls out =
    record { printed = none; behind = refl; within = omega arith; fits = omega arith; long = refl }

-- a turn of the loop, which has the calls from `used` on
module _ (calls : List ℕ) (used : ℕ) (call rest : List ℕ) (e : drop used calls ≡ call ++ rest) (w : length call ≡ call_width) where
  whole : used + call_width ≤ length calls
  whole = omega (arith, length-drop used calls, ap length e, length-append call rest)

  pub rest_step : rest ≡ drop (used + call_width) calls
  rest_step = sym (ap (drop call_width) e ∙ rw (← w) (drop_at call rest _ refl)) ∙ drop-drop call_width used calls

  pub written_step : (f : List ℕ) (s : State) (before : List ℕ) {now next : List ℕ} {end : ℕ} {t : State} {r : Step} {bytes : CallBytes}
      → Written f s calls before now used end t
      → end + most_line ≤ length now
      → length next ≡ length now
      → bytes ≡ bytes_at call_width call 0
      → Stepped f t bytes now next end r
      → Written f s calls before next (used + call_width) r.end r.state
  written_step f s before {now} {next} {end} {t} {r} {bytes} k b same c h =
      let text : List ℕ = call_line f t bytes in
      let room : length (take end now) + most_line ≤ length before = omega (arith, length-take-le end now (omega arith), k.long) in
      let front : take call_width (drop used calls) ≡ call = rw (e, ← w) (take_at call rest _ refl) in
      let line : Printed f (length before) s (take used calls ++ call) r.state (take end now ++ text) = rw c (more call w k.printed room (rw c at h.after)) in
      let last : r.end ≡ end + length text = h.line.put.ends in
      record {
        printed = rw (put_front h.line.put, take-add used call_width calls, front) line;
        behind = put_behind h.line.put ∙ rw last (sym (drop-drop (length text) end now) ∙ ap (drop (length text)) k.behind ∙ drop-drop (length text) end before);
        within = whole;
        fits = omega (arith, h.line.within, k.long);
        long = same ∙ k.long;
      }

-- once there is no whole call left, or not the room for the longest line
abbrev Ended : (n used room end : ℕ) → Type 0
Ended n used room end = (n < used + call_width) ⊎ (room < end + most_line)

-- a call has been made, or nothing has been put yet
abbrev pub Begun : ℕ → ℕ → Type 0
Begun used end = ((used ≡ 0) × (end ≡ 0)) ⊎ (call_width ≤ used)

-- so where there is a call, and room for it, one is made
one_made : {n m : ℕ} (u e : ℕ) → Begun u e → Ended n u m e → call_width ≤ n → most_line ≤ m → call_width ≤ u
one_made u e (inl (z, y)) (inl l) a b = let bad : ⊥ = omega arith in absurd bad
one_made u e (inl (z, y)) (inr l) a b = let bad : ⊥ = omega arith in absurd bad
one_made u e (inr l) h a b = l

-- a call that is there has room
room_for : (n room : ℕ) → 0 ≡ lines_code 0 n room → call_width ≤ n → most_line ≤ room
unfolding lines_code
room_for n room e l =
    on_le (most_line ≤ room) most_line room (λ k. k)
    (λ k. let z = rw (le-leb call_width n l, lt-ltb room most_line k) at (sym e) in let bad : ⊥ = omega arith in absurd bad)

module _ (f : List ℕ) (s : State) (calls before : List ℕ) where
  -- the plan or the state is refused
  pub plan_refused : (e : Refusal) → number e ≡ state_refusal f s → Batched f s calls before before (Err e)
  unfolding lines_code
  plan_refused e h =
      let told : number e ≡ lines_code (number e) (length calls) (length before) = rw (ne_eqb (number e) 0 (number_no0 e)) refl in
      record {
        number = told ∙ ap (λ (x : ℕ). lines_code x (length calls) (length before)) h;
        unmade = λ n. refl;
        made = tt;
      }

  -- neither is, and there is a call and no room
  pub lines_refused : (e : Refusal) → 0 ≡ state_refusal f s → number e ≡ lines_code 0 (length calls) (length before)
      → Batched f s calls before before (Err e)
  lines_refused e z h =
      record {
        number = h ∙ ap (λ (x : ℕ). lines_code x (length calls) (length before)) z;
        unmade = λ n. refl;
        made = tt;
      }

  pub told_lines : {now : List ℕ} {used end : ℕ} {t : State} → 0 ≡ state_refusal f s → 0 ≡ lines_code 0 (length calls) (length before)
      → Written f s calls before now used end t
      → Begun used end
      → Ended (length calls) used (length before) end
      → Batched f s calls before now (Ok (record { used = used; length = end; state = t }))
  told_lines {used = used} {end} z e w b x =
      record {
        number = e ∙ ap (λ (x : ℕ). lines_code x (length calls) (length before)) z;
        unmade = λ n. absurd (n refl);
        made = record { written = w; ended = x; some = λ l. one_made used end b x l (room_for (length calls) (length before) e l) };
      }
