-- What holds between the turns of the loop that makes the calls, and what it comes to at the end of the input.
use Rattle.folds.proofs.Ground.{ℕ, zero, suc, ◌+◌, ◌-◌, ◌*◌, ◌/◌, ◌%◌, ◌≤◌, ◌<◌, ◌≡◌, refl, sym, ap, ap₂, ◌∙◌, List, [], ◌++◌, length, take, drop, arith, subst, take-add, length-append, length-drop, length-take-le}
use Rattle.std.specs.Prelude.{None, Some, IfSome, Result, Ok, Err, OnOk, ◌^◌}
use Rattle.std.specs.declared.option.Option.{Option}
use Rattle.std.specs.Io.KnownBytes.{Appends, Consumes, IsAtEnd}
use Rattle.std.proofs.Common.{append_assoc, append-nil, take-append-drop}
use Rattle.plan.specs.Acceptance.{Accepted}
use Rattle.machine_state.specs.declared.State.{State}
use Rattle.machine_state.specs.Shows.{fresh_state}
use Rattle.machine.specs.Replies.{state_refusal}
use Rattle.machine_calls.specs.Calls.{call_width}
use Rattle.machine_calls.proofs.Calls.{bytes_front, calls_front}
use Rattle.print_calls.specs.Output.{line_after, lines_below, end_line, calls_output}
use Rattle.print_calls.proofs.Rules.{printed_rules}
use Rattle.streams.proofs.Known.{consumed_both, consumed_none}
use Rattle.mspis.specs.Served.{Wrote}
use Rattle.mspis.proofs.Steps.{appended_both, wrote_none, wrote_both, still_sound}

-- the calls of what came are made, but for the bytes that are left; so many bytes came at least
pub record Going (from rest had has : Option (List ℕ)) (f : List ℕ) (s : State) (left : List ℕ) (turns : ℕ) : Type 0 where
  pub done : List ℕ
  pub came : Consumes from rest (done ++ left)
  pub lines : Wrote had has f fresh_state done s
  pub sound : state_refusal f s ≡ 0
  pub few : length left < call_width
  pub counted : turns ≤ length (done ++ left)

-- one turn: `part` came, and the calls of what is left and it were made but for its end
pub going_turn : (from rest now had has then : Option (List ℕ)) (f : List ℕ) (s t : State) (left part : List ℕ) (turns used k : ℕ)
    → Going from rest had has f s left turns
    → Consumes rest now part
    → Wrote has then f s (take used (left ++ part)) t
    → used ≤ length (left ++ part)
    → length (left ++ part) < used + call_width
    → k ≤ turns + length part
    → Going from now had then f t (drop used (left ++ part)) k
going_turn from rest now had has then f s t left part turns used k p q w fits few more =
    let chunk = left ++ part in
    let done = p.done ++ take used chunk in
    let joined : (p.done ++ left) ++ part ≡ done ++ drop used chunk =
    append_assoc p.done left part ∙ ap (λ l. p.done ++ l) (sym (take-append-drop used chunk)) ∙ sym (append_assoc p.done (take used chunk) (drop used chunk)) in
    let long : length (done ++ drop used chunk) ≡ length (p.done ++ left) + length part = sym (ap length joined) ∙ length-append (p.done ++ left) part in
    let size : length (drop used chunk) ≡ length chunk - used = length-drop used chunk in
    record {
      done = done;
      came = subst (Consumes from now) joined (consumed_both from rest now (p.done ++ left) part p.came q);
      lines = wrote_both had has then f fresh_state s t p.done (take used chunk) p.lines w;
      sound = still_sound w.printed p.sound;
      few = omega (arith, size, few);
      counted = omega (arith, long, p.counted, more);
    }

-- a turn as the program makes it: `got` bytes came behind those that were kept, and n bytes are kept of both
pub turn_made : (from rest now had has then : Option (List ℕ)) (f : List ℕ) (s t : State) (before came after : List ℕ) (turns kept got used n k : ℕ)
    → Going from rest had has f s (take kept before) turns
    → kept ≤ 65536 → length before ≡ 65536 → length came ≡ 65536 → got ≤ 65536 - kept
    → take kept came ≡ take kept before
    → Consumes rest now (take got (drop kept came))
    → used ≤ length (take (kept + got) came)
    → Wrote has then f s (take used (take (kept + got) came)) t
    → length (take (kept + got) came) < used + call_width
    → n ≡ kept + got - used → take n after ≡ drop used (take (kept + got) came)
    → k ≤ turns + got
    → Going from now had then f t (take n after) k
turn_made from rest now had has then f s t before came after turns kept got used n k p fits long long2 got_fits front bytes used_fits lines few count moved more =
    let left = take kept before in
    let part = take got (drop kept came) in
    let whole : take (kept + got) came ≡ left ++ part = take-add kept got came ∙ ap (λ l. l ++ part) front in
    let size : length part ≡ got = length-take-le got (drop kept came) (omega (arith, length-drop kept came)) in
    subst (λ l. Going from now had then f t l k) (ap (drop used) (sym whole) ∙ sym moved)
    (going_turn from rest now had has then f s t left part turns used k p bytes
    (subst (λ l. Wrote has then f s (take used l) t) whole lines)
    (omega (arith, used_fits, ap length whole)) (omega (arith, few, ap length whole)) (omega (arith, size, more)))

pub started : (from had : Option (List ℕ)) (f : List ℕ) (s : State) → s ≡ fresh_state → state_refusal f s ≡ 0 → Going from from had had f s [] 0
started from had f s e z =
    record {
      done = [];
      came = consumed_none from;
      lines = subst (λ t. Wrote had had f fresh_state [] t) (sym e) (wrote_none had f fresh_state);
      sound = z;
      few = omega arith;
      counted = omega arith;
    }

-- the first n lines do not depend on the bytes behind them
lines_front : (l x f : List ℕ) (n : ℕ) → n * call_width ≤ length l → lines_below f n (l ++ x) ≡ lines_below f n l
unfolding lines_below
lines_front l x f zero h = refl
lines_front l x f (suc n) h =
    ap₂ (λ (a b : List ℕ). a ++ b) (lines_front l x f n (omega arith))
    (ap₂ (line_after f) (calls_front call_width (omega arith) l x n (omega arith)) (bytes_front call_width (omega arith) l x (n * call_width) (omega arith)))

-- bytes left over end the output as they do behind whole calls
end_same : (m n : ℕ) → m % call_width ≡ n % call_width → end_line m ≡ end_line n
unfolding end_line
end_same m n e = rw e refl

-- what was written for whole calls, and for the bytes left over, is the output of all of them
whole_output : (f : List ℕ) → Accepted f → (had has then : Option (List ℕ)) (s : State) (done left : List ℕ) → Wrote had has f fresh_state done s → length left < call_width
    → Appends has then (end_line (length left)) → Appends had then (calls_output f (done ++ left))
unfolding calls_output
whole_output f k had has then s done left w few e =
    let r = printed_rules f k w.printed in
    let long : length (done ++ left) ≡ r.count * 3 + length left = length-append done left ∙ ap (λ n. n + length left) r.long in
    let count : length (done ++ left) / call_width ≡ r.count = omega arith in
    let rest : length left % call_width ≡ length (done ++ left) % call_width = omega arith in
    let lines : w.text ≡ lines_below f (length (done ++ left) / call_width) (done ++ left) =
    r.text ∙ sym (lines_front done left f r.count (omega (arith, r.long))) ∙ ap (λ n. lines_below f n (done ++ left)) (sym count) in
    subst (Appends had then) (ap₂ (λ (a b : List ℕ). a ++ b) lines (end_same _ _ rest)) (appended_both had has then w.text (end_line (length left)) w.wrote e)

-- the loop is over at the end of the input
pub finished : (from rest had has then : Option (List ℕ)) (f : List ℕ) (s : State) (left : List ℕ) (turns : ℕ) → Accepted f
    → Going from rest had has f s left turns
    → IsAtEnd rest
    → Appends has then (end_line (length left))
    → IfSome from (λ xs. length xs < 2 ^ 64 - 1 → Appends had then (calls_output f xs))
finished None rest had has then f s left turns k p stop e = tt
finished (Some xs) None had has then f s left turns k p stop e = absurd p.came
finished (Some xs) (Some ys) had has then f s left turns k p stop e =
    λ short. let all : p.done ++ left ≡ xs = sym (p.came ∙ ap (λ l. (p.done ++ left) ++ l) stop ∙ append-nil (p.done ++ left)) in
    subst (λ l. Appends had then (calls_output f l)) all (whole_output f k had has then s p.done left p.lines p.few e)

pub done : (from rest had has then : Option (List ℕ)) (f : List ℕ) (s : State) (calls : List ℕ) (kept turns : ℕ) {E : Type 0} (r : Result (Unit {0}) E) → Accepted f
    → Going from rest had has f s (take kept calls) turns
    → IsAtEnd rest → kept ≤ length calls
    → OnOk r (Appends has then (end_line kept))
    → OnOk r (IfSome from (λ xs. length xs < 2 ^ 64 - 1 → Appends had then (calls_output f xs)))
done from rest had has then f s calls kept turns (Ok u) k p stop fits e =
    let end : length (take kept calls) ≡ kept = length-take-le kept calls fits in
    finished from rest had has then f s (take kept calls) turns k p stop (rw end e)
done from rest had has then f s calls kept turns (Err u) k p stop fits e = tt

-- or after more turns than a shorter input has bytes
pub too_many : (from rest had has : Option (List ℕ)) (f : List ℕ) (s : State) (left : List ℕ) (turns : ℕ) (P : List ℕ → Type 0) {E : Type 0} (r : Result (Unit {0}) E)
    → Going from rest had has f s left turns → 2 ^ 64 - 1 ≤ turns → OnOk r (IfSome from (λ xs. length xs < 2 ^ 64 - 1 → P xs))
too_many None rest had has f s left turns P (Ok u) p m = tt
too_many (Some xs) None had has f s left turns P (Ok u) p m = absurd p.came
too_many (Some xs) (Some ys) had has f s left turns P (Ok u) p m =
    λ short. let long = ap length p.came ∙ length-append (p.done ++ left) ys in absurd (omega (arith, short, long, p.counted))
too_many from rest had has f s left turns P (Err u) p m = tt
