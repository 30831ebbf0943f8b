-- The text that calls print, put together from pieces; and from a fresh machine on, that of the rules alone.
use Rattle.print_calls.proofs.Ground.{ℕ, ◌+◌, ◌≤◌, ◌≡◌, refl, sym, ◌∙◌, List, [], ◌∷◌, ◌++◌, length, arith, plan_of, Call, Answer}
use Rattle.print_calls.proofs.Ground.{State, reply, CallBytes, call_width, bytes_at, call_in, AfterBytes, call_line, Printed, none, more}
use Rattle.folds.proofs.Ground.{zero, suc, ◌*◌, ap₂, append_assoc, append-nil, length-append, add-one}
use Rattle.plan.specs.Acceptance.{Accepted}
use Rattle.machine_rules.specs.Machine.{fresh, answer, run}
use Rattle.machine_state.specs.Shows.{fresh_state}
use Rattle.machine_calls.specs.Calls.{calls_below}
use Rattle.machine_calls.proofs.Calls.{bytes_front, bytes_behind, calls_front}
use Rattle.machine.specs.Promise.{Returned, started}
use Rattle.machine.proofs.Bytes.{returned_step}
use Rattle.machine.proofs.Kept.{fresh_is, returned_answers}
use Rattle.print_calls.specs.Calls.{call_text}
use Rattle.print_calls.specs.Output.{line_after, lines_below}

-- a buffer with more room prints the same
pub printed_room : {f : List ℕ} {s : State} (n m : ℕ) → n ≤ m → {t : State} {calls text : List ℕ} → Printed f n s calls t text → Printed f m s calls t text
printed_room n m h none = none
printed_room n m h (more call w p r u) = more call w (printed_room n m h p) (omega arith) u

-- what is printed in two pieces is printed in one
pub printed_join : {f : List ℕ} {s t : State} {calls text : List ℕ} (n m : ℕ) → Printed f n s calls t text
    → {u : State} {rest more-text : List ℕ} → Printed f m t rest u more-text → Printed f (n + (length text + m)) s (calls ++ rest) u (text ++ more-text)
printed_join {calls = calls} {text = text} n m p none = rw (append-nil, append-nil) (printed_room n (n + (length text + m)) (omega arith) p)
printed_join {calls = calls} {text = text} n m p (more {calls = d} {text = x} call w q r v) =
    rw (← append_assoc, ← append_assoc) (more call w (printed_join n m p q) (omega (arith, length-append text x)) v)

-- the first n lines do not depend on the bytes behind them
lines_front : (l x f : List ℕ) (n : ℕ) → n * call_width ≤ length l → lines_below f n (l ++ x) ≡ lines_below f n l
unfolding lines_below
lines_front l x f zero h = refl
lines_front l x f (suc n) h =
    ap₂ (λ (a b : List ℕ). a ++ b) (lines_front l x f n (omega arith))
    (ap₂ (line_after f) (calls_front call_width (omega arith) l x n (omega arith)) (bytes_front call_width (omega arith) l x (n * call_width) (omega arith)))

-- a line depends on what the call is answered, and on nothing else
line_same : (f : List ℕ) (b : CallBytes) (g h : Call → Answer) → ((c : Call) → g c ≡ h c) → (cs : List Call) → call_text f b g cs ≡ call_text f b h cs
line_same f b g h e [] = refl
line_same f b g h e (c ∷ cs) = rw (e c)

-- text by the rules: the lines of so many calls, and a state that the operations return for them
pub record ByRules (f l : List ℕ) (t : State) (x : List ℕ) : Type 0 where
  pub count : ℕ
  pub long : length l ≡ count * call_width
  pub text : x ≡ lines_below f count l
  pub returned : Returned f fresh_state (calls_below call_width count l) t

module _ (f : List ℕ) (k : Accepted f) where
  one_more_lem : (l x : List ℕ) (s t : State) (call : List ℕ) → length call ≡ call_width → ByRules f l s x
      → AfterBytes f s (call_in (bytes_at call_width call 0)) t
      → ByRules f (l ++ call) t (x ++ call_line f s (bytes_at call_width call 0))
  unfolding lines_below call_line
  one_more_lem l x s t call w h u =
      let n = h.count in
      let room : n * call_width ≤ length l = omega (arith, h.long) in
      let b : CallBytes = bytes_at call_width call 0 in
      let at : bytes_at call_width (l ++ call) (n * call_width) ≡ b = bytes_behind call_width (omega arith) l call (n * call_width) h.long in
      let front : calls_below call_width n (l ++ call) ≡ calls_below call_width n l = calls_front call_width (omega arith) l call n room in
      let line : call_line f s b ≡ line_after f (calls_below call_width n l) b =
      line_same f b (reply f s) (answer (plan_of f) (run (plan_of f) (calls_below call_width n l)))
      (λ d. returned_answers f k fresh_state fresh (fresh_is f k) (calls_below call_width n l) s d h.returned) (call_in b) in
      record {
        count = suc n;
        long = omega (arith, length-append l call, h.long);
        text = ap₂ (λ (a b : List ℕ). a ++ b) (h.text ∙ sym (lines_front l call f n room)) (line ∙ sym (ap₂ (line_after f) front at));
        returned = rw (← add-one n) (returned_step f (l ++ call) call_width n {s = s} (rw front h.returned) (sym at) u);
      }

  -- from a fresh machine on, calls print what the rules say
  pub printed_rules : {room : ℕ} {l text : List ℕ} {t : State} → Printed f room fresh_state l t text → ByRules f l t text
  unfolding lines_below calls_below
  printed_rules none = record { count = 0; long = refl; text = refl; returned = started }
  printed_rules (more {calls} {text} {t} {u} call w p r v) = one_more_lem calls text t u call w (printed_rules p) v
