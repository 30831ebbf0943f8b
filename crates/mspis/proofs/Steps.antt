-- Lines that were written in pieces are the lines of all the calls; the state after them is as sound as the one before.
use Rattle.folds.proofs.Ground.{ℕ, ◌+◌, ◌-◌, ◌≤◌, ◌≡◌, refl, sym, ap, ◌∙◌, Bool, true, false, cond, List, [], ◌++◌, length, take, drop, subst, take-add, eqb, leb}
use Rattle.std.specs.Prelude.{None, Some, Err, ◌&&◌}
use Rattle.std.specs.declared.option.Option.{Option}
use Rattle.std.specs.Io.KnownBytes.{Appends}
use Rattle.std.proofs.Common.{append_assoc, append-nil}
use Rattle.machine_state.specs.declared.State.{State}
use Rattle.machine.specs.Replies.{state_refusal, AfterBytes, call_refusal}
use Rattle.machine_calls.specs.Calls.{call_width, bytes_at, call_in}
use Rattle.print_lines.specs.Lines.{most_line}
use Rattle.print_calls.specs.Buffers.{Printed, Written, Batched, none, more, lines_code, lines_refusal}
use Rattle.print_calls.proofs.Rules.{printed_join}
use Rattle.folds.proofs.Parts.{part_rest}
use Rattle.machine_rules.specs.declared.Call.{Call}
use Rattle.plan_reading.specs.Plan.{plan_of}
use Rattle.plan.specs.Acceptance.{refusal}
use Rattle.machine_state.specs.Sound.{sound}
use Rattle.machine.proofs.Answered.{state_accepted}
use Rattle.refusals.specs.Numbers.{no_room}
use Rattle.refusals.specs.declared.Refusal.{Refusal}
use Rattle.refusals.proofs.Laws.{number_no0}
use Rattle.folds.proofs.Ground.{◌∷◌, inl, inr, le-ltb, eqb-true, eqb-false}
use Rattle.std.specs.Prelude.{◌⊎◌}
use Rattle.mspis.specs.Served.{Wrote}

pub cases_zero : (n : ℕ) → (n ≡ 0) ⊎ (n ≡ 0 → ⊥)
cases_zero n = go (eqb n 0) refl
  where
    go : (b : Bool) → eqb n 0 ≡ b → (n ≡ 0) ⊎ (n ≡ 0 → ⊥)
    go true e = inl (eqb-true n 0 e)
    go false e = inr (eqb-false n 0 e)

pub appended_both : (a b c : Option (List ℕ)) (xs ys : List ℕ) → Appends a b xs → Appends b c ys → Appends a c (xs ++ ys)
appended_both None b c xs ys p q = tt
appended_both (Some x) None c xs ys p q = absurd p
appended_both (Some x) (Some y) None xs ys p q = absurd q
appended_both (Some x) (Some y) (Some z) xs ys p q = q ∙ ap (λ l. l ++ ys) p ∙ append_assoc x xs ys

pub appended_none : (a : Option (List ℕ)) → Appends a a []
appended_none None = tt
appended_none (Some x) = sym (append-nil x)

pub wrote_none : (a : Option (List ℕ)) (f : List ℕ) (s : State) → Wrote a a f s [] s
wrote_none a f s = record { room = 0; text = []; printed = none; wrote = appended_none a }

pub wrote_both : (a b c : Option (List ℕ)) (f : List ℕ) (s t u : State) (calls rest : List ℕ) → Wrote a b f s calls t → Wrote b c f t rest u → Wrote a c f s (calls ++ rest) u
wrote_both a b c f s t u calls rest p q =
    record {
      room = p.room + (length p.text + q.room);
      text = p.text ++ q.text;
      printed = printed_join p.room q.room p.printed q.printed;
      wrote = appended_both a b c p.text q.text p.wrote q.wrote;
    }

-- a turn: the lines of the calls behind those that are done, written as one piece
pub wrote_turn : (a b c : Option (List ℕ)) (f : List ℕ) (s t u : State) (calls before now : List ℕ) (used n end : ℕ) → Wrote a b f s (take used calls) t
    → Written f t (take (length calls - used) (drop used calls)) before now n end u → Appends b c (take end now) → Wrote a c f s (take (used + n) calls) u
wrote_turn a b c f s t u calls before now used n end p w q =
    let joined : take used calls ++ take n (take (length calls - used) (drop used calls)) ≡ take (used + n) calls =
    ap (λ l. take used calls ++ take n l) (part_rest used calls) ∙ sym (take-add used n calls) in
    subst (λ l. Wrote a c f s l u) joined
    (wrote_both a b c f s t u (take used calls) _ p (record { room = length before; text = take end now; printed = w.printed; wrote = q }))

-- nothing is refused where the plan is accepted, the state is sound and there is room for a line
pub lines_go : (f : List ℕ) (s : State) (n room : ℕ) → state_refusal f s ≡ 0 → most_line ≤ room → lines_refusal f s n room ≡ 0
unfolding lines_code
lines_go f s n room e h = rw (e, le-ltb room most_line h) (go (leb call_width n))
  where
    go : (b : Bool) → cond (b && false) no_room 0 ≡ 0
    go true = refl
    go false = refl

-- so no batch is refused then
pub lines_given : {f : List ℕ} {s : State} {calls before now : List ℕ} {e : Refusal} → Batched f s calls before now (Err e) → state_refusal f s ≡ 0 → most_line ≤ length before → ⊥
lines_given {f} {s} {calls} {before} {now} {e} b z h = number_no0 e (b.number ∙ lines_go f s (length calls) (length before) z h)

pub sound_zero : (f : List ℕ) (t : State) → refusal f ≡ 0 → sound (plan_of f) t ≡ true → state_refusal f t ≡ 0
sound_zero f t z s = rw (z, s) refl

after_sound : (f : List ℕ) (s t : State) (cs : List Call) → AfterBytes f s cs t → state_refusal f s ≡ 0 → state_refusal f t ≡ 0
after_sound f s t [] same e = rw same e
after_sound f s t (c ∷ cs) n e =
    elim (cases_zero (call_refusal f s c)) [
      | inl z ↦ sound_zero f t (state_accepted f s e).0 (n.sound z)
      | inr d ↦ rw (n.unchanged d) e
    ]

-- the state after calls on a sound one is sound
pub still_sound : {f : List ℕ} {room : ℕ} {s t : State} {calls text : List ℕ} → Printed f room s calls t text → state_refusal f s ≡ 0 → state_refusal f t ≡ 0
still_sound none e = e
still_sound {f} (more {t} {u} call w p r a) e = after_sound f t u (call_in (bytes_at call_width call 0)) a (still_sound p e)
