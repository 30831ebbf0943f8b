-- What the bytes of a call print and do, once it is known whether they are a call.
use Rattle.print_calls.proofs.Ground.{ℕ, ◌≡◌, refl, List, [], ◌∷◌, Call, Answer, State, reply}
use Rattle.print_calls.proofs.Ground.{CallBytes, call_in, most_line, call_line, Stepped}
use Rattle.refusals.specs.Numbers.{no_call}
use Rattle.print_text.specs.Text.{PutIn}
use Rattle.machine.specs.Replies.{Next}
use Rattle.print_lines.specs.Lines.{refused_line, answer_line}

module _ (f : List ℕ) (s : State) (b : CallBytes) {before now : List ℕ} {at end : ℕ} where
  pub stepped_none : call_in b ≡ [] → PutIn before now at most_line (refused_line no_call) end
      → Stepped f s b before now at (record { end = end; state = s })
  unfolding call_line
  stepped_none e p = record { line = rw e p; after = rw e refl }

  pub stepped_call : (c : Call) {a : Answer} {t : State} → call_in b ≡ c ∷ [] → a ≡ reply f s c → Next f s c t
      → PutIn before now at most_line (answer_line f b.tag b.resource a) end
      → Stepped f s b before now at (record { end = end; state = t })
  unfolding call_line
  stepped_call c e r n p = record { line = rw (e, ← r) p; after = rw e n }
