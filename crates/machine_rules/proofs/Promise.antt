-- The promise of Waiting.antt holds for every valid plan, every list of calls and every start.
use Rattle.machine_rules.proofs.Ground.{ℕ, Bool, true, false, cond, true≢false, ◌≡◌, refl, ap, ◌∙◌, List, [], ◌∷◌, ◌++◌, eq-eqb}
use Rattle.machine_rules.proofs.Ground.{by_eq, Plan, Valid, task_number, Line, line, in_line, waiting, entered, ahead_in, limit, Waits}
use Rattle.machine_rules.proofs.Ground.{Call, Request, View, terms, call_code, request_answer, step, answer, after, ServedFrom}
use Rattle.machine_rules.proofs.Ground.{TaskKept, Asked}
use Rattle.queue_rules.proofs.Waiting.{entered_stands, entered_waits, entered_ahead}
use Rattle.machine_rules.specs.declared.Answer.TheVariants.{Refused}
use Rattle.machine_rules.specs.Machine.{accepted_answer}
use Rattle.machine_rules.specs.Waiting.{after_call, Served}
use Rattle.machine_rules.proofs.SoundLines.{accepted}
use Rattle.machine_rules.proofs.OnceLines.{Orderly, orderly_after}
use Rattle.machine_rules.proofs.Bounds.{served_from}
use Rattle.machine_rules.proofs.Since.{after_last, each_task, each_core}

module _ (p : Plan) where
  -- a request that is told to wait is not refused
  pub record Told (s : View) (tag q a m : ℕ) : Type 0 where
    pub code : call_code p s (Request tag q) ≡ 0
    pub waits : request_answer p (task_number p tag) q (s.lines q) ≡ Waits a m

  pub told : (s : View) (tag q a m : ℕ) → answer p s (Request tag q) ≡ Waits a m → Told s tag q a m
  unfolding answer
  told s tag q a m =
      let c : Call = Request tag q in
      by_eq (λ (d : Bool). cond d (accepted_answer p s c) (Refused (call_code p s c)) ≡ Waits a m → Told s tag q a m) (call_code p s c) 0
      (λ e x. record { code = e; waits = x })
      (λ n x. absurd (true≢false cc))

  -- task i waits in l, at most so long
  record WaitsIn (i q : ℕ) (l : Line) (most : ℕ) : Type 0 where
    waits : waiting i l ≡ true
    bound : limit (terms p q) i (ahead_in (terms p q) i l) ≡ most

  told_waits : (i q : ℕ) (l : Line) (a m : ℕ) → in_line i l ≡ false → request_answer p i q l ≡ Waits a m → WaitsIn i q (entered (terms p q) i l) m
  told_waits i q (line h b []) a m new e = absurd (true≢false cc)
  told_waits i q (line h b (x ∷ rest)) a m new e =
      record {
        waits = rw (entered_stands (terms p q) i (line h b (x ∷ rest)), entered_waits (terms p q) i h b x rest new);
        bound = ap (limit (terms p q) i) (entered_ahead (terms p q) i (line h b (x ∷ rest)) new) ∙ cc;
      }

  request_waits : (s : View) (tag q a m : ℕ) → answer p s (Request tag q) ≡ Waits a m
      → WaitsIn (task_number p tag) q ((step p s (Request tag q)).lines q) m
  unfolding step
  request_waits s tag q a m e =
      let t = told s tag q a m e in
      rw (t.code, eq-eqb q q refl) (told_waits (task_number p tag) q (s.lines q) a m (accepted p s tag q t.code).new t.waits)

module _ (p : Plan) (v : Valid p) (s : View) (o : Orderly p s) where
  from_call : (before : List Call) (c : Call) (since : List Call) → ServedFrom p (after_call p s before c) since
  from_call before c since = served_from p v (after_call p s before c) (orderly_after p v s (before ++ (c ∷ [])) o) since

  asked_kept : {calls : List Call} (tag q : ℕ) (w : Asked p s calls tag q)
      → TaskKept p (task_number p tag) q (after_call p s w.before (Request tag q)) w.since w.limit
  asked_kept tag q w =
      let here : View = after_call p s w.before (Request tag q) in
      let x : WaitsIn p (task_number p tag) q (here.lines q) w.limit =
      rw (after_last p s w.before (Request tag q)) (request_waits p (after p s w.before) tag q w.ahead w.limit w.answered) in
      rw x.bound at ((from_call w.before (Request tag q) w.since).task (task_number p tag) q x.waits)

  -- the promise for a list of calls
  pub all_served : (calls : List Call) → Served p s calls
  all_served calls =
      record {
        asked = asked_kept;
        sent = λ k q w. (from_call w.before w.call w.since).core k q w.went;
        start = served_from p v s o calls;
        each_task = each_task p v s calls o;
        each_core = each_core p v s calls o;
      }
