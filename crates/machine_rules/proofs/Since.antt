-- Everybody who waits after a list of calls has done so since the start, or since a call of the list.
use Rattle.machine_rules.proofs.Ground.{ℕ, Bool, true, false, ◌&&◌, not, and-false, true≢false, ◌≡◌, refl, sym, ap, ◌∙◌, ◌⊎◌, inl}
use Rattle.machine_rules.proofs.Ground.{inr, List, [], ◌∷◌, ◌++◌, eq-eqb, not-true, and_parts, Plan, Valid, task_number, Line, line}
use Rattle.machine_rules.proofs.Ground.{in_line, holds, queued, is_head, waiting, without, entered, Waits, Call, Request, View, fresh}
use Rattle.machine_rules.proofs.Ground.{terms, call_code, request_answer, step, answer, after, Event, ended, ends, gives_up, occurs}
use Rattle.machine_rules.proofs.Ground.{task_for, is_not_true}
use Rattle.folds.proofs.Ground.{◌||◌, ⊎_elim}
use Rattle.queue_rules.proofs.Stays.{entered_waiting, released_waiting, ticked_waiting}
use Rattle.queue_rules.proofs.Withdrawn.{withdrawn_waiting}
use Rattle.machine_rules.specs.Waiting.{StillWaits, StillWithout, TaskSince, asked_since, task_since_start, CoreSince, sent_since, core_since_start, EachSince}
use Rattle.machine_rules.proofs.Moves.{Move, stays, enters, leaves, gives_up_lem, ticks, moved}
use Rattle.machine_rules.proofs.SoundLines.{known, fits}
use Rattle.machine_rules.proofs.OnceLines.{Orderly, orderly_fresh, orderly_step}
use Rattle.machine_rules.proofs.GivenUp.{task_gave}

pub after_last : (p : Plan) (s : View) (cs : List Call) (c : Call) → after p s (cs ++ (c ∷ [])) ≡ step p (after p s cs) c
after_last p s [] c = refl
after_last p s (d ∷ cs) c = after_last p (step p s d) cs c

-- A wait that is seen in a state, which a call ends by event e, and that begins by calls of which `Begins` tells
module _ (p : Plan) (seen : View → Bool) (e : Event p) (Begins : View → Call → Type 0) where
  -- it goes on since the start, or since a call by which it began
  data Since (s : View) (cs : List Call) : Type 0 where
    at_start : seen s ≡ true → occurs p e s cs ≡ false → Since s cs
    by_call : (before : List Call) (call : Call) (since : List Call) → cs ≡ before ++ (call ∷ since) → Begins (after p s before) call
        → seen (step p (after p s before) call) ≡ true → occurs p e (step p (after p s before) call) since ≡ false → Since s cs

  module _ (v : Valid p) (goes_on : (s : View) (c : Call) → seen (step p s c) ≡ true → e s c ≡ false)
      (begins : (s : View) (c : Call) → Orderly p s → seen (step p s c) ≡ true → (seen s ≡ true) ⊎ Begins s c) where
    seen_since : (s : View) (cs : List Call) → Orderly p s → seen (after p s cs) ≡ true → Since s cs
    seen_since s [] o w = at_start w refl
    seen_since s (c ∷ cs) o w = go (seen_since (step p s c) cs (orderly_step p v s c o) w)
      where
        go : Since (step p s c) cs → Since s (c ∷ cs)
        go (at_start x y) = ⊎_elim (λ h. at_start h (rw (goes_on s c x, y))) (λ h. by_call [] c cs refl h x y) (begins s c o x)
        go (by_call before d since l b x y) = by_call (c ∷ before) d since (ap (λ (l : List Call). c ∷ l) l) b x y

module _ (p : Plan) (v : Valid p) where
  -- ── tasks ──

  -- the call is a request of task i for q that is told to wait
  data Requests (s : View) (i q : ℕ) : Call → Type 0 where
    requests : {tag a m : ℕ} → task_number p tag ≡ i → answer p s (Request tag q) ≡ Waits a m → Requests s i q (Request tag q)

  -- a request that makes its task wait is told so
  told_wait : (s : View) (tag q : ℕ) → call_code p s (Request tag q) ≡ 0
      → waiting (task_number p tag) (entered (terms p q) (task_number p tag) (s.lines q)) ≡ true → Requests s (task_number p tag) q (Request tag q)
  unfolding answer
  told_wait s tag q e w = go (s.lines q) refl w
    where
      i : ℕ
      i = task_number p tag

      go : (l : Line) → s.lines q ≡ l → waiting i (entered (terms p q) i l) ≡ true → Requests s i q (Request tag q)
      go (line h b []) f x = absurd (true≢false (sym (rw (eq-eqb i i refl) at x)))
      go (line h b (x ∷ rest)) f _ =
          let told : answer p s (Request tag q) ≡ request_answer p i q (s.lines q) = rw e in requests refl (told ∙ ap (request_answer p i q) f)

  task_begins : (i q : ℕ) (s : View) (c : Call) → Orderly p s → waiting i ((step p s c).lines q) ≡ true
      → (waiting i (s.lines q) ≡ true) ⊎ Requests s i q c
  task_begins i q s c o = go (moved p s q c)
    where
      go : {c : Call} {l : Line} → Move p s q c l → waiting i l ≡ true → (waiting i (s.lines q) ≡ true) ⊎ Requests s i q c
      go (stays z) w = inl w
      go (enters tag e) w =
          ⊎_elim (λ h. inl h) (λ h. inr (rw h at (told_wait s tag q e (rw (← h) at w))))
          (entered_waiting (terms p q) (known p q) p.processors i (task_number p tag) (s.lines q) w)
      go (leaves tag) w = inl (released_waiting (terms p q) (known p q) p.processors i (fits p v q) (o.sound q) (o.once q) w)
      go (gives_up_lem tag e) w = inl (withdrawn_waiting i (task_number p tag) (s.lines q) w)
      go ticks w = inl (ticked_waiting (terms p q) (known p q) p.processors i (fits p v q) (o.sound q) (o.once q) w)

  -- each task that waits has asked
  pub each_task : (s : View) (calls : List Call) → Orderly p s → (i q : ℕ) → waiting i ((after p s calls).lines q) ≡ true → TaskSince p s calls i q
  each_task s calls o i q w =
      go (seen_since p (λ s. waiting i (s.lines q)) (ended p (task_for p i q)) (λ s c. Requests s i q c) v goes (task_begins i q) s calls o w)
    where
      goes : (s : View) (c : Call) → waiting i ((step p s c).lines q) ≡ true → ended p (task_for p i q) s c ≡ false
      goes s c x =
          let l = (step p s c).lines q in
          let (_, n) = and_parts (in_line i l) _ x in
          let stays : gives_up p i q s c ≡ false = is_not_true _ (λ h. let (_, z) = task_gave p q s i c h in true≢false (sym x ∙ z)) in
          rw (not-true (holds i l) n, and-false (not (holds i (s.lines q))), stays)

      go : Since p (λ s. waiting i (s.lines q)) (ended p (task_for p i q)) (λ s c. Requests s i q c) s calls → TaskSince p s calls i q
      go (at_start x y) = task_since_start x y
      go (by_call before _ since l (requests {tag = tag} {a = a} {m = m} e t) x y) =
          asked_since (record {
            tag = tag;
            task = e;
            request = record { before = before; since = since; list = l; ahead = a; limit = m; answered = t };
            still = rw (after_last p s before (Request tag q)) y;
          })

  -- ── cores ──

  -- core k was not queued for q without it
  abbrev Comes : ℕ → ℕ → View → Call → Type 0
  Comes k q s c = (not (queued k (s.lines q)) || is_head k (s.lines q)) ≡ true

  core_begins : (queued head : Bool) → ((queued && not head) ≡ true) ⊎ ((not queued || head) ≡ true)
  core_begins true true = inr refl
  core_begins true false = inl refl
  core_begins false b = inr refl

  -- each core that is without the resource came to the queue, or was sent to its tail
  pub each_core : (s : View) (calls : List Call) → Orderly p s → (k q : ℕ) → without k ((after p s calls).lines q) ≡ true → CoreSince p s calls k q
  each_core s calls o k q w =
      go (seen_since p (λ s. without k (s.lines q)) (ends p k q) (Comes k q) v (λ s c x. rw x)
      (λ s c _ _. core_begins (queued k (s.lines q)) (is_head k (s.lines q))) s calls o w)
    where
      go : Since p (λ s. without k (s.lines q)) (ends p k q) (Comes k q) s calls → CoreSince p s calls k q
      go (at_start x y) = core_since_start x y
      go (by_call before c since l b x y) =
          let last = after_last p s before c in
          sent_since (record {
            sent = record { before = before; call = c; since = since; list = l; came = b; went = rw last x };
            still = rw last y;
          })

  -- from a fresh machine on
  pub each_since : (calls : List Call) → EachSince p calls
  each_since calls =
      record {
        task = λ i q w. task i q (each_task fresh calls (orderly_fresh p) i q w);
        core = λ k q w. core k q (each_core fresh calls (orderly_fresh p) k q w);
      }
    where
      task : (i q : ℕ) → TaskSince p fresh calls i q → StillWaits p fresh calls i q
      task i q (asked_since x) = x
      task i q (task_since_start x y) = absurd (true≢false (sym x))

      core : (k q : ℕ) → CoreSince p fresh calls k q → StillWithout p fresh calls k q
      core k q (sent_since x) = x
      core k q (core_since_start x y) = absurd (true≢false (sym x))
