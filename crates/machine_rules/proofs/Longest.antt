-- The longest wait: its figures, and that no request is told more. Who stands ahead of a task is one of its fellows, and stands there
-- once; so their hold times are at most those of all fellows.
use Rattle.machine_rules.proofs.Ground.{ℕ, ◌+◌, ◌≤◌, ◌<◌, true, false, true≢false, ◌≡◌, sym, ap, ◌∙◌, List, [], ◌∷◌, length, arith}
use Rattle.machine_rules.proofs.Ground.{eq-eqb, ne_eqb, list_below, first_zero, Plan, Valid, processor_of, global, hold_at, fellow}
use Rattle.machine_rules.proofs.Ground.{wait_time, task_number, use_code, Line, line, among, in_line, queue_of, tasks_of, ahead_in, limit}
use Rattle.machine_rules.proofs.Ground.{EachOnce, Waits, Call, Request, View, terms, request_code, request_answer, answer, after}
use Rattle.machine_rules.proofs.Ground.{Event, Bounded, Asked, Kept, Waiter, fellows, longest_wait}
use Rattle.folds.proofs.Ground.{◌*◌, mul-le-mul}
use Rattle.folds.specs.Below.{count_below}
use Rattle.folds.proofs.Figures.{sum_same}
use Rattle.analysis_equations.specs.HoldTimes.{budget}
use Rattle.analysis_equations.specs.Blocking.{ceil_div, fellow_holds, section_wait}
use Rattle.analysis_equations.proofs.Laws.{fellow_hold}
use Rattle.queue_rules.specs.Rules.{sum_of}
use Rattle.queue_rules.proofs.Lists.{list_length, list_sum}
use Rattle.queue_rules.proofs.Sound.{sound_queue}
use Rattle.queue_rules.proofs.Once.{Once, once_tasks, ahead_among, ahead_once, tasks_none, tasks_own, once_sum, once_length, limit_more}
use Rattle.machine_rules.specs.Longest.{NeverLonger}
use Rattle.machine_rules.proofs.SoundLines.{known, SoundAt, accepted, known_sharing}
use Rattle.machine_rules.proofs.OnceLines.{Orderly, orderly_after}
use Rattle.machine_rules.proofs.Promise.{told, all_served}

module _ (p : Plan) where
  -- how many fellows there are, and their hold times added up
  pub fellows_count : (i q : ℕ) → length (fellows p i q) ≡ count_below p.tasks (fellow p i q)
  unfolding fellows
  fellows_count i q = list_length p.tasks (fellow p i q)

  -- the longest wait in figures: the sum of the fellows' hold times, and one wait time more than there are fellows
  pub longest_figures : (i q : ℕ) → global p q ≡ true
      → longest_wait p i q ≡ fellow_holds p i q + (length (fellows p i q) + 1) * wait_time p (processor_of p i) q
  unfolding longest_wait fellows fellow_holds
  longest_figures i q g =
      ap (λ (x : ℕ). x + (length (fellows p i q) + 1) * wait_time p (processor_of p i) q)
      (list_sum (λ j. hold_at p j q) p.tasks (fellow p i q) ∙ sum_same p.tasks _ _ (λ j l. fellow_hold p i q j g))

  -- a section's share of the waiting side covers the longest wait where there are no more fellows than turns by the quotient; a law for
  -- readers
  pub longest_section : (i q : ℕ) → global p q ≡ true
      → length (fellows p i q) ≤ ceil_div (2 * fellow_holds p i q) (budget p (processor_of p i) q) → longest_wait p i q ≤ section_wait p i q
  unfolding section_wait
  longest_section i q g few =
      let turns : ℕ = ceil_div (2 * fellow_holds p i q) (budget p (processor_of p i) q) in
      let w : ℕ = wait_time p (processor_of p i) q in
      let most : length (fellows p i q) + 1 ≤ turns + 1 = omega (arith, few) in
      let more : (length (fellows p i q) + 1) * w ≤ (turns + 1) * w = mul-le-mul most (omega arith) in
      omega (arith, longest_figures i q g, more)

module _ (p : Plan) (v : Valid p) where
  -- a task of its processor that is in line, and another, is a fellow
  line_fellows : (i q : ℕ) {l : Line} → SoundAt p q l
      → (j : ℕ) → among j (tasks_of (processor_of p i) (queue_of l)) ≡ true → (j ≡ i → ⊥) → (j < p.tasks) × (fellow p i q j ≡ true)
  line_fellows i q w j a d =
      let (e, k) = tasks_own (terms p q) (known p q) p.processors j (processor_of p i) (sound_queue (terms p q) (known p q) p.processors w) a in
      let r = known_sharing p v j q k in
      (r.task, rw (eq-eqb _ _ e, r.used, ne_eqb j i d))

  -- with some fellows ahead, each once, the limit is at most the longest wait
  record AtMost (i q ahead most : ℕ) : Type 0 where
    few : ahead ≤ length (fellows p i q)
    short : most ≤ longest_wait p i q

  fellows_most : (i q : ℕ) {us : List ℕ} → Once us → ((j : ℕ) → among j us ≡ true → (j < p.tasks) × (fellow p i q j ≡ true))
      → AtMost i q (length us) (limit (terms p q) i us)
  unfolding fellows longest_wait
  fellows_most i q {us} once h =
      let all : List ℕ = list_below p.tasks (fellow p i q) in
      let sums : sum_of (λ j. hold_at p j q) us ≤ sum_of (λ j. hold_at p j q) all = once_sum p.tasks (fellow p i q) once h (λ j. hold_at p j q) in
      let few : length us ≤ length all = once_length p.tasks (fellow p i q) once h in
      record { few = few; short = limit_more (terms p q) i us all sums few }

  -- so it is for a task that asks, and for one that waits
  told_most : (i q a m : ℕ) (l : Line) → SoundAt p q l → EachOnce (queue_of l) → in_line i l ≡ false
      → request_answer p i q l ≡ Waits a m → AtMost i q a m
  told_most i q a m (line h b []) w o new e = absurd (true≢false cc)
  told_most i q a m (line h b (x ∷ rest)) w o new e =
      let us : List ℕ = tasks_of (processor_of p i) (x ∷ rest) in
      let r = fellows_most i q (once_tasks (processor_of p i) o)
      (λ j c. line_fellows i q w j c (λ s. true≢false (sym c ∙ rw s (tasks_none i (processor_of p i) (x ∷ rest) new)))) in
      let ea : length us ≡ a = cc in
      let em : limit (terms p q) i us ≡ m = cc in
      record { few = omega (arith, r.few, ea); short = omega (arith, r.short, em) }

  waiting_most : (i q : ℕ) (l : Line) → SoundAt p q l → EachOnce (queue_of l) → limit (terms p q) i (ahead_in (terms p q) i l) ≤ longest_wait p i q
  waiting_most i q l w o =
      (fellows_most i q (ahead_once i (once_tasks (processor_of p i) o))
      (λ j c. let (x, d) = ahead_among i j (tasks_of (processor_of p i) (queue_of l)) c in line_fellows i q w j x d)).short

  request_most : (s : View) (tag q a m : ℕ) → Orderly p s → answer p s (Request tag q) ≡ Waits a m → AtMost (task_number p tag) q a m
  request_most s tag q a m o e =
      let t = told p s tag q a m e in
      told_most (task_number p tag) q a m (s.lines q) (o.sound q) (o.once q) (accepted p s tag q t.code).new t.waits

  -- a request that waits is one of which the question is not refused
  pub waits_asked : (s : View) (tag q a m : ℕ) → answer p s (Request tag q) ≡ Waits a m → use_code p tag q ≡ 0
  unfolding request_code
  waits_asked s tag q a m e = first_zero (use_code p tag q) _ (told p s tag q a m e).code

  -- a wait that is bounded is bounded by more
  bounded_more : {e g : Event p} {s : View} {cs : List Call} {m n : ℕ} → m ≤ n → Bounded p e g s cs m → Bounded p e g s cs n
  bounded_more {m = m} {n = n} l r =
      record {
        lasts = λ h. omega (arith, r.lasts h);
        comes = λ h. let w = r.comes (omega arith) in
            record { early = w.early; call = w.call; late = w.late; split = w.split; happens = w.happens; soon = omega (arith, w.soon) };
      }

  kept_more : {w : Waiter p} {s : View} {cs : List Call} {m n : ℕ} → m ≤ n → Kept p w s cs m → Kept p w s cs n
  kept_more l r = record { bound = bounded_more l r.bound; only = r.only; own = r.own; stays = λ h. bounded_more l (r.stays h) }

  module _ (s : View) (o : Orderly p s) where
    -- after any list of calls
    pub never_more : (calls : List Call) (tag q a m : ℕ) → answer p (after p s calls) (Request tag q) ≡ Waits a m
        → m ≤ longest_wait p (task_number p tag) q
    never_more calls tag q a m e = (request_most (after p s calls) tag q a m (orderly_after p v s calls o) e).short

    -- the promise of the longest wait, for every list of calls
    pub never_longer : (calls : List Call) → NeverLonger p s calls
    never_longer calls =
        let kept = all_served p v s o calls in
        record {
          told_ahead = λ tag q w. (most tag q w).few;
          told_limit = λ tag q w. (most tag q w).short;
          asked = λ tag q w. kept_more (most tag q w).short (kept.asked tag q w);
          start = λ i q w. kept_more (waiting_most i q (s.lines q) (o.sound q) (o.once q)) (kept.start.task i q w);
        }
      where
        most : (tag q : ℕ) (w : Asked p s calls tag q) → AtMost (task_number p tag) q w.ahead w.limit
        most tag q w = request_most (after p s w.before) tag q w.ahead w.limit (orderly_after p v s w.before o) w.answered
