-- A task that waits is kept until it is granted: at most the limit behind the tasks ahead. And what a line shows of a task that comes to it.
use Rattle.queue_rules.proofs.Ground.{ℕ, ◌+◌, ◌*◌, ◌≤◌, Bool, true, false, cond, ◌||◌, or-true, true≢false, ◌≡◌, refl, sym, ap, ◌∙◌}
use Rattle.queue_rules.proofs.Ground.{List, [], ◌∷◌, ◌++◌, eqb, length, arith, eqb-false, eq-eqb, ne_eqb, by_eq, Terms, Turn, turn}
use Rattle.queue_rules.proofs.Ground.{Line, all_but, line, queue_of, among, stands_in, in_line, holds, tasks_of, ahead_of, sum_of, entered}
use Rattle.queue_rules.proofs.Ground.{limit}
use Rattle.queue_rules.specs.Rules.{ahead_in}
use Rattle.queue_rules.proofs.Cases.{or_no, by_test}
use Rattle.queue_rules.proofs.Withdrawn.{but_own}
use Rattle.queue_rules.proofs.Own.{own_stands}
use Rattle.queue_rules.proofs.FirstCome.{entered_queue, entered_holds, join_stands, comes_last}
use Rattle.queue_rules.proofs.Sound.{Fits, Sound, sound_queue}
use Rattle.queue_rules.proofs.Once.{tasks_none}
use Rattle.queue_rules.proofs.Kept.{Kept, Waiting, kept_bound}

module _ (t : Terms) (i : ℕ) where
  -- the processor of i
  abbrev core : ℕ
  core = t.processor i

  -- In a list of tasks: i waits at most n from when the first of them is granted. Each ahead costs its hold time, and perhaps a
  -- round of the other processors
  pub data Tasks : List ℕ → ℕ → Type 0 where
    first : {u n : ℕ} {us : List ℕ} → u ≡ i → Tasks (u ∷ us) n
    later : {u m n : ℕ} {us : List ℕ} → Tasks us m → t.hold u + t.wait core + m ≤ n → Tasks (u ∷ us) n

  tasks_last : (v : ℕ) {n : ℕ} {us : List ℕ} → Tasks us n → Tasks (us ++ (v ∷ [])) n
  tasks_last v (first e) = first e
  tasks_last v (later w le) = later (tasks_last v w) le

  tasks_there : {n : ℕ} {us : List ℕ} → Tasks us n → among i us ≡ true
  tasks_there (first {u = u} e) = rw (eq-eqb u i e)
  tasks_there (later {u = u} w le) = rw (tasks_there w) (or-true (eqb u i))

  tasks_more : {m n : ℕ} {us : List ℕ} → Tasks us m → m ≤ n → Tasks us n
  tasks_more (first e) le = first e
  tasks_more {n = n} (later {u = u} {m = m} w l) le = later {u = u} {m = m} {n = n} w (omega arith)

  -- another goes
  tasks_but : (v : ℕ) → (v ≡ i → ⊥) → {n : ℕ} {us : List ℕ} → Tasks us n → Tasks (all_but v us) n
  tasks_but v d {n} (first {u = u} {us = us} e) = rw (ne_eqb u v (λ x. d (sym x ∙ e))) (first e)
  tasks_but v d {n} (later {u = u} {m = m} {us = us} w le) =
      by_test (λ l. Tasks l n) (eqb u v) (λ _. tasks_more {n = n} (tasks_but v d w) (omega arith)) (λ _. later (tasks_but v d w) le)

  pub task_kept : Kept t core (holds i) (among i) Tasks
  task_kept = record {
    some = λ o. elim o [ ];
    grows = tasks_last;
    next = λ {h} {b} {j} {u} e o nh. elim o [ first s ↦ absurd (eqb-false u i nh s) | later {m = m} w le ↦ record { rest = m; own = w; sum = le } ];
    own_there = tasks_there;
    there_behind = λ {u} {us} m. rw m (or-true (eqb u i));
    there_next = λ {h} {b} {j} {u} e m nh. rw nh at m;
    shrinks = λ v {n} {us} o m. tasks_but v (λ e. true≢false (sym m ∙ rw e (but_own i us))) o;
  }

  -- what the tasks ahead cost
  abbrev cost : List ℕ → ℕ
  cost us = sum_of t.hold us + length us * t.wait core

  tasks_cost : (us : List ℕ) → among i us ≡ true → Tasks us (cost (ahead_of i us))
  tasks_cost [] = λ m. absurd (true≢false (sym m))
  tasks_cost (u ∷ us) =
      by_eq (λ (d : Bool). (d || among i us) ≡ true → Tasks (u ∷ us) (cost (cond d [] (u ∷ ahead_of i us)))) u i
      (λ e x. first e)
      (λ n x. later {u = u} {m = cost (ahead_of i us)} {n = cost (u ∷ ahead_of i us)} (tasks_cost us x) (omega arith))

  pub wait_bound : (known : ℕ → Bool) (procs : ℕ) → Fits t known procs → (l : Line) → Sound t known procs l → in_line i l ≡ true → holds i l ≡ false
      → Waiting t core (holds i) (among i) Tasks (limit t i (ahead_in t i l)) l
  wait_bound known procs fit l s m nh =
      kept_bound t core (holds i) (among i) Tasks task_kept known procs fit l (cost (ahead_in t i l)) _ s
      (tasks_cost _ (sym (own_stands t known procs i (sound_queue t known procs s)) ∙ m)) nh (omega arith)

  -- ── i itself comes, to a line that is held ──

  pub entered_stands : (l : Line) → in_line i (entered t i l) ≡ true
  entered_stands l = rw (entered_queue t i l, join_stands t i i (queue_of l), eq-eqb i i refl) (or-true (in_line i l))

  pub entered_waits : (h b : ℕ) (x : Turn) (q : List Turn) → stands_in i (x ∷ q) ≡ false → holds i (entered t i (line h b (x ∷ q))) ≡ false
  entered_waits h b (turn k u us) q a =
      let (m, _) = or_no (among i (u ∷ us)) (stands_in i q) a in
      let (n, _) = or_no (eqb u i) (among i us) m in
      rw (entered_holds t i i h b (turn k u us) q) n

  pub entered_ahead : (l : Line) → in_line i l ≡ false → ahead_in t i (entered t i l) ≡ tasks_of core (queue_of l)
  entered_ahead l a = rw (comes_last t i core l, eq-eqb core core refl) (last (tasks_of core (queue_of l)) (tasks_none i core (queue_of l) a))
    where
      last : (us : List ℕ) → among i us ≡ false → ahead_of i (us ++ (i ∷ [])) ≡ us
      last [] a = rw (eq-eqb i i refl)
      last (u ∷ us) a = let (n, m) = or_no (eqb u i) (among i us) a in rw n (ap (λ (z : List ℕ). u ∷ z) (last us m))
