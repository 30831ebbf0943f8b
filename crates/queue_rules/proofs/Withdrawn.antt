-- A task gives up: it is out of line, and everybody else stands as before.
use Rattle.queue_rules.proofs.Ground.{ℕ, ◌<◌, Bool, true, false, cond, ◌&&◌, ◌||◌, not, or-true, true≢false, ◌≡◌, refl, sym, ◌∙◌}
use Rattle.queue_rules.proofs.Ground.{List, [], ◌∷◌, ◌++◌, eqb, eqb-true, eq-eqb, ne_eqb, by_eq, is_not_true, Terms, Turn, turn}
use Rattle.queue_rules.proofs.Ground.{Line, line, queue_of, among, stands_in, holds, has_turn, tasks_of, all_but, turn_with, turns_but}
use Rattle.queue_rules.proofs.Ground.{withdrawn}
use Rattle.queue_rules.specs.Rules.{waiting, is_head}
use Rattle.queue_rules.proofs.Cases.{by_test, or_no}
use Rattle.queue_rules.proofs.Sound.{Owns, Proper, nobody, stands, Sound, is_free, is_held}
use Rattle.queue_rules.proofs.FirstCome.{no_tasks}
use Rattle.queue_rules.proofs.Once.{Once, none, more, EachOnce, empty, next}

-- ── a list without one of its tasks ──

pub but_own : (i : ℕ) (us : List ℕ) → among i (all_but i us) ≡ false
but_own i [] = refl
but_own i (u ∷ us) = by_test (λ l. among i l ≡ false) (eqb u i) (λ _. but_own i us) (λ n. rw (n, but_own i us))

pub but_other : (i v : ℕ) → (v ≡ i → ⊥) → (us : List ℕ) → among i (all_but v us) ≡ among i us
but_other i v d [] = refl
but_other i v d (u ∷ us) =
    by_test (λ l. among i l ≡ (eqb u i || among i us)) (eqb u v)
    (λ e. rw (ne_eqb u i (λ x. d (sym (eqb-true u v e) ∙ x)), but_other i v d us))
    (λ _. rw (but_other i v d us))

-- who is in it was in it
pub but_among : (i v : ℕ) (us : List ℕ) → among i (all_but v us) ≡ true → among i us ≡ true
but_among i v us m =
    by_eq (λ (_ : Bool). among i us ≡ true) v i
    (λ e. absurd (true≢false (sym m ∙ rw e (but_own i us)))) (λ d. sym (but_other i v d us) ∙ m)

-- without who is not in it
pub but_none : (v : ℕ) (us : List ℕ) → among v us ≡ false → all_but v us ≡ us
but_none v [] a = refl
but_none v (u ∷ us) a = let (n, m) = or_no (eqb u v) (among v us) a in rw (n, but_none v us m)

once_but : (v : ℕ) {us : List ℕ} → Once us → Once (all_but v us)
once_but v none = none
once_but v (more {u = u} {us = us} a o) =
    by_test Once (eqb u v) (λ _. once_but v o)
    (λ _. more (is_not_true _ (λ m. true≢false (sym (but_among u v us m) ∙ a))) (once_but v o))

-- ── a queue of processors ──

-- a turn before others: it has its tasks, where there are any
with_stands : (i k : ℕ) (us : List ℕ) (q : List Turn) → stands_in i (turn_with k us ++ q) ≡ (among i us || stands_in i q)
with_stands i k [] q = refl
with_stands i k (u ∷ us) q = refl

with_tasks : (k j : ℕ) (us : List ℕ) (q : List Turn) → (j ≡ k → tasks_of k q ≡ []) → tasks_of k (turn_with j us ++ q) ≡ cond (eqb j k) us (tasks_of k q)
with_tasks k j [] q n = by_eq (λ (d : Bool). tasks_of k q ≡ cond d [] (tasks_of k q)) j k n (λ _. refl)
with_tasks k j (u ∷ us) q n = refl

with_none : (k j : ℕ) (us : List ℕ) (q : List Turn) → eqb j k ≡ false → has_turn k q ≡ false → has_turn k (turn_with j us ++ q) ≡ false
with_none k j [] q n a = a
with_none k j (u ∷ us) q n a = rw (n, a)

with_once : (k : ℕ) (us : List ℕ) {q : List Turn} → Once us → EachOnce q → EachOnce (turn_with k us ++ q)
with_once k [] o r = r
with_once k (u ∷ us) o r = next o r

pub turns_own : (v : ℕ) (q : List Turn) → stands_in v (turns_but v q) ≡ false
turns_own v [] = refl
turns_own v (turn k u us ∷ q) = with_stands v k (all_but v (u ∷ us)) (turns_but v q) ∙ rw (but_own v (u ∷ us), turns_own v q)

pub turns_other : (i v : ℕ) → (v ≡ i → ⊥) → (q : List Turn) → stands_in i (turns_but v q) ≡ stands_in i q
turns_other i v d [] = refl
turns_other i v d (turn k u us ∷ q) =
    with_stands i k (all_but v (u ∷ us)) (turns_but v q) ∙ rw (but_other i v d (u ∷ us), turns_other i v d q)

turns_none : (k v : ℕ) (q : List Turn) → has_turn k q ≡ false → has_turn k (turns_but v q) ≡ false
turns_none k v [] a = refl
turns_none k v (turn j u us ∷ q) a =
    let (n, m) = or_no (eqb j k) (has_turn k q) a in with_none k j (all_but v (u ∷ us)) (turns_but v q) n (turns_none k v q m)

turns_once : (v : ℕ) {q : List Turn} → EachOnce q → EachOnce (turns_but v q)
turns_once v empty = empty
turns_once v (next {k = k} {u = u} {us = us} o r) = with_once k (all_but v (u ∷ us)) (once_but v o) (turns_once v r)

module _ (t : Terms) (known : ℕ → Bool) (procs : ℕ) where
  owns_but : (k v : ℕ) (us : List ℕ) → Owns t known procs k us → Owns t known procs k (all_but v us)
  owns_but k v us o = record { each = λ i m. o.each i (but_among i v us m) }

  with_proper : (k : ℕ) (us : List ℕ) {q : List Turn} → k < procs → has_turn k q ≡ false → Owns t known procs k us → Proper t known procs q
      → Proper t known procs (turn_with k us ++ q)
  with_proper k [] lt a o r = r
  with_proper k (u ∷ us) lt a o r = stands lt a o r

  turns_proper : (v : ℕ) {q : List Turn} → Proper t known procs q → Proper t known procs (turns_but v q)
  turns_proper v nobody = nobody
  turns_proper v (stands {k = k} {u = u} {us = us} {rest = q} lt a o r) =
      with_proper k (all_but v (u ∷ us)) lt (turns_none k v q a) (owns_but k v (u ∷ us) o) (turns_proper v r)

  turns_tasks : (k v : ℕ) {q : List Turn} → Proper t known procs q → tasks_of k (turns_but v q) ≡ all_but v (tasks_of k q)
  turns_tasks k v nobody = refl
  turns_tasks k v (stands {k = j} {u = u} {us = us} {rest = q} lt a o r) =
      with_tasks k j (all_but v (u ∷ us)) (turns_but v q) (λ e. turns_tasks k v r ∙ rw (no_tasks k q (rw (← e) a)))
      ∙ rw (turns_tasks k v r)
      (by_eq (λ (d : Bool). cond d (all_but v (u ∷ us)) (all_but v (tasks_of k q)) ≡ all_but v (cond d (u ∷ us) (tasks_of k q))) j k
      (λ _. refl) (λ _. refl))

  -- ── a line ──

  pub sound_withdrawn : (v : ℕ) {l : Line} → Sound t known procs l → Sound t known procs (withdrawn v l)
  sound_withdrawn v is_free = is_free
  sound_withdrawn v (is_held {k = k} {u = u} {us = us} {rest = q} c (stands lt a o r)) =
      is_held c (stands lt (turns_none k v q a) (record { each = own }) (turns_proper v r))
    where
      own : (i : ℕ) → among i (u ∷ all_but v us) ≡ true → (t.processor i ≡ k) × (known i ≡ true)
      own i = by_eq (λ (d : Bool). (d || among i (all_but v us)) ≡ true → (t.processor i ≡ k) × (known i ≡ true)) u i
          (λ e _. o.each i (rw (eq-eqb u i e))) (λ _ m. o.each i (rw (but_among i v us m) (or-true (eqb u i))))

  -- all that leaves is that task, where it does not hold
  pub tasks_withdrawn : (k v : ℕ) {l : Line} → Sound t known procs l → holds v l ≡ false
      → tasks_of k (queue_of (withdrawn v l)) ≡ all_but v (tasks_of k (queue_of l))
  tasks_withdrawn k v is_free n = refl
  tasks_withdrawn k v (is_held {k = j} {u = u} {us = us} {rest = q} c (stands lt a o r)) n =
      rw (turns_tasks k v r)
      (by_eq (λ (d : Bool). cond d (u ∷ all_but v us) (all_but v (tasks_of k q)) ≡ all_but v (cond d (u ∷ us) (tasks_of k q))) j k
      (λ _. rw n) (λ _. refl))

pub each_withdrawn : (v : ℕ) (l : Line) → EachOnce (queue_of l) → EachOnce (queue_of (withdrawn v l))
each_withdrawn v (line h b []) o = o
each_withdrawn v (line h b (turn k u us ∷ q)) (next (more a o) r) =
    next (more (is_not_true _ (λ m. true≢false (sym (but_among u v us m) ∙ a))) (once_but v o)) (turns_once v r)

-- who holds goes on, and so does the head
pub withdrawn_holds : (i v : ℕ) (l : Line) → holds i (withdrawn v l) ≡ holds i l
withdrawn_holds i v (line h b []) = refl
withdrawn_holds i v (line h b (turn k u us ∷ q)) = refl

pub withdrawn_head : (k v : ℕ) (l : Line) → is_head k (withdrawn v l) ≡ is_head k l
withdrawn_head k v (line h b []) = refl
withdrawn_head k v (line h b (turn j u us ∷ q)) = refl

-- that task waits no more, and everybody else as before
pub withdrawn_own : (v : ℕ) (l : Line) → waiting v (withdrawn v l) ≡ false
withdrawn_own v (line h b []) = refl
withdrawn_own v (line h b (turn k u us ∷ q)) =
    rw (but_own v us, turns_own v q) (neither (eqb u v))
  where
    neither : (b : Bool) → (((b || false) || false) && not b) ≡ false
    neither true = refl
    neither false = refl

pub withdrawn_other : (i v : ℕ) → (v ≡ i → ⊥) → (l : Line) → waiting i (withdrawn v l) ≡ waiting i l
withdrawn_other i v d (line h b []) = refl
withdrawn_other i v d (line h b (turn k u us ∷ q)) = rw (but_other i v d us, turns_other i v d q)

-- so who waits then waited before
pub withdrawn_waiting : (i v : ℕ) (l : Line) → waiting i (withdrawn v l) ≡ true → waiting i l ≡ true
withdrawn_waiting i v l w =
    by_eq (λ (_ : Bool). waiting i l ≡ true) v i
    (λ e. absurd (true≢false (sym w ∙ rw e (withdrawn_own i l)))) (λ d. sym (withdrawn_other i v d l) ∙ w)
