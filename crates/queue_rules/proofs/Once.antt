-- Nobody stands in line twice, so the tasks ahead of one are at most all those that may be: a sum over them is at most the sum over
-- all.
use Rattle.queue_rules.proofs.Ground.{ℕ, ◌+◌, ◌*◌, ◌-◌, ◌≤◌, ◌<◌, Bool, true, false, cond, ◌||◌, or-true, true≢false, ◌≡◌, refl, sym}
use Rattle.queue_rules.proofs.Ground.{ap, ◌∙◌, List, [], ◌∷◌, ◌++◌, eqb, length, arith, eq-eqb, eqb-true, eqb-false, ne_eqb}
use Rattle.queue_rules.proofs.Ground.{sum_below, list_below, or_out, is_not_true, by_eq, Terms, Turn, turn, Line, line, among}
use Rattle.queue_rules.proofs.Ground.{stands_in, tasks_of, queue_of, ahead_of, sum_of, join, entered, leave, released, ticked, limit}
use Rattle.folds.proofs.Ground.{mul-le-mul}
use Rattle.queue_rules.proofs.Cases.{by_test, by_leave, or_no}
use Rattle.queue_rules.proofs.Sound.{among_last, but, but_lt, Proper, nobody, stands}
use Rattle.queue_rules.proofs.FirstCome.{entered_queue, begun_queue}
use Rattle.queue_rules.proofs.Lists.{list_sum, sum_ones}

-- no task is in the list twice
pub data Once : List ℕ → Type 0 where
  none : Once []
  more : {u : ℕ} {us : List ℕ} → among u us ≡ false → Once us → Once (u ∷ us)

-- nor in the tasks of one turn
pub data EachOnce : List Turn → Type 0 where
  empty : EachOnce []
  next : {k u : ℕ} {us : List ℕ} {rest : List Turn} → Once (u ∷ us) → EachOnce rest → EachOnce (turn k u us ∷ rest)

-- ── every move keeps that ──

once_last : (v : ℕ) {us : List ℕ} → among v us ≡ false → Once us → Once (us ++ (v ∷ []))
once_last v a none = more refl none
once_last v a (more {u = u} {us = us} b o) =
    let (n, m) = or_no (eqb u v) (among v us) a in
    more (among_last u v us ∙ rw (b, ne_eqb v u (λ e. eqb-false u v n (sym e)))) (once_last v m o)

each_last : (k u : ℕ) (us : List ℕ) {q : List Turn} → Once (u ∷ us) → EachOnce q → EachOnce (q ++ (turn k u us ∷ []))
each_last k u us o empty = next o empty
each_last k u us o (next p r) = next p (each_last k u us o r)

module _ (t : Terms) where
  each_join : (v : ℕ) {q : List Turn} → stands_in v q ≡ false → EachOnce q → EachOnce (join t v q)
  each_join v a empty = next (more refl none) empty
  each_join v a (next {k = k} {u = u} {us = us} {rest = rest} o r) =
      let (n, m) = or_no (among v (u ∷ us)) (stands_in v rest) a in
      by_test EachOnce (eqb k (t.processor v)) (λ e. next (once_last v n o) r) (λ e. next o (each_join v m r))

  each_leave : (b : ℕ) {q : List Turn} → EachOnce q → EachOnce (queue_of (leave t b q))
  each_leave b empty = empty
  each_leave b (next {us = []} {rest = rest} o r) = rw (begun_queue t rest) r
  each_leave b (next {k = k} {u = u} {us = v ∷ vs} {rest = rest} (more _ o) r) =
      by_leave t (λ l. EachOnce (queue_of l)) b k u v vs rest (λ _. next o r)
      (rw (begun_queue t (rest ++ (turn k v vs ∷ []))) (each_last k v vs o r))

  pub each_entered : (i : ℕ) (l : Line) → stands_in i (queue_of l) ≡ false → EachOnce (queue_of l) → EachOnce (queue_of (entered t i l))
  each_entered i l a o = rw (entered_queue t i l) (each_join i a o)

  pub each_released : (l : Line) → EachOnce (queue_of l) → EachOnce (queue_of (released t l))
  each_released (line h b queue) o = each_leave b o

  pub each_ticked : (l : Line) → EachOnce (queue_of l) → EachOnce (queue_of (ticked t l))
  each_ticked (line h b []) o = o
  each_ticked (line h b (x ∷ rest)) o = by_test (λ l. EachOnce (queue_of l)) (eqb (h - 1) 0) (λ _. each_leave (b - 1) o) (λ _. o)

-- ── the tasks of a processor that are in line ──

pub once_tasks : (k : ℕ) {q : List Turn} → EachOnce q → Once (tasks_of k q)
once_tasks k empty = none
once_tasks k (next {k = j} o r) = by_test Once (eqb j k) (λ _. o) (λ _. once_tasks k r)

-- those ahead of task i are some of them, and i is not
pub ahead_among : (i j : ℕ) (us : List ℕ) → among j (ahead_of i us) ≡ true → (among j us ≡ true) × (j ≡ i → ⊥)
ahead_among i j [] = λ a. absurd (true≢false (sym a))
ahead_among i j (u ∷ us) =
    by_eq (λ (d : Bool). among j (cond d [] (u ∷ ahead_of i us)) ≡ true → ((eqb u j || among j us) ≡ true) × (j ≡ i → ⊥)) u i
    (λ _ a. absurd (true≢false (sym a)))
    (λ n a. or_out (eqb u j) (among j (ahead_of i us)) _ a
    (λ m. (rw m, λ e. n (eqb-true u j m ∙ e)))
    (λ m. let (x, d) = ahead_among i j us m in (rw x (or-true (eqb u j)), d)))

pub ahead_once : (i : ℕ) {us : List ℕ} → Once us → Once (ahead_of i us)
ahead_once i none = none
ahead_once i (more {u = u} {us = us} a o) =
    by_test Once (eqb u i) (λ _. none)
    (λ _. more (is_not_true _ (λ m. let (x, _) = ahead_among i u us m in true≢false (sym x ∙ a))) (ahead_once i o))

-- who is not in line is not among them
pub tasks_none : (i k : ℕ) (q : List Turn) → stands_in i q ≡ false → among i (tasks_of k q) ≡ false
tasks_none i k [] a = refl
tasks_none i k (turn j u us ∷ rest) a =
    let (n, m) = or_no (among i (u ∷ us)) (stands_in i rest) a in
    by_test (λ us. among i us ≡ false) (eqb j k) (λ _. n) (λ _. tasks_none i k rest m)

-- each of them may come to the line, and is of that processor
pub tasks_own : (t : Terms) (known : ℕ → Bool) (procs i k : ℕ) {q : List Turn} → Proper t known procs q → among i (tasks_of k q) ≡ true
    → (t.processor i ≡ k) × (known i ≡ true)
tasks_own t known procs i k nobody = λ a. absurd (true≢false (sym a))
tasks_own t known procs i k (stands {k = j} {u = u} {us = us} {rest = rest} lt n o r) =
    by_eq (λ (d : Bool). among i (cond d (u ∷ us) (tasks_of k rest)) ≡ true → (t.processor i ≡ k) × (known i ≡ true)) j k
    (λ e a. let (x, k) = o.each i a in (x ∙ e, k))
    (λ d a. tasks_own t known procs i k r a)

-- ── sums over them ──

sum_but : (g : ℕ → ℕ) (v : ℕ) (us : List ℕ) → among v us ≡ false → sum_of g us ≡ sum_of (but g v) us
sum_but g v [] a = refl
sum_but g v (u ∷ us) a =
    let (n, m) = or_no (eqb u v) (among v us) a in rw n (ap (λ (x : ℕ). g u + x) (sum_but g v us m))

sum_once : (g : ℕ → ℕ) (n : ℕ) {us : List ℕ} → Once us → ((j : ℕ) → among j us ≡ true → j < n) → sum_of g us ≤ sum_below n g
sum_once g n none h = omega arith
sum_once g n (more {u = u} {us = us} a o) h =
    let first : u < n = h u (rw (eq-eqb u u refl)) in
    let rest = sum_once (but g u) n o (λ j m. h j (rw m (or-true (eqb u j)))) in
    omega (arith, but_lt g u n first, sum_but g u us a, rest)

-- those who all have f
sum_where : (g : ℕ → ℕ) (f : ℕ → Bool) (us : List ℕ) → ((j : ℕ) → among j us ≡ true → f j ≡ true) → sum_of g us ≡ sum_of (λ j. cond (f j) (g j) 0) us
sum_where g f [] h = refl
sum_where g f (u ∷ us) h =
    let e : f u ≡ true = h u (rw (eq-eqb u u refl)) in
    rw e (ap (λ (x : ℕ). g u + x) (sum_where g f us (λ j m. h j (rw m (or-true (eqb u j))))))

-- so a list in which each has f and is below n is at most that of all such, in a sum and in length
module _ (n : ℕ) (f : ℕ → Bool) {us : List ℕ} (o : Once us) (h : (j : ℕ) → among j us ≡ true → (j < n) × (f j ≡ true)) where
  pub once_sum : (g : ℕ → ℕ) → sum_of g us ≤ sum_of g (list_below n f)
  once_sum g =
      let low : (j : ℕ) → among j us ≡ true → j < n = λ j m. let (l, _) = h j m in l in
      let all : (j : ℕ) → among j us ≡ true → f j ≡ true = λ j m. let (_, t) = h j m in t in
      omega (arith, sum_where g f us all, sum_once (λ j. cond (f j) (g j) 0) n o low, list_sum g n f)

  pub once_length : length us ≤ length (list_below n f)
  once_length = omega (arith, once_sum (λ u. 1), sum_ones us, sum_ones (list_below n f))

-- more tasks ahead, a greater limit
pub limit_more : (t : Terms) (i : ℕ) (a b : List ℕ) → sum_of t.hold a ≤ sum_of t.hold b → length a ≤ length b → limit t i a ≤ limit t i b
limit_more t i a b s l =
    let w : ℕ = t.wait (t.processor i) in
    let m : (length a + 1) * w ≤ (length b + 1) * w = mul-le-mul {n₁ = length a + 1} {n₂ = length b + 1} (omega arith) (omega arith) in
    omega (arith, m)
