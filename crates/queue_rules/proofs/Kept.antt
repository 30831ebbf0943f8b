-- How long somebody of processor k is still kept from the resource: a bound that no move raises and a tick lowers. Said once, for a
-- task (Waiting) and for a processor (Heads): who is kept is told by `there`, with which tasks of k it is in line, by `Own`, its bound
-- in them, and by `done`.
use Rattle.queue_rules.proofs.Ground.{ℕ, ◌+◌, ◌-◌, ◌≤◌, ◌<◌, Bool, true, false, cond, or-true, true≢false, ◌≡◌, sym, ◌∙◌, ap, List}
use Rattle.queue_rules.proofs.Ground.{[], ◌∷◌, ◌++◌, eqb, eq-eqb, ne_eqb, arith, by_eq, Terms, Turn, turn, Line, line, queue_of}
use Rattle.queue_rules.proofs.Ground.{holds, has_turn, tasks_of, begin, join, entered, leave, released, ticked, all_but, turn_with}
use Rattle.queue_rules.proofs.Ground.{turns_but, withdrawn}
use Rattle.queue_rules.specs.Rules.{cut}
use Rattle.queue_rules.proofs.Cases.{by_test, by_leave}
use Rattle.queue_rules.proofs.Sound.{Fits, load, but, load_but, Proper, stands, Sound, is_free, is_held, load_le}

module _ (t : Terms) (k : ℕ) (done : Line → Bool) (there : List ℕ → Bool) (Own : List ℕ → ℕ → Type 0) where
  -- behind a task that holds for h, and perhaps a round of the other processors
  pub record After (h : ℕ) (us : List ℕ) (n : ℕ) : Type 0 where
    pub rest : ℕ
    pub own : Own us rest
    pub sum : h + t.wait k + rest ≤ n

  -- Own us n: at most n from when the first of these tasks of k is granted. Who comes later does not raise it, and who is not done then
  -- is behind that first task
  pub record Kept : Type 0 where
    pub some : {n : ℕ} → Own [] n → ⊥
    pub grows : (v : ℕ) {n : ℕ} {us : List ℕ} → Own us n → Own (us ++ (v ∷ [])) n
    pub next : {h b j u n : ℕ} {us : List ℕ} {rest : List Turn} → j ≡ k → Own (u ∷ us) n → done (line h b (turn j u us ∷ rest)) ≡ false
        → After (t.hold u) us n
    -- it is there with its own; where it is not done, behind the first; and others may go, from before it or from behind
    pub own_there : {n : ℕ} {us : List ℕ} → Own us n → there us ≡ true
    pub there_behind : {u : ℕ} {us : List ℕ} → there us ≡ true → there (u ∷ us) ≡ true
    pub there_next : {h b j u : ℕ} {us : List ℕ} {rest : List Turn} → j ≡ k → there (u ∷ us) ≡ true → done (line h b (turn j u us ∷ rest)) ≡ false
        → there us ≡ true
    pub shrinks : (v : ℕ) {n : ℕ} {us : List ℕ} → Own us n → there (all_but v us) ≡ true → Own (all_but v us) n

  -- in a queue: at most n from when its head begins
  pub data Far : List Turn → ℕ → Type 0 where
    here : {j u m n : ℕ} {us : List ℕ} {rest : List Turn} → j ≡ k → Own (u ∷ us) m → m ≤ n → Far (turn j u us ∷ rest) n
    past : {j u m n : ℕ} {us : List ℕ} {rest : List Turn} → Far rest m → t.budget j + m ≤ n → Far (turn j u us ∷ rest) n

  -- in a line: at most n from now
  pub data Waiting : ℕ → Line → Type 0 where
    behind : {h b j u n : ℕ} {us : List ℕ} {rest : List Turn} → j ≡ k → After h us n → Waiting n (line h b (turn j u us ∷ rest))
    beyond : {h b j u m n : ℕ} {us : List ℕ} {rest : List Turn} → Far rest m → b + m ≤ n → Waiting n (line h b (turn j u us ∷ rest))

  module _ (kept : Kept) where
    -- ── others come, or go to the tail ──

    far_last : (x : Turn) {n : ℕ} {q : List Turn} → Far q n → Far (q ++ (x ∷ [])) n
    far_last x (here e o le) = here e o le
    far_last x (past f le) = past (far_last x f) le

    far_join : (v : ℕ) {n : ℕ} {q : List Turn} → Far q n → Far (join t v q) n
    far_join v (here {j = j} {n = n} e o le) =
        by_test (λ q. Far q n) (eqb j (t.processor v)) (λ _. here e (kept.grows v o) le) (λ _. here e o le)
    far_join v (past {j = j} {n = n} f le) =
        by_test (λ q. Far q n) (eqb j (t.processor v)) (λ _. past f le) (λ _. past (far_join v f) le)

    -- its own turn goes to the tail
    far_sent : (j u m : ℕ) (us : List ℕ) (q : List Turn) {n : ℕ} → j ≡ k → Own (u ∷ us) m → load t.budget q + m ≤ n
        → Far (q ++ (turn j u us ∷ [])) n
    far_sent j u m us [] {n} e o le = here {n = n} e o (omega arith)
    far_sent j u m us (turn l v vs ∷ q) {n} e o le =
        past {j = l} {m = load t.budget q + m} {n = n} (far_sent j u m us q e o (omega arith)) (omega arith)

    after_more : {h i m n : ℕ} {us : List ℕ} → After h us m → i + m ≤ h + n → After i us n
    after_more a le = record { rest = a.rest; own = a.own; sum = omega (arith, a.sum) }

    kept_begin : {m n : ℕ} {q : List Turn} → Far q m → m ≤ n → done (begin t q) ≡ false → Waiting n (begin t q)
    kept_begin {n = n} (here {u = u} e o l) le nd = behind {h = t.hold u} {n = n} e (after_more (kept.next e o nd) (omega arith))
    kept_begin {n = n} (past {j = j} {m = m} f l) le nd = beyond {b = t.budget j} {m = m} {n = n} f (omega arith)

    -- ── others go ──

    far_more : {m n : ℕ} {q : List Turn} → Far q m → m ≤ n → Far q n
    far_more {n = n} (here e o l) le = here {n = n} e o (omega arith)
    far_more {n = n} (past {j = j} {m = m} f l) le = past {j = j} {m = m} {n = n} f (omega arith)

    -- its own turn, where tasks are left; and another, left or not
    with_own : (j m : ℕ) (us : List ℕ) (q : List Turn) {n : ℕ} → j ≡ k → Own us m → m ≤ n → Far (turn_with j us ++ q) n
    with_own j m [] q e o le = absurd (kept.some o)
    with_own j m (u ∷ us) q e o le = here e o le

    with_other : (j m : ℕ) (us : List ℕ) {n : ℕ} {q : List Turn} → Far q m → t.budget j + m ≤ n → Far (turn_with j us ++ q) n
    with_other j m [] {n} f le = far_more {n = n} f (omega arith)
    with_other j m (u ∷ us) f le = past f le

    module _ (known : ℕ → Bool) (procs : ℕ) where
      -- a queue in which it stands has a turn of k
      far_turn : {n : ℕ} {q : List Turn} → Far q n → has_turn k q ≡ true
      far_turn (here {j = j} e o le) = rw (eq-eqb j k e)
      far_turn (past {j = j} f le) = rw (far_turn f) (or-true (eqb j k))

      far_apart : {j u n : ℕ} {us : List ℕ} {rest : List Turn} → Proper t known procs (turn j u us ∷ rest) → Far rest n → eqb j k ≡ false
      far_apart {j} (stands {rest = rest} lt a o r) f = ne_eqb j k (λ e. true≢false (sym (far_turn f) ∙ (rw e at a)))

      far_there : {n : ℕ} {q : List Turn} → Proper t known procs q → Far q n → there (tasks_of k q) ≡ true
      far_there pr (here {j = j} e o le) = rw (eq-eqb j k e) (kept.own_there o)
      far_there (stands lt a o r) (past f le) = rw (far_apart (stands lt a o r) f) (far_there r f)

      -- whoever has a bound is there
      pub kept_there : {n : ℕ} {l : Line} → Sound t known procs l → Waiting n l → there (tasks_of k (queue_of l)) ≡ true
      kept_there (is_held c pr) (behind {j = j} e a) = rw (eq-eqb j k e) (kept.there_behind (kept.own_there a.own))
      kept_there (is_held c (stands lt a o r)) (beyond f le) = rw (far_apart (stands lt a o r) f) (far_there r f)
      kept_there {n = n} is_free x3 = elim x3 [ ]

      far_but : (v : ℕ) {n : ℕ} {q : List Turn} → Proper t known procs q → Far q n → there (all_but v (tasks_of k q)) ≡ true → Far (turns_but v q) n
      far_but v pr (here {j = j} {u = u} {m = m} {us = us} {rest = q} e o le) h =
          with_own j m (all_but v (u ∷ us)) (turns_but v q) e (kept.shrinks v o (rw (eq-eqb j k e) at h)) le
      far_but v (stands lt a o r) (past {j = j} {u = u} {m = m} {us = us} f le) h =
          with_other j m (all_but v (u ∷ us)) (far_but v r f (rw (far_apart (stands lt a o r) f) at h)) le

      -- a task gives up that does not hold, and it is there still
      pub kept_withdrawn : (v : ℕ) {n : ℕ} {l : Line} → Sound t known procs l → Waiting n l → holds v l ≡ false
          → there (all_but v (tasks_of k (queue_of l))) ≡ true → done (withdrawn v l) ≡ false → Waiting n (withdrawn v l)
      kept_withdrawn v (is_held c pr) (behind {j = j} {u = u} {us = us} e a) n h nd =
          behind e (record { rest = a.rest; own = kept.shrinks v a.own (kept.there_next e (rw (eq-eqb j k e, n) at h) nd); sum = a.sum })
      kept_withdrawn v (is_held c (stands lt x o r)) (beyond f le) n h nd = beyond (far_but v r f (rw (far_apart (stands lt x o r) f) at h)) le
      kept_withdrawn v is_free x9 n h nd = elim x9 [ ]

    -- ── the moves ──

    pub kept_entered : (v : ℕ) {n : ℕ} {l : Line} → Waiting n l → Waiting n (entered t v l)
    kept_entered v {n} (behind {h = h} {b = b} {j = j} e a) =
        by_test (λ q. Waiting n (line h b q)) (eqb j (t.processor v))
        (λ _. behind e (record { rest = a.rest; own = kept.grows v a.own; sum = a.sum })) (λ _. behind e a)
    kept_entered v {n} (beyond {h = h} {b = b} {j = j} f le) =
        by_test (λ q. Waiting n (line h b q)) (eqb j (t.processor v)) (λ _. beyond f le) (λ _. beyond (far_join v f) le)

    module _ (known : ℕ → Bool) (procs : ℕ) (fit : Fits t known procs) where
      kept_leave : (h b j u n : ℕ) (us : List ℕ) (rest : List Turn) → Proper t known procs (turn j u us ∷ rest)
          → Waiting n (line h b (turn j u us ∷ rest))
          → done (leave t b (turn j u us ∷ rest)) ≡ false → Waiting n (leave t b (turn j u us ∷ rest))
      kept_leave h b j u n [] rest pr (behind e a) = absurd (kept.some a.own)
      kept_leave h b j u n [] rest pr (beyond f le) = kept_begin f (omega arith)
      kept_leave h b j u n (v ∷ vs) rest (stands lt new o r) (behind e a) =
          by_leave t (λ l. done l ≡ false → Waiting n l) b j u v vs rest
          (λ _ nd. behind {h = t.hold v} {n = n} e (after_more (kept.next e a.own nd) (omega (arith, a.sum))))
          (kept_begin {m = n} (far_sent j v a.rest vs rest e a.own sent) (omega arith))
        where
          sent : load t.budget rest + a.rest ≤ n
          sent =
              omega (arith, a.sum, load_but t.budget j rest new, load_le t known procs (but t.budget j) r, fit.waits j, ap t.wait e)
      kept_leave h b j u n (v ∷ vs) rest pr (beyond {m = m} f le) =
          by_leave t (λ l. done l ≡ false → Waiting n l) b j u v vs rest
          (λ _ _. beyond {m = m} f (omega arith))
          (kept_begin (far_last (turn j v vs) f) (omega arith))

      kept_pass : {h b i a j u n : ℕ} {us : List ℕ} {rest : List Turn} → i < h → a < b → Waiting n (line h b (turn j u us ∷ rest))
          → Waiting (n - 1) (line i a (turn j u us ∷ rest))
      kept_pass {i = i} {n = n} l₁ l₂ (behind e x) = behind {h = i} {n = n - 1} e (after_more x (omega (arith, x.sum)))
      kept_pass {a = a} {n = n} l₁ l₂ (beyond {m = m} f le) = beyond {b = a} {m = m} {n = n - 1} f (omega arith)

      pub kept_ticked : {n : ℕ} {l : Line} → Sound t known procs l → Waiting n l → done (ticked t l) ≡ false → Waiting (n - 1) (ticked t l)
      kept_ticked {n} (is_held {h = h} {b = b} {k = j} {u = u} {us = us} {rest = rest} c pr) w =
          by_test (λ l. done l ≡ false → Waiting (n - 1) l) (cut (line h b (turn j u us ∷ rest)))
          (λ _ nd. kept_leave (h - 1) _ j u (n - 1) us rest pr (kept_pass (omega arith) (omega arith) w) nd)
          (λ _ _. kept_pass (omega arith) (omega arith) w)
      kept_ticked {n = n} is_free w = elim w [ ]

      pub kept_released : {n : ℕ} {l : Line} → Sound t known procs l → Waiting n l → done (released t l) ≡ false → Waiting n (released t l)
      kept_released {n} (is_held {h = h} {b = b} {k = j} {u = u} {us = us} {rest = rest} c pr) w = kept_leave h b j u n us rest pr w
      kept_released {n = n} is_free w = elim w [ ]

      pub kept_some : {n : ℕ} {l : Line} → Sound t known procs l → Waiting n l → 1 ≤ n
      kept_some (is_held c pr) (behind e a) = omega (arith, a.sum)
      kept_some (is_held c pr) (beyond f le) = omega arith
      kept_some {n = n} is_free x3 = elim x3 [ ]

      -- ── whoever is in line and not done has such a bound: its own behind a round of the other processors ──

      abbrev others : List Turn → ℕ
      others q = load (but t.budget k) q

      far_bound : (q : List Turn) (m n : ℕ) → Own (tasks_of k q) m → others q + m ≤ n → Far q n
      far_bound [] m n o le = absurd (kept.some o)
      far_bound (turn j u us ∷ q) m n o le =
          by_eq (λ (d : Bool). Own (cond d (u ∷ us) (tasks_of k q)) m → cond d 0 (t.budget j) + others q + m ≤ n → Far (turn j u us ∷ q) n) j k
          (λ e x l. here {m = m} {n = n} e x (omega arith))
          (λ e x l. past {j = j} {m = others q + m} {n = n} (far_bound q m _ x (omega arith)) (omega arith)) o le

      pub kept_bound : (l : Line) (m n : ℕ) → Sound t known procs l → Own (tasks_of k (queue_of l)) m → done l ≡ false → t.wait k + m ≤ n → Waiting n l
      kept_bound l m n is_free o nd le = absurd (kept.some o)
      kept_bound l m n (is_held {h = h} {b = b} {k = j} {u = u} {us = us} {rest = q} c pr) o nd le =
          by_eq (λ (d : Bool). Own (cond d (u ∷ us) (tasks_of k q)) m → cond d 0 (t.budget j) + others q ≤ t.wait k
          → Waiting n (line h b (turn j u us ∷ q))) j k
          (λ e x l. behind {h = h} {n = n} e (after_more (kept.next e x nd) (omega arith)))
          (λ e x l. beyond {b = b} {m = others q + m} {n = n} (far_bound q m _ x (omega arith)) (omega arith))
          o (omega (arith, load_le t known procs (but t.budget k) pr, fit.waits k))
