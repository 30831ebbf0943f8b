-- Each move of the rules keeps a line sound.
use Rattle.queue_rules.proofs.Ground.{ℕ, ◌-◌, ◌≤◌, ◌<◌, Bool, true, false, cond, or-true, true≢false, ◌≡◌, refl, sym, ap, List, []}
use Rattle.queue_rules.proofs.Ground.{◌∷◌, ◌++◌, eqb, arith, eqb-true, eqb-false, eq-eqb, ne_eqb, or_out, by_eq, Terms, Turn, turn}
use Rattle.queue_rules.proofs.Ground.{Line, line, among, has_turn, begin, join, entered, leave, released, ticked}
use Rattle.queue_rules.proofs.Cases.{by_test, by_leave, or_no}
use Rattle.queue_rules.proofs.Sound.{Fits, among_last, Clock, Owns, Proper, nobody, stands, Sound, is_free, is_held}

module _ (t : Terms) (known : ℕ → Bool) (procs : ℕ) where
  -- ── a task comes, or a turn goes to the tail ──

  turn_join : (k v : ℕ) (q : List Turn) → has_turn k q ≡ false → (t.processor v ≡ k → ⊥) → has_turn k (join t v q) ≡ false
  turn_join k v [] a n = rw (ne_eqb (t.processor v) k n)
  turn_join k v (turn j u us ∷ q) a n =
      let (x, y) = or_no (eqb j k) (has_turn k q) a in
      by_test (λ z. has_turn k z ≡ false) (eqb j (t.processor v)) (λ e. a) (λ e. rw x (turn_join k v q y n))

  turn_last : (k j u : ℕ) (us : List ℕ) (q : List Turn) → has_turn k q ≡ false → (j ≡ k → ⊥) → has_turn k (q ++ (turn j u us ∷ [])) ≡ false
  turn_last k j u us [] a n = rw (ne_eqb j k n)
  turn_last k j u us (turn l v vs ∷ q) a n =
      let (x, y) = or_no (eqb l k) (has_turn k q) a in rw x (turn_last k j u us q y n)

  own_first : {k u : ℕ} {us : List ℕ} → Owns t known procs k (u ∷ us) → (t.processor u ≡ k) × (known u ≡ true)
  own_first {u = u} o = o.each u (rw (eq-eqb u u refl))

  own_rest : {k u : ℕ} {us : List ℕ} → Owns t known procs k (u ∷ us) → Owns t known procs k us
  own_rest {u = u} o = record { each = λ i m. o.each i (rw m (or-true (eqb u i))) }

  own_last : (k v : ℕ) (us : List ℕ) → Owns t known procs k us → t.processor v ≡ k → known v ≡ true → Owns t known procs k (us ++ (v ∷ []))
  own_last k v us o s e =
      record { each = λ i m. or_out (among i us) (eqb v i) _ (rw (← among_last i v us) m) (o.each i) (λ z. rw (← eqb-true v i z) (s, e)) }

  proper_join : (v : ℕ) {q : List Turn} → Fits t known procs → known v ≡ true → Proper t known procs q → Proper t known procs (join t v q)
  proper_join v fit e nobody =
      let o : Owns t known procs (t.processor v) [] = record { each = λ i m. absurd (true≢false (sym m)) } in
      stands (fit.placed v e) refl (own_last (t.processor v) v [] o refl e) nobody
  proper_join v fit e (stands {k = k} {u = u} {us = us} {rest = q} lt a o r) =
      by_eq (λ (d : Bool). Proper t known procs (cond d (turn k u (us ++ (v ∷ [])) ∷ q) (turn k u us ∷ join t v q))) k (t.processor v)
      (λ s. stands lt a (own_last k v (u ∷ us) o (sym s) e) r)
      (λ n. stands lt (turn_join k v q a (λ s. n (sym s))) o (proper_join v fit e r))

  proper_last : (k u : ℕ) (us : List ℕ) {q : List Turn} → Proper t known procs q → has_turn k q ≡ false → k < procs → Owns t known procs k (u ∷ us)
      → Proper t known procs (q ++ (turn k u us ∷ []))
  proper_last k u us nobody a lt o = stands lt refl o nobody
  proper_last k u us (stands {k = j} {rest = q} l₁ a₁ o₁ r) a lt o =
      let (x, y) = or_no (eqb j k) (has_turn k q) a in
      stands l₁ (turn_last j k u us q a₁ (λ e. eqb-false j k x (sym e))) o₁ (proper_last k u us r y lt o)

  -- ── the moves ──

  module _ (fit : Fits t known procs) where
    sound_begin : {q : List Turn} → Proper t known procs q → Sound t known procs (begin t q)
    sound_begin nobody = is_free
    sound_begin (stands {k = k} {u = u} lt a o r) =
        let (e, f) = own_first o in
        let c : Clock (t.hold u) (t.budget k) (t.hold u) (t.budget k) = omega (arith, fit.some u f, fit.within u f, ap t.budget e) in
        is_held c (stands lt a o r)

    pub sound_leave : (b k u : ℕ) (us : List ℕ) (rest : List Turn) → b ≤ t.budget k → Proper t known procs (turn k u us ∷ rest)
        → Sound t known procs (leave t b (turn k u us ∷ rest))
    sound_leave b k u [] rest le (stands lt a o r) = sound_begin r
    sound_leave b k u (v ∷ vs) rest le (stands lt a o r) =
        by_leave t (Sound t known procs) b k u v vs rest
        (λ e. let (_, f) = own_first (own_rest o) in is_held (omega (arith, fit.some v f)) (stands lt a (own_rest o) r))
        (sound_begin (proper_last k v vs r a lt (own_rest o)))

    pub sound_entered : (i : ℕ) {l : Line} → known i ≡ true → Sound t known procs l → Sound t known procs (entered t i l)
    sound_entered i e is_free = sound_begin (proper_join i fit e nobody)
    sound_entered i e (is_held {h = h} {b = b} {k = k} c pr) =
        by_test (λ q. Proper t known procs q → Sound t known procs (line h b q)) (eqb k (t.processor i))
        (λ s x. is_held c x) (λ s x. is_held c x) (proper_join i fit e pr)

    pub sound_released : {l : Line} → Sound t known procs l → Sound t known procs (released t l)
    sound_released is_free = is_free
    sound_released (is_held {b = b} {k = k} {u = u} {us = us} {rest = rest} c pr) = sound_leave b k u us rest c.budgeted pr

    pub sound_ticked : {l : Line} → Sound t known procs l → Sound t known procs (ticked t l)
    sound_ticked is_free = is_free
    sound_ticked (is_held {h = h} {b = b} {k = k} {u = u} {us = us} {rest = rest} c pr) =
        by_eq (λ (d : Bool). Sound t known procs (cond d (leave t (b - 1) (turn k u us ∷ rest)) (line (h - 1) (b - 1) (turn k u us ∷ rest)))) (h - 1) 0
        (λ e. sound_leave (b - 1) k u us rest (omega arith) pr)
        (λ e. is_held (omega arith) pr)
