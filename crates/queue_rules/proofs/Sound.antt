-- What holds of every line that the rules reach. That each of their moves keeps it is in Moves.
use Rattle.queue_rules.proofs.Ground.{ℕ, ◌+◌, ◌≤◌, ◌<◌, Bool, true, false, cond, ◌||◌, not, or-false, or_assoc, ◌≡◌, refl, sym, ap}
use Rattle.queue_rules.proofs.Ground.{List, [], ◌∷◌, ◌++◌, eqb, arith, eq-eqb, ne_eqb, sum_below, Terms, Turn, turn, Line, line}
use Rattle.queue_rules.proofs.Ground.{queue_of, among, has_turn}
use Rattle.folds.proofs.Figures.{sum_same}
use Rattle.folds.proofs.Ranges.{sum_insert}
use Rattle.queue_rules.specs.Rules.{free}
use Rattle.queue_rules.proofs.Cases.{by_bool, or_no}

-- What is asked of the terms, for those tasks that may come and with so many processors: a task may hold for a tick or more, and for
-- no more than its processor's budget; a processor waits for the budgets of all others
pub record Fits (t : Terms) (known : ℕ → Bool) (procs : ℕ) : Type 0 where
  pub some : (i : ℕ) → known i ≡ true → 1 ≤ t.hold i
  pub within : (i : ℕ) → known i ≡ true → t.hold i ≤ t.budget (t.processor i)
  pub placed : (i : ℕ) → known i ≡ true → t.processor i < procs
  pub waits : (k : ℕ) → sum_below procs (λ l. cond (eqb l k) 0 (t.budget l)) ≤ t.wait k

pub among_last : (i v : ℕ) (us : List ℕ) → among i (us ++ (v ∷ [])) ≡ (among i us || eqb v i)
among_last i v [] = or-false (eqb v i)
among_last i v (u ∷ us) = rw (among_last i v us) (sym (or_assoc (eqb u i) (among i us) (eqb v i)))

-- ── sums over the processors of a queue ──

abbrev pub load : (ℕ → ℕ) → List Turn → ℕ
load f [] = 0
load f (turn k u us ∷ rest) = f k + load f rest

-- f, but 0 at k
abbrev pub but : (ℕ → ℕ) → ℕ → ℕ → ℕ
but f k l = cond (eqb l k) 0 (f l)

pub but_lt : (f : ℕ → ℕ) (k n : ℕ) → k < n → f k + sum_below n (but f k) ≤ sum_below n f
but_lt f k n lt =
    omega (
      arith,
      sum_insert n k (λ _. true) (λ l. not (eqb l k)) f lt refl (rw (eq-eqb k k refl)) (λ j _ d. rw (ne_eqb j k d)),
      sum_same n (but f k) (λ l. cond (not (eqb l k)) (f l) 0)
          (λ l _. by_bool (λ b. cond b 0 (f l) ≡ cond (not b) (f l) 0) (eqb l k) (λ _. refl) (λ _. refl)),
    )

-- a processor that has no turn adds nothing
pub load_but : (f : ℕ → ℕ) (k : ℕ) (q : List Turn) → has_turn k q ≡ false → load f q ≡ load (but f k) q
load_but f k [] a = refl
load_but f k (turn j u us ∷ rest) a =
    let (n, m) = or_no (eqb j k) (has_turn k rest) a in rw n (ap (λ (x : ℕ). f j + x) (load_but f k rest m))

-- the hold left and the budget left, of a hold time and a budget
pub record Clock (h b hold budget : ℕ) : Type 0 where
  pub runs : 1 ≤ h
  pub lent : h ≤ hold
  pub covered : h ≤ b
  pub budgeted : b ≤ budget

module _ (t : Terms) (known : ℕ → Bool) (procs : ℕ) where
  -- these tasks are known, and of processor k
  pub record Owns (k : ℕ) (us : List ℕ) : Type 0 where
    pub each : (i : ℕ) → among i us ≡ true → (t.processor i ≡ k) × (known i ≡ true)

  -- a queue of distinct processors, each with its own tasks
  pub data Proper : List Turn → Type 0 where
    nobody : Proper []
    stands : {k u : ℕ} {us : List ℕ} {rest : List Turn} → k < procs → has_turn k rest ≡ false → Owns k (u ∷ us) → Proper rest
        → Proper (turn k u us ∷ rest)

  -- a line that is free, or held with time left by the first of a proper queue
  pub data Sound : Line → Type 0 where
    is_free : Sound free
    is_held : {h b k u : ℕ} {us : List ℕ} {rest : List Turn} → Clock h b (t.hold u) (t.budget k) → Proper (turn k u us ∷ rest)
        → Sound (line h b (turn k u us ∷ rest))

  pub sound_queue : {l : Line} → Sound l → Proper (queue_of l)
  sound_queue is_free = nobody
  sound_queue (is_held c pr) = pr

  -- so the budgets of a queue are at most those of all processors
  pub load_le : (f : ℕ → ℕ) {q : List Turn} → Proper q → load f q ≤ sum_below procs f
  load_le f nobody = omega arith
  load_le f (stands {k = k} {rest = rest} lt a o r) = omega (arith, but_lt f k procs lt, load_but f k rest a, load_le (but f k) r)
