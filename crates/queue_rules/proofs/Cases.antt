-- Proofs by cases: the outcomes of a test, and the two ways on when a task leaves.
use Rattle.queue_rules.proofs.Ground.{ℕ, ◌≤◌, Bool, true, false, cond, ◌||◌, true≢false, ◌≡◌, refl, List, ◌∷◌, Terms, Turn, turn}
use Rattle.queue_rules.proofs.Ground.{Line, send_back, leave}
use Rattle.folds.proofs.Ground.{leb, leb-true}
use Rattle.queue_rules.specs.Rules.{go_on}

-- a proof for each outcome of a test
pub by_bool : (P : Bool → Type 0) (b : Bool) → (b ≡ true → P true) → (b ≡ false → P false) → P b
by_bool P true f g = f refl
by_bool P false f g = g refl

pub by_test : {A : Type 0} (R : A → Type 0) (b : Bool) {x y : A} → (b ≡ true → R x) → (b ≡ false → R y) → R (cond b x y)
by_test R b {x} {y} f g = by_bool (λ b. R (cond b x y)) b f g

-- the two ways on where a task is next
pub by_leave : (t : Terms) (R : Line → Type 0) (b k u v : ℕ) (vs : List ℕ) (rest : List Turn) → (t.hold v ≤ b → R (go_on t b k v vs rest))
    → R (send_back t k v vs rest) → R (leave t b (turn k u (v ∷ vs) ∷ rest))
by_leave t R b k u v vs rest f g = by_test R (leb (t.hold v) b) (λ e. f (leb-true (t.hold v) b e)) (λ _. g)

pub or_no : (a b : Bool) → (a || b) ≡ false → (a ≡ false) × (b ≡ false)
or_no true b e = absurd (true≢false e)
or_no false b e = (refl, e)
