-- A queue of processors with their task queues, told by ranks: R k u is the rank of task u in the task queue of processor k, from 1
-- for the first; 0 where u is not in it. Tasks are below n.
use Rattle.std.specs.Prelude.{ℕ, zero, suc, ◌-◌, List, [], ◌∷◌, eqb}
use Rattle.folds.specs.Below.{find_below, max_below}
use Rattle.queue_rules.specs.Rules.{Turn, turn}

-- f i, f (i + 1), .. , n of them
unfoldable pub list_from : {A : Type 0} → ℕ → ℕ → (ℕ → A) → List A
list_from zero i f = []
list_from (suc n) i f = f i ∷ list_from n (suc i) f

-- the task of rank j, n where there is none
abbrev pub task_ranked : ℕ → (ℕ → ℕ) → ℕ → ℕ
task_ranked n f j = find_below n (λ u. eqb (f u) j)

-- the tasks behind the first: those of rank 2 to the greatest
abbrev pub others_of : ℕ → (ℕ → ℕ) → List ℕ
others_of n f = list_from (max_below n f - 1) 2 (task_ranked n f)

-- the turn of processor k
abbrev pub turn_of : ℕ → (ℕ → ℕ → ℕ) → ℕ → Turn
turn_of n R k = turn k (task_ranked n (R k) 1) (others_of n (R k))

-- the queue of the c processors g 0, g 1, ..
abbrev pub queue_from : ℕ → (ℕ → ℕ → ℕ) → ℕ → (ℕ → ℕ) → List Turn
queue_from n R c g = list_from c 0 (λ i. turn_of n R (g i))
