-- In a proper queue a task is in line where it is among the tasks of its own processor.
use Rattle.queue_rules.proofs.Ground.{ℕ, Bool, cond, ◌||◌, or-false, ◌≡◌, refl, sym, List, ◌∷◌, is_not_true, by_eq, Terms, Turn}
use Rattle.queue_rules.proofs.Ground.{among, stands_in, tasks_of}
use Rattle.queue_rules.proofs.Sound.{Proper, nobody, stands}
use Rattle.queue_rules.proofs.FirstCome.{no_tasks}

module _ (t : Terms) (known : ℕ → Bool) (procs : ℕ) (i : ℕ) where
  pub own_stands : {q : List Turn} → Proper t known procs q → stands_in i q ≡ among i (tasks_of (t.processor i) q)
  own_stands nobody = refl
  own_stands (stands {k = k} {u = u} {us = us} {rest = q} lt a o r) =
      by_eq (λ (d : Bool). (among i (u ∷ us) || stands_in i q) ≡ among i (cond d (u ∷ us) (tasks_of (t.processor i) q))) k (t.processor i)
      (λ e. rw (own_stands r, no_tasks (t.processor i) q (rw (← e) a)) (or-false (among i (u ∷ us))))
      (λ n. rw (is_not_true (among i (u ∷ us)) (λ m. let (x, _) = o.each i m in n (sym x))) (own_stands r))
