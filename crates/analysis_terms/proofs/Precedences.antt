-- What a task's precedence tells of its processor and its priority.
use Rattle.analysis_terms.proofs.Ground.{ℕ, ◌/◌, ◌%◌, ◌<◌, ◌≡◌, arith, Plan, Valid, processor_of, priority_of, precedence_of}

module _ (p : Plan) (v : Valid p) where
  pub precedence_processor : (j : ℕ) → j < p.tasks → precedence_of p j / 256 ≡ processor_of p j
  precedence_processor j l = omega (arith, (v.every_task_fits j l).high)

  pub precedence_priority : (j : ℕ) → j < p.tasks → precedence_of p j % 256 ≡ priority_of p j
  precedence_priority j l = omega (arith, (v.every_task_fits j l).high)
