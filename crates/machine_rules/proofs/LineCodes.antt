-- What the numbers of a release and of a give-up tell.
use Rattle.machine_rules.proofs.Ground.{ℕ, ◌<◌, Bool, true, ◌≡◌, Plan, task_number, Line, View, line_code, first_zero}
use Rattle.folds.proofs.Ground.{suc, ltb, ltb-true}
use Rattle.folds.proofs.Tests.{code_zero, code_next, then_zero}
use Rattle.machine_rules.specs.Machine.{named_code}

-- a task and a resource that are there
module _ (p : Plan) (tag q : ℕ) (e : named_code p tag q ≡ 0) where
  pub named_task : task_number p tag < p.tasks
  unfolding named_code
  named_task = ltb-true _ _ (code_zero (ltb (task_number p tag) p.tasks) _ 10 e)

  pub named_resource : q < p.resources
  unfolding named_code
  named_resource = ltb-true _ _ (code_zero (ltb q p.resources) 0 11 (code_next (ltb (task_number p tag) p.tasks) _ 10 e))

module _ (p : Plan) (test : ℕ → Line → Bool) (n : ℕ) (s : View) (tag q : ℕ) (e : line_code p test (suc n) s tag q ≡ 0) where
  pub line_named : named_code p tag q ≡ 0
  unfolding line_code
  line_named = first_zero (named_code p tag q) _ e

  -- the line passes the test
  pub line_passes : test (task_number p tag) (s.lines q) ≡ true
  unfolding line_code
  line_passes = code_zero _ 0 n (then_zero (named_code p tag q) _ e)
