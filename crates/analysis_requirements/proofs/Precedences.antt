-- Who is under whom, by the precedences in the table of terms.
use Rattle.std.proofs.lemmas.Bool.Decides.{nat_tests}
use Rattle.analysis_requirements.proofs.Ground.{ℕ, ◌+◌, ◌*◌, ◌<◌, ◌&&◌, ◌≡◌, List, ltb, get_or, arith, Plan, Valid, processor_of, priority_of, lower}
use Rattle.analysis_requirements.proofs.Ground.{precedence_cell, TermTable, under, eqb}

-- y of processor l is below x of processor k on the same processor, just where l is k and y less than x
below : (k l x y : ℕ) → x < 256 → y < 256 → under (k * 256 + x) (l * 256 + y) ≡ (eqb l k && ltb y x)
below k l x y lx ly = grind (arith, nat_tests)

-- what the table of terms tells of who is under whom
module _ (p : Plan) (v : Valid p) (t : List ℕ) (h : TermTable p t) (i j : ℕ) (li : i < p.tasks) (lj : j < p.tasks) where
  pub table_under : under (get_or t (precedence_cell i) 0) (get_or t (precedence_cell j) 0) ≡ lower p i j
  table_under =
      rw (h.precedence i li, h.precedence j lj)
      (below (processor_of p i) (processor_of p j) (priority_of p i) (priority_of p j)
      (omega (arith, (v.every_task_fits i li).high)) (omega (arith, (v.every_task_fits j lj).high)))
