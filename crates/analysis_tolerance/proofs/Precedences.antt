-- Who is above whom, by the precedences in the table of terms.
use Rattle.std.proofs.lemmas.Bool.Decides.{nat_tests}
use Rattle.analysis_tolerance.proofs.Ground.{ℕ, ◌+◌, ◌*◌, ◌<◌, ◌&&◌, ◌≡◌, List, ltb, get_or, arith, eqb}
use Rattle.analysis_tolerance.proofs.Ground.{Plan, Valid, processor_of, priority_of, higher, precedence_cell, TermTable, above}

-- a number of processor l is above x of processor k, and below all of the processors behind k, just where l is k and y above x
between : (k l x y : ℕ) → x < 256 → y < 256 → above (k * 256 + x) ((k + 1) * 256) (l * 256 + y) ≡ (eqb l k && ltb x y)
between k l x y lx ly = grind (arith, nat_tests)

module _ (p : Plan) (v : Valid p) (t : List ℕ) (h : TermTable p t) (i j : ℕ) (li : i < p.tasks) (lj : j < p.tasks) where
  pub table_above : above (get_or t (precedence_cell i) 0) ((processor_of p i + 1) * 256) (get_or t (precedence_cell j) 0) ≡ higher p i j
  table_above =
      rw (h.precedence i li, h.precedence j lj)
      (between (processor_of p i) (processor_of p j) (priority_of p i) (priority_of p j)
      (omega (arith, (v.every_task_fits i li).high)) (omega (arith, (v.every_task_fits j lj).high)))
