-- What the private functions of this crate rely on and give. None of this is a rule of document 01; contracts equate it with the equations.
use Rattle.std.specs.Prelude.{ℕ, ◌<◌, ◌≤◌, max, Bool, cond, ◌&&◌, List, ◌≡◌, eqb, ltb, leb, length, get_or}
use Rattle.sizes.specs.Sizes.{most_tasks, most_resources}
use Rattle.folds.specs.Below.{max_below, count_below}
use Rattle.plan_reading.specs.Plan.{Plan, plan_of, Checked}
use Rattle.analysis_equations.specs.Sharing.{priority_of, global_by, global}
use Rattle.analysis_equations.specs.Blocking.{blocks}
use Rattle.analysis_terms.specs.Terms.{longest_cell, precedence_cell, count_cell, ceiling_cell, shared_cell, blocked_cell, term_count, precedence_of}

-- ── the table of terms as it is filled: r resources, n tasks and s sections are passed, and b sections once more for what blocks ──

-- the longest global section of task j among the first s sections
abbrev pub longest_below : Plan → ℕ → ℕ → ℕ
longest_below p s j = max_below s (λ x. cond (global_by p j x) (p.section x).length 0)

-- the highest priority that uses resource q there
abbrev pub ceiling_below : Plan → ℕ → ℕ → ℕ
ceiling_below p s q = max_below s (λ x. cond (eqb (p.section x).resource q) (priority_of p (p.section x).task) 0)

-- and the longest section that blocks task i
abbrev pub blocked_below : Plan → ℕ → ℕ → ℕ
blocked_below p s i = max_below s (λ x. cond (blocks p i x) (p.section x).length 0)

-- the table of those
pub record TermsBelow (p : Plan) (r n s b : ℕ) (t : List ℕ) : Type 0 where
  pub long : length t ≡ term_count
  pub shared : (q : ℕ) → q < r → q < most_resources → get_or t (shared_cell q) 0 ≡ cond (global p q) 1 0
  pub precedence : (j : ℕ) → j < n → j < most_tasks → get_or t (precedence_cell j) 0 ≡ precedence_of p j
  pub longest : (j : ℕ) → j < most_tasks → get_or t (longest_cell j) 0 ≡ longest_below p s j
  pub count : (j : ℕ) → j < most_tasks → get_or t (count_cell j) 0 ≡ count_below s (global_by p j)
  pub ceiling : (q : ℕ) → q < most_resources → get_or t (ceiling_cell q) 0 ≡ ceiling_below p s q
  pub blocked : (i : ℕ) → i < p.tasks → i < most_tasks → get_or t (blocked_cell i) 0 ≡ blocked_below p b i

-- the table of a checked file
pub record Filling (f : List ℕ) (r n s b : ℕ) (t : List ℕ) : Type 0 where
  pub plan : Checked f
  pub terms : TermsBelow (plan_of f) r n s b t

-- all of it but what blocks
abbrev pub Sectioned : Plan → List ℕ → Type 0
Sectioned p t = TermsBelow p most_resources p.tasks p.sections 0 t

-- a precedence above one and at most another
abbrev pub between : ℕ → ℕ → ℕ → Bool
between a b x = ltb a x && leb x b

-- what is made of a table of terms, old, once those of the first n tasks whose precedence is above `above` and at most `top` are blocked
-- for `ticks`
pub record TasksRaised (above top ticks n : ℕ) (old t : List ℕ) : Type 0 where
  pub long : length t ≡ length old
  pub kept : (x : ℕ) → x < blocked_cell 0 → get_or t x 0 ≡ get_or old x 0
  pub raised : (i : ℕ) → i < n → i < most_tasks
      → get_or t (blocked_cell i) 0 ≡ max (get_or old (blocked_cell i) 0) (cond (between above top (get_or old (precedence_cell i) 0)) ticks 0)
  pub rest : (i : ℕ) → n ≤ i → i < most_tasks → get_or t (blocked_cell i) 0 ≡ get_or old (blocked_cell i) 0
