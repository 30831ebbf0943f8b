-- The test of all rows, first to last, is that of the definition, last to first.
use Rattle.std.proofs.Common.{rules, tests, zero-add}
use Rattle.std.proofs.Math.Bool.{and-true}
use Rattle.std.proofs.lemmas.Iterator.{YieldsList-from_range}
use Rattle.std.proofs.lemmas.Iterator.Search.{all_from_yields_List}
use Rattle.std.proofs.lemmas.List.Folds.{list_all-append}
use Rattle.std.specs.List.{list_all, range_with_len}
use Rattle.image.proofs.Ground.{ℕ, zero, suc, ◌+◌, Bool, ◌&&◌, ◌≡◌, refl, ap, ap₂, ◌∙◌, List, [], ◌∷◌, ◌++◌, arith, all_below, plan_of, holder_test}
use Rattle.image.proofs.holders_ok.Goals as goal

one_more : (a n : ℕ) → range_with_len a (suc n) ≡ range_with_len a n ++ (a + n) ∷ []
one_more a zero = search rules
one_more a (suc n) =
    let e : a + 1 + n ≡ a + suc n = omega arith in
    ap (λ (l : List ℕ). a ∷ l) (one_more (a + 1) n ∙ ap (λ (k : ℕ). range_with_len (a + 1) n ++ k ∷ []) e)

all_same : (n : ℕ) (f : ℕ → Bool) → list_all f (range_with_len 0 n) ≡ all_below n f
unfolding all_below
all_same zero f = refl
all_same (suc n) f =
    ap (list_all f) (one_more 0 n) ∙ list_all-append f (range_with_len 0 n) ((0 + n) ∷ [])
    ∙ ap₂ ◌&&◌ (all_same n f) (and-true (f (0 + n)) ∙ ap f (zero-add n))

pub returns : goal.returns
returns c =
    let p = plan_of c.args.file.now in
    let n : c.from.result ≡ p.resources = search rules in
    all_from_yields_List (holder_test p c.args.image.now) _ _ _ c.all.ensures.ran
    (YieldsList-from_range 0 c.from.result c.from.result refl (omega arith)) (λ x b q k. search (rules, tests))
    ∙ all_same c.from.result _ ∙ rw n
