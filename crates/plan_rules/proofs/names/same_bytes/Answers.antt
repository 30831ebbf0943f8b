-- Two parts are the same where each byte of one is that of the other.
use Rattle.std.proofs.Common.{◌≡◌, ℕ, ◌+◌, ◌-◌, ◌<◌, ◌≤◌, eqb, List, length, get_or, take, drop, sym, ◌∙◌, ap, arith, Decides}
use Rattle.std.proofs.lemmas.Bool.{eq-eqb, eqb-true}
use Rattle.std.proofs.lemmas.Bool.Decides.{same_from_decides, Decides-eqb}
use Rattle.std.proofs.lemmas.List.{ext_get_or, get_or-take, get_or-drop, length-take, length-drop}
use Rattle.std.proofs.lemmas.Slice.Eq.{slice_eq-Decides}
use Rattle.folds.proofs.Tests.{all_at, all_from}
use Rattle.plan_rules.specs.Rules.{same_bytes}
use Rattle.plan_rules.proofs.names.same_bytes.Goals as goal

-- byte k of a part
part_at : (l : List ℕ) (a n k : ℕ) → k < n → get_or (take (a + n - a) (drop a l)) k 0 ≡ get_or l (a + k) 0
part_at l a n k h = let within : k < a + n - a = omega arith in rw (get_or-take, get_or-drop)

part_long : (l : List ℕ) (a n : ℕ) → a + n ≤ length l → length (take (a + n - a) (drop a l)) ≡ n
part_long l a n h = simp (length-take, length-drop) (omega arith)

bytes_same : (l : List ℕ) (a b n : ℕ) → a + n ≤ length l → b + n ≤ length l → Decides (same_bytes l a b n) (take (a + n - a) (drop a l) ≡ take (b + n - b) (drop b l))
unfolding same_bytes
bytes_same l a b n ha hb =
    let along = λ (k : ℕ). eqb (get_or l (a + k) 0) (get_or l (b + k) 0) in (
      λ t. ext_get_or 0 _ _ (part_long l a n ha ∙ sym (part_long l b n hb)) (λ k h. let below : k < n = omega (arith, part_long l a n ha) in part_at l a n k below ∙ (eqb-true _ _ (all_at n k along t below) ∙ sym (part_at l b n k below))),
      λ e. all_from n along (λ k h. eq-eqb _ _ (sym (part_at l a n k h) ∙ (ap (λ (p : List ℕ). get_or p k 0) e ∙ part_at l b n k h))),
    )

pub returns : goal.returns
returns c = same_from_decides _ _ (slice_eq-Decides Decides-eqb _ _ _ c.eq.ensures) (bytes_same _ _ _ _ c.requires.0 c.requires.1)
