-- The bytes copied to the front are those left over.
use Rattle.folds.proofs.Ground.{◌+◌, ◌-◌, ◌≡◌, ap, sym, ◌∙◌, arith, drop, length-drop, take}
use Rattle.std.proofs.lemmas.List.Edits.{take-paste}
use Rattle.std.proofs.Math.Seq.{paste}
use Rattle.std.proofs.lemmas.List.{drop-take}
use Rattle.mspis.proofs.keep.Goals as goal

pub returns-clause-moved : goal.returns-clause-moved
returns-clause-moved c =
    let used = c.args.used in
    let end = c.args.end in
    let old = c.args.buf.now in
    let n = end - used in
    let same : used + n ≡ end = omega (arith, c.requires) in
    ap (take n) c.copy_within.ensures.after ∙ ap (λ k. take k (paste old 0 (drop used old) n)) (let z : n ≡ 0 + n = omega arith in z) ∙ take-paste old 0 (drop used old) n (omega arith) (omega (arith, length-drop used old)) ∙ sym (drop-take used n old) ∙ ap (λ k. drop used (take k old)) same
