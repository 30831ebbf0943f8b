-- An array whose elements are made one by one, by a closure that changes nothing that it holds.
use Rattle.std.proofs.lemmas.List.{same_lists, get_or_default}
use Rattle.std.specs.Array.{IsFromFnResult, IsFromFnResultFrom}
use Rattle.std.specs.Fn.{Mut, Called}
use Rattle.machine_steps.proofs.Ground.{ℕ, zero, suc, ◌+◌, ◌<◌, ◌≤◌, ◌≡◌, on_eq, sym, ◌∙◌, List, length, get_or, arith, each_below, each_at}
use Rattle.folds.proofs.EachLaws.{each_length}

module _ {A F : Type 0} (d : A) (g : ℕ → A → A) (n : ℕ) (l : List A) (m : Mut F (ℕ × Unit {0}) A) (f : F)
    (call : (i : ℕ) (y : A) (q : F) → i < n → Called m f (i, tt) y q → (q ≡ f) × (y ≡ g i (get_or l i d))) where
  made_from : (r : List A) (a k i : ℕ) → a + k ≡ n → a ≤ i → i < n → IsFromFnResultFrom m f r a k → get_or r i d ≡ g i (get_or l i d)
  made_from r a zero i s h b t = absurd (omega arith)
  made_from r a (suc k) i s h b t =
      let one = call a t.1 t.0 (omega arith) t.3 in
      on_eq (get_or r i d ≡ g i (get_or l i d)) a i
      (λ e. rw (← e) (t.2.1 d ∙ one.1))
      (λ ne. made_from r (a + 1) k i (omega arith) (omega arith) b (rw one.0 at t.4))

  pub each_from : (r : List A) → length l ≡ n → IsFromFnResult m f r n → r ≡ each_below d g n l
  each_from r long t =
      same_lists r (each_below d g n l) (t.long ∙ sym (each_length d g n l ∙ long))
      (λ k e h. let b : k < n = omega (arith, t.long) in
      get_or_default r k e d h ∙ made_from r 0 n k (omega arith) (omega arith) b t.each ∙ sym (each_at d g n k l b (omega arith))
      ∙ get_or_default (each_below d g n l) k d e (omega (arith, each_length d g n l)))
