-- The bytes of a sound state's rows, with the table of its holders, are its image.
use Rattle.image.proofs.Ground.{ℕ, ◌<◌, true, ◌≡◌, ap₂, ◌∙◌, List, ◌++◌, drop, arith, bytes_below, most_tasks, most_resources, Plan, Valid}
use Rattle.image.proofs.Ground.{State, line_at, standing, shows, sound, line_of, standing_of, SameRow, line_at_lem, standing_at, rows_told}
use Rattle.image.proofs.Ground.{whole_of, image_length, image_with, holder_number, head_bytes, line_bytes, standing_bytes, image_of, line_row}
use Rattle.image.proofs.Ground.{standing_row, holder_table, ap}
use Rattle.folds.proofs.Parts.{bytes_same}
use Rattle.image.proofs.Holding.{table_at}
use Rattle.image.proofs.Round.{same_bytes_lem}

pub stored_same : {n m : ℕ} {t : List ℕ} (p : Plan) → Valid p → (s : State) → sound p s ≡ true → (b : List ℕ)
    → n ≡ p.resources → m ≡ p.tasks → t ≡ holder_table p s
    → ((head_bytes p ++ bytes_below n (line_row s.lines t)) ++ bytes_below m (standing_row s.tasks)) ++ drop (image_length p) b ≡ image_with p (shows p s) b
unfolding image_of
stored_same p v s h b e f g =
    rw (e, f, g)
    (ap (λ (x : List ℕ). x ++ drop (image_length p) b)
    (ap₂ ◌++◌
    (ap (λ (x : List ℕ). head_bytes p ++ x) (bytes_same p.resources _ _ (λ q l. line q (omega (arith, v.resources)))))
    (bytes_same p.tasks _ _ (λ i l. ap standing_bytes (task i (omega (arith, v.tasks)))))))
  where
    line : (q : ℕ) → q < most_resources → line_row s.lines (holder_table p s) q ≡ line_bytes (line_of ((shows p s).lines q)) (holder_number ((shows p s).lines q))
    line q l =
        let r : SameRow (line_at s q) (line_of ((shows p s).lines q)) = rw (line_at_lem p (shows p s) q l) at ((rows_told p v s h).lines q l) in
        same_bytes_lem _ _ _ _ r (table_at p v s (whole_of p v s h) q l)

    task : (i : ℕ) → i < most_tasks → standing s.tasks i ≡ standing_of p (shows p s) i
    task i l = (rows_told p v s h).tasks i l ∙ standing_at p (shows p s) i l
