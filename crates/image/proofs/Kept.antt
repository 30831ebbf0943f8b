-- The image of a sound state is sound, and as long as the bytes that it was put into.
use Rattle.image.proofs.Ground.{ℕ, ◌≤◌, true, ◌≡◌, sym, ap, ◌∙◌, List, [], length, drop, all_from, most_tasks, most_resources, Plan, Valid}
use Rattle.image.proofs.Ground.{View, State, line_at, slot, rank, shows, sound, line_of, standing_of, both, image_length, image_with, image_of}
use Rattle.image.proofs.Ground.{holder_number, state_in, counts_fit, image_sound, fit_test, holder_test}
use Rattle.folds.proofs.Parts.{put_length}
use Rattle.image.proofs.Rows.{head_back, rows_long}
use Rattle.image.proofs.Loaded.{loaded_sound, loaded_shows, holder_in_lem}
use Rattle.image.proofs.Holding.{holder_ranked}
use Rattle.image.proofs.Tested.{line_loaded, holder_passes, image_tested}

-- it is as long as its plan says
pub image_long : (p : Plan) (s : View) → length (image_of p s) ≡ image_length p
unfolding image_of
image_long p s = rows_long p (λ q. line_of (s.lines q)) (λ q. holder_number (s.lines q)) (standing_of p s) []

pub kept_long : (p : Plan) (s : View) (b : List ℕ) → image_length p ≤ length b → length (image_with p s b) ≡ length b
kept_long p s b h = put_length (image_of p s) b (image_length p) (image_long p s) h

module _ (p : Plan) (v : Valid p) (s : State) (h : sound p s ≡ true) (b : List ℕ) where
  abbrev image : List ℕ
  image = image_with p (shows p s) b

  head_kept : counts_fit p image ≡ true
  unfolding image_of
  head_kept = head_back p (λ q. line_of ((shows p s).lines q)) (λ q. holder_number ((shows p s).lines q)) (standing_of p (shows p s)) (drop (image_length p) b)

  pub stored_sound : length s.lines ≡ most_resources → length s.tasks ≡ most_tasks → image_sound p image ≡ true
  unfolding fit_test shows
  stored_sound m n =
      let k : sound p (state_in p image) ≡ true = loaded_sound p v s h b m n in
      sym (image_tested p v image)
      ∙ both (both head_kept (all_from p.resources (holder_test p image)
      (λ q l. let row = line_at (state_in p image) q in
      holder_passes p v image k q l (rw (← line_loaded p v image q l)
      (holder_in_lem p v s h b q l ∙ ap (λ (x : View). holder_number (x.lines q)) (sym (loaded_shows p v s h b m n))
      ∙ holder_ranked p.tasks (rank p (state_in p image).tasks q) (slot row) row.queued row.hold_left row.budget_left))))) k
