-- The image of a sound state shows that state: what is stored and then loaded is the same, and sound.
use Rattle.image.proofs.Ground.{ℕ, ◌<◌, ◌≤◌, true, ◌≡◌, sym, ap, ◌∙◌, ⊎_elim, List, length, get_or, length-replicate}
use Rattle.image.proofs.Ground.{get_or-replicate, ext_get_or, arith, on_le, placed_length, placed_at, placed_later}
use Rattle.image.proofs.Ground.{most_tasks, most_resources, Plan, Valid, task_ranked, list_from, queue_from}
use Rattle.image.proofs.Ground.{full, task_rank, State, free_line, fresh_state, line_at, no_line, no_standing, none_in_line}
use Rattle.image.proofs.Ground.{slot, standing, rank, shows, sound, line_of, state_of, standing_of, Good, Whole, line_at_lem}
use Rattle.image.proofs.Ground.{standing_at, rows_told, hold_resource, hold_task, whole_of, sound_of, image_with, state_in, holder_number}
use Rattle.image.proofs.Ground.{line_in, holder_in, standing_in, standing_from, image_of, line_from, image_length, drop, shown_in}
use Rattle.queue_rules.specs.Rules as Rules
use Rattle.queue_ranks.proofs.Ranked.{owner}
use Rattle.machine_state.proofs.Wholes.{state_same}
use Rattle.machine_state.proofs.One.{Shaped, told_shaped}
use Rattle.image.proofs.Rows.{line_back, standing_back, line_same}
use Rattle.image.proofs.Wholes.{same_whole, same_shown}

-- no line with a queue of none
none_line : (p : Plan) (R : ℕ → ℕ → ℕ) (g : ℕ → ℕ) (c h b : ℕ) → c ≡ 0 → h ≡ 0 → b ≡ 0
    → line_of (Rules.line h b (queue_from p.tasks R c g)) ≡ free_line
unfolding list_from
none_line p R g c h b e f k = rw (e, f, k)

module _ (p : Plan) (v : Valid p) (s : State) (w : Whole p s) where
  -- past the plan's resources nobody is in line
  pub past_free : (q : ℕ) → q < most_resources → p.resources ≤ q → (line_at s q).queued ≡ 0
  past_free q l a =
      on_le ((line_at s q).queued ≡ 0) 1 (line_at s q).queued
      (λ some. let g : Good p s.tasks q (line_at s q) = w.lines q l in
      let k : ℕ = slot (line_at s q) 0 in
      let R : ℕ → ℕ → ℕ = rank p s.tasks q in
      let lt : task_ranked p.tasks (R k) 1 < p.tasks = full g.ranked k 1 (omega arith) (g.queued.served 0 (omega arith)) in
      let r : R k (task_ranked p.tasks (R k) 1) ≡ 1 = task_rank p.tasks 1 (R k) lt in
      let o = owner g.ranked k (task_ranked p.tasks (R k) 1) lt (omega arith) in
      omega (arith, hold_resource p v _ q (g.ranked.uses _ lt (rw (← o) (omega arith)))))
      (λ z. omega arith)

  past_line : (q : ℕ) → q < most_resources → p.resources ≤ q → line_of ((shows p s).lines q) ≡ free_line
  unfolding shows
  past_line q l a =
      let e = past_free q l a in
      let x = (w.lines q l).timed.idle e in
      none_line p (rank p s.tasks q) (slot (line_at s q)) (line_at s q).queued (line_at s q).hold_left (line_at s q).budget_left e x.0 x.1

  -- and past its tasks everybody is idle
  past_idle : (i : ℕ) → i < most_tasks → p.tasks ≤ i → standing s.tasks i ≡ none_in_line
  past_idle i l a = ⊎_elim (λ e. e) (λ h. let bad : ⊥ = omega (arith, hold_task p v i _ h) in absurd bad) (w.rows i l)

module _ (p : Plan) (v : Valid p) (s : State) (h : sound p s ≡ true) (b : List ℕ) where
  abbrev image : List ℕ
  image = image_with p (shows p s) b

  line_in_lem : (q : ℕ) → q < p.resources → line_in image q ≡ line_of ((shows p s).lines q)
  unfolding line_in image_of
  line_in_lem q l =
      ap line_from (line_back p (λ q. line_of ((shows p s).lines q)) (λ q. holder_number ((shows p s).lines q)) (standing_of p (shows p s)) (drop (image_length p) b) q l)
      ∙ line_same ((shows p s).lines q) (holder_number ((shows p s).lines q))

  -- the holder's number in each row
  pub holder_in_lem : (q : ℕ) → q < p.resources → holder_in image q ≡ holder_number ((shows p s).lines q)
  unfolding holder_in image_of
  holder_in_lem q l =
      ap (λ (vs : List ℕ). get_or vs 1 0) (line_back p (λ q. line_of ((shows p s).lines q)) (λ q. holder_number ((shows p s).lines q)) (standing_of p (shows p s)) (drop (image_length p) b) q l)

  standing_in_lem : (i : ℕ) → i < p.tasks → standing_in p image i ≡ standing_of p (shows p s) i
  unfolding standing_in image_of
  standing_in_lem i l =
      ap standing_from (standing_back p (λ q. line_of ((shows p s).lines q)) (λ q. holder_number ((shows p s).lines q)) (standing_of p (shows p s)) (drop (image_length p) b) i l)

  -- stored and then loaded: the state that the lines tell
  pub loaded_back : state_in p image ≡ state_of p (shows p s)
  loaded_back =
      state_same (state_in p image) (state_of p (shows p s))
      (ext_get_or no_line (state_in p image).lines (state_of p (shows p s)).lines (lines_long ∙ sym told.lines)
      (λ q l. let c : q < most_resources = rw lines_long at l in
      on_le (line_at (state_in p image) q ≡ line_at (state_of p (shows p s)) q) p.resources q
      (λ a. placed_later p.resources q (line_in image) fresh_state.lines no_line a ∙ get_or-replicate most_resources q free_line no_line c
      ∙ sym (past_line p v s w q c a) ∙ sym (line_at_lem p (shows p s) q c))
      (λ a. placed_at p.resources q (line_in image) fresh_state.lines no_line a (rw length-replicate v.resources)
      ∙ line_in_lem q a ∙ sym (line_at_lem p (shows p s) q c))))
      (ext_get_or no_standing (state_in p image).tasks (state_of p (shows p s)).tasks (tasks_long ∙ sym told.tasks)
      (λ i l. let c : i < most_tasks = rw tasks_long at l in
      on_le (standing (state_in p image).tasks i ≡ standing (state_of p (shows p s)).tasks i) p.tasks i
      (λ a. placed_later p.tasks i (standing_in p image) fresh_state.tasks no_standing a ∙ get_or-replicate most_tasks i none_in_line no_standing c
      ∙ sym (past_idle p v s w i c a) ∙ (rows_told p v s h).tasks i c)
      (λ a. placed_at p.tasks i (standing_in p image) fresh_state.tasks no_standing a (rw length-replicate v.tasks)
      ∙ standing_in_lem i a ∙ sym (standing_at p (shows p s) i c))))
    where
      w : Whole p s
      w = whole_of p v s h

      told : Shaped (state_of p (shows p s))
      told = told_shaped p (shows p s)

      lines_long : length (state_in p image).lines ≡ most_resources
      lines_long = placed_length p.resources (line_in image) fresh_state.lines ∙ length-replicate most_resources free_line

      tasks_long : length (state_in p image).tasks ≡ most_tasks
      tasks_long = placed_length p.tasks (standing_in p image) fresh_state.tasks ∙ length-replicate most_tasks none_in_line

  module _ (lines : length s.lines ≡ most_resources) (tasks : length s.tasks ≡ most_tasks) where
    told_tasks : s.tasks ≡ (state_of p (shows p s)).tasks
    told_tasks =
        ext_get_or no_standing s.tasks (state_of p (shows p s)).tasks (tasks ∙ sym (told_shaped p (shows p s)).tasks)
        (λ i l. (rows_told p v s h).tasks i (rw tasks at l))

    -- it is sound, and shows what the state did
    pub loaded_sound : sound p (state_in p image) ≡ true
    loaded_sound =
        rw loaded_back (sound_of p v (state_of p (shows p s)) (same_whole p s (state_of p (shows p s)) (rows_told p v s h) told_tasks (whole_of p v s h)))

    pub loaded_shows : shown_in p image ≡ shows p s
    loaded_shows =
        ap (shows p) loaded_back
        ∙ same_shown p s (state_of p (shows p s)) (rows_told p v s h) told_tasks (whole_of p v s h) lines (told_shaped p (shows p s)).lines
