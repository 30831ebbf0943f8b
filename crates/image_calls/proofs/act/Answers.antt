-- The image is not sound, the call is refused, or it is made and what it leaves is stored.
use Rattle.std.proofs.lemmas.Result.{err_from_is_err_and}
use Rattle.refusals.proofs.Laws.{number_no0}
use Rattle.image_calls.proofs.Ground.{ℕ, ◌≤◌, true, false, ◌≡◌, sym, ◌∙◌, List, length, arith, refusal, plan_of, Valid, valid_plan}
use Rattle.image_calls.proofs.Ground.{Call, Refused, State, sound, image_length, state_in, image_sound, image_tested}
use Rattle.image_calls.proofs.Ground.{fit_test, image_refusal, Made}
use Rattle.image_calls.proofs.Made.{room_lent, unsound_image_lem, sound_image, image_first, own_code, refused, done}
use Rattle.image_calls.proofs.act.Goals as goal

module _ (f b : List ℕ) (v : Valid (plan_of f)) (none : refusal f ≡ 0) (room : image_length (plan_of f) ≤ length b) where
  unsound : (c : Call) → image_sound (plan_of f) b ≡ false → Made f b c (Refused 25) b
  unsound c e = refused f b c (image_first f b c (unsound_image_lem f b (room_lent f b none room) e) (λ z. omega arith)) (λ z. omega arith)

  accepted : (s : State) → true ≡ fit_test (plan_of f) b → s ≡ state_in (plan_of f) b → sound (plan_of f) s ≡ true → image_refusal f b ≡ 0
  accepted s fits e h = sound_image f b (room_lent f b none room) (sym (image_tested (plan_of f) v b) ∙ rw (← fits, ← e) h)

pub returns-then-not-fits : goal.returns-then-not-fits
returns-then-not-fits c =
    let v = valid_plan _ c.requires.known.plan in
    unsound _ _ v c.requires.none c.requires.room _ (sym (image_tested _ v _) ∙ rw (← c.if-not-fits.ensures))

pub returns-in_default : goal.returns-in_default
returns-in_default c =
    let v = valid_plan _ c.requires.known.plan in
    unsound _ _ v c.requires.none c.requires.room _
    (sym (image_tested _ v _) ∙ rw (← c.if-not-fits.ensures, ← c.load-state.ensures) c.in_default.ensures.told.0)

pub returns-in_err-check_call : goal.returns-in_err-check_call
returns-in_err-check_call c =
    let p = err_from_is_err_and c.from_residual.result c.from_residual.ensures.1 in
    let v = valid_plan _ c.requires.known.plan in
    let z = accepted _ _ v c.requires.none c.requires.room _ c.if-not-fits.ensures c.load-state.ensures c.in-Ok.ensures.told.0 in
    rw (p.1, p.2)
    (refused _ _ _ (own_code _ _ _ z ∙ rw (← c.load-state.ensures) (sym c.in_err-check_call.ensures)) (number_no0 c.in_err-check_call.field-0.0))

pub returns : goal.returns
returns c =
    let v = valid_plan _ c.requires.known.plan in
    let z = accepted _ _ v c.requires.none c.requires.room _ c.if-not-fits.ensures c.load-state.ensures c.in-Ok.ensures.told.0 in
    done c.args.file.now c.args.image.now c.args.call c.make-reply.result v c.requires.none c.requires.room z
    (rw (← c.load-state.ensures) (sym c.in_ok-check_call.ensures)) (rw (← c.load-state.ensures) c.make-reply.ensures)
    c.store.ensures.image_after c.store.ensures.lines_len
