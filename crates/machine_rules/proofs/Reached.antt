-- The longest wait is reached. A global resource has a user on another processor too: that one asks for it first and holds it, then
-- the fellows of the task ask, one after the other, and wait. Each of them is known by its tag, as tags are unique, and is in line
-- nowhere when it asks, so no call is refused. The task that asks then has every fellow ahead of it.
use Rattle.machine_rules.proofs.Ground.{ℕ, ◌<◌, ◌≤◌, Bool, true, false, cond, ◌&&◌, not, ◌≡◌, refl, sym, ap, ◌∙◌, List, [], ◌∷◌}
use Rattle.machine_rules.proofs.Ground.{◌++◌, eqb, length, arith, eq-eqb, ne_eqb, not-true, list_below, and_parts, is_not_true, Plan}
use Rattle.machine_rules.proofs.Ground.{Valid, processor_of, uses, global, fellow, task_number, use_code, Sharing, use_clear, Line}
use Rattle.machine_rules.proofs.Ground.{among, in_line, entered, by_bool, Call, Request, Waits, View, fresh, terms, busy, request_code}
use Rattle.machine_rules.proofs.Ground.{request_answer, step, answer, fellows, longest_wait}
use Rattle.folds.proofs.Ground.{zero, suc, append-nil, lt-ltb, leb-true, eqb-true, eqb-false}
use Rattle.folds.proofs.Tests.{any_none}
use Rattle.folds.proofs.Ranges.{count_other}
use Rattle.folds.proofs.Searches.{on_eq, find_is}
use Rattle.analysis_equations.specs.Sharing.{used_on}
use Rattle.analysis_equations.specs.Questions.{sharing_code}
use Rattle.analysis_equations.proofs.Laws.{used_out}
use Rattle.queue_rules.specs.Rules.{Terms, free}
use Rattle.folds.proofs.Ground.{subst}
use Rattle.queue_rules.specs.Rules.{limit}
use Rattle.queue_rules.proofs.Lists.{among_below}
use Rattle.queue_rules.proofs.Held.{held_by, held_without, held_tasks, held_entered}
use Rattle.machine_rules.specs.Machine.{run}
use Rattle.machine_rules.specs.Longest.{Reached, EachReached}
use Rattle.machine_rules.proofs.SoundLines.{known_sharing}
use Rattle.machine_rules.proofs.Since.{after_last}

module _ (p : Plan) (q : ℕ) where
  -- ── who asks ──

  -- another processor has a user too
  other_user : Valid p → (i : ℕ) (C : Type 0) → global p q ≡ true → ((j : ℕ) → Sharing p j q → (processor_of p j ≡ processor_of p i → ⊥) → C) → C
  unfolding global
  other_user v i C g h =
      count_other p.processors (processor_of p i) (λ k. used_on p k q) C (leb-true 2 _ g)
      (λ k _ d u. used_out p k q C u (λ j l e t. h j (known_sharing p v j q (rw (g, t))) (λ s. d (sym e ∙ s))))

  -- a fellow of task i uses q on its processor, and is another
  record Fellow (i j : ℕ) : Type 0 where
    near : processor_of p j ≡ processor_of p i
    used : uses p j q ≡ true
    other : j ≡ i → ⊥

  fellow_facts : (i j : ℕ) → fellow p i q j ≡ true → Fellow i j
  fellow_facts i j f =
      let (a, d) = and_parts (eqb (processor_of p j) (processor_of p i) && uses p j q) (not (eqb j i)) f in
      let (e, u) = and_parts (eqb (processor_of p j) (processor_of p i)) (uses p j q) a in
      record { near = eqb-true _ _ e; used = u; other = eqb-false j i (not-true _ d) }

  -- task j asks for q, then those below n of which f holds
  comers : ℕ → (ℕ → Bool) → ℕ → List Call
  comers j f zero = Request (p.task j).tag q ∷ []
  comers j f (suc n) = comers j f n ++ cond (f n) (Request (p.task n).tag q ∷ []) []

  -- ── a request while nobody is in line but for q ──

  -- the line of q is l, all others are free
  record Only (l : Line) (s : View) : Type 0 where
    here : s.lines q ≡ l
    elsewhere : (r : ℕ) → (r ≡ q → ⊥) → s.lines r ≡ free

  module _ (l : Line) (s : View) (tag : ℕ) (o : Only l s) (u : use_code p tag q ≡ 0) (new : in_line (task_number p tag) l ≡ false) where
    only_code : request_code p s tag q ≡ 0
    unfolding request_code busy
    only_code = rw (u, any_none p.resources (λ r. in_line (task_number p tag) (s.lines r)) (λ r _. idle r))
      where
        idle : (r : ℕ) → in_line (task_number p tag) (s.lines r) ≡ false
        idle r = on_eq (in_line (task_number p tag) (s.lines r) ≡ false) r q (λ e. rw (e, o.here) new) (λ d. rw (o.elsewhere r d))

    only_step : Only (entered (terms p q) (task_number p tag) l) (step p s (Request tag q))
    unfolding step
    only_step =
        rw only_code (record { here = rw (eq-eqb q q refl, o.here); elsewhere = λ r d. rw (ne_eqb r q d) (o.elsewhere r d) })

    only_told : answer p s (Request tag q) ≡ request_answer p (task_number p tag) q l
    unfolding answer
    only_told = rw (only_code, o.here)

module _ (p : Plan) (v : Valid p) (tags : (a b : ℕ) → a < p.tasks → b < p.tasks → (p.task a).tag ≡ (p.task b).tag → a ≡ b) where
  -- a task is found by its tag
  tag_task : (i : ℕ) → i < p.tasks → task_number p (p.task i).tag ≡ i
  unfolding task_number
  tag_task i l =
      find_is p.tasks i (λ j. eqb (p.task j).tag (p.task i).tag) l (eq-eqb (p.task i).tag (p.task i).tag refl)
      (λ j m. ne_eqb _ _ (λ e. let s : j ≡ i = tags j i (omega arith) l e in omega arith))

  module _ (q : ℕ) where
    user_code : (i : ℕ) → Sharing p i q → use_code p (p.task i).tag q ≡ 0
    unfolding use_code sharing_code
    user_code i u =
        rw (tag_task i u.task, lt-ltb i p.tasks u.task, lt-ltb q p.resources u.resource, u.used, u.shared)

    -- a user asks that is not in the line of q
    user_comes : (l : Line) (s : View) (i : ℕ) → Sharing p i q → Only p q l s → in_line i l ≡ false
        → Only p q (entered (terms p q) i l) (step p s (Request (p.task i).tag q))
    user_comes l s i u o new =
        let e = tag_task i u.task in rw e at (only_step p q l s (p.task i).tag o (user_code i u) (rw e new))

    module _ (i j : ℕ) (ui : Sharing p i q) (uj : Sharing p j q) (other : processor_of p j ≡ processor_of p i → ⊥) where
      -- once the fellows below n have asked, they wait behind j in their order
      comers_wait : (n : ℕ) → n ≤ p.tasks
          → Only p q (held_by (terms p q) j (processor_of p i) (list_below n (fellow p i q))) (run p (comers p q j (fellow p i q) n))
      unfolding list_below comers
      comers_wait zero l = user_comes free fresh j uj (record { here = refl; elsewhere = λ r d. refl }) refl
      comers_wait (suc n) l =
          let t : Terms = terms p q in
          let k : ℕ = processor_of p i in
          let us : List ℕ = list_below n (fellow p i q) in
          let cs : List Call = comers p q j (fellow p i q) n in
          let before = comers_wait n (omega arith) in
          by_bool (λ b. Only p q (held_by t j k (us ++ cond b (n ∷ []) [])) (run p (cs ++ cond b (Request (p.task n).tag q ∷ []) [])))
          (fellow p i q n)
          (λ f. let x = fellow_facts p q i n f in
          let u = known_sharing p v n q (rw (ui.shared, x.used)) in
          let late : among n us ≡ false = is_not_true _ (λ a. let (m, _) = among_below n n (fellow p i q) a in omega arith) in
          rw (after_last p fresh cs (Request (p.task n).tag q), ← held_entered t j k other n us x.near)
          (user_comes _ (run p cs) n u before (held_without t j k n us (λ e. other (ap (processor_of p) e ∙ x.near)) late)))
          (λ _. rw (append-nil us, append-nil cs) before)

      -- once all have, i is told so
      all_ahead : (tag : ℕ) → task_number p tag ≡ i → use_code p tag q ≡ 0
          → answer p (run p (comers p q j (fellow p i q) p.tasks)) (Request tag q) ≡ Waits (length (fellows p i q)) (longest_wait p i q)
      unfolding fellows longest_wait
      all_ahead tag e u =
          let t : Terms = terms p q in
          let k : ℕ = processor_of p i in
          let us : List ℕ = list_below p.tasks (fellow p i q) in
          let self : among i us ≡ false = is_not_true _
          (λ a. let (_, f) = among_below p.tasks i (fellow p i q) a in (fellow_facts p q i i f).other refl) in
          let new = held_without t j k i us (λ s. other (ap (processor_of p) s)) self in
          let asked = subst (λ (x : ℕ). in_line x (held_by t j k us) ≡ false) (sym e) new in
          only_told p q (held_by t j k us) _ tag (comers_wait p.tasks (omega arith)) u asked
          ∙ subst (λ (x : ℕ). request_answer p x q (held_by t j k us) ≡ Waits (length us) (limit t i us)) (sym e)
          (ap (λ (l : List ℕ). Waits (length l) (limit t i l)) (held_tasks t j k other us))

pub each_reached : (p : Plan) → Valid p → ((a b : ℕ) → a < p.tasks → b < p.tasks → (p.task a).tag ≡ (p.task b).tag → a ≡ b) → EachReached p
each_reached p v tags tag q e =
    let i : ℕ = task_number p tag in
    let u = use_clear p tag q e in
    other_user p q v i (Reached p tag q) u.shared
    (λ j w d. record { calls = comers p q j (fellow p i q) p.tasks; told_exactly = all_ahead p v tags q i j u w d tag refl e })
