-- The states that the operations return show the lines of the rules, whatever the calls; demand 3, and the longest wait.
use Rattle.machine.proofs.Ground.{ℕ, ◌<◌, Bool, true, ◌≡◌, refl, sym, ap, ◌∙◌, List, [], ◌∷◌, ◌++◌, length, get_or, ne_eqb, eq-eqb}
use Rattle.machine.proofs.Ground.{by_eq, Plan, plan_of, Valid, refusal, accepted_checked, accepted_valid, Call, Request, View}
use Rattle.machine.proofs.Ground.{call_code, step, answer, State, shows, sound, fresh_sound, fresh_shows, state_refusal, call_refusal}
use Rattle.machine.proofs.Ground.{reply, Returned, started, called}
use Rattle.plan_reading.proofs.Laws.{tags_differ}
use Rattle.plan.specs.Acceptance.{Accepted}
use Rattle.machine_rules.specs.Machine.{fresh, after, run}
use Rattle.machine_rules.proofs.OnceLines.{Orderly, orderly_fresh}
use Rattle.machine_rules.proofs.Since.{after_last, each_since}
use Rattle.machine_rules.proofs.Promise.{all_served}
use Rattle.machine_rules.proofs.Longest.{waits_asked, never_more, never_longer}
use Rattle.machine_rules.proofs.Reached.{each_reached}
use Rattle.machine_state.specs.Shows.{fresh_state}
use Rattle.machine_state.proofs.Shown.{shown_orderly}
use Rattle.machine_state.proofs.One.{Shaped, one_state}
use Rattle.machine.specs.Replies.{Next}
use Rattle.machine.specs.Promise.{Promise, Demand3, Start, FromSound, Ran, FreshRan, LongestWait}
use Rattle.machine.proofs.Answered.{state_refusal_lem, state_accepted, plan_refused}
use Rattle.machine.proofs.Replied.{sound_answer}

module _ (f : List ℕ) (k : Accepted f) where
  -- on a sound state a call that is refused is so by its own number, and the rules leave the lines as they are
  refused_step : (s : State) (c : Call)
      → sound (plan_of f) s ≡ true
      → (call_refusal f s c ≡ 0 → ⊥)
      → step (plan_of f) (shows (plan_of f) s) c ≡ shows (plan_of f) s
  unfolding call_refusal step
  refused_step s c h d = rw (ne_eqb (call_code (plan_of f) (shows (plan_of f) s) c) 0 (rw (eq-eqb (refusal f) 0 k.none, h) at d))

  module _ (start : State) (s : View) (h : (sound (plan_of f) start ≡ true) × (shows (plan_of f) start ≡ s)) where
    -- each returned state is sound, and shows what the rules make of the calls
    pub returned_shows : (cs : List Call) (t : State) → Returned f start cs t
        → (sound (plan_of f) t ≡ true) × (shows (plan_of f) t ≡ after (plan_of f) s cs)
    returned_shows _ _ started = h
    returned_shows _ _ (called {cs = cs} {s = r} {t = t} {c = c} before n) =
        let p : Plan = plan_of f in
        let x = returned_shows cs r before in
        let last : step p (shows p r) c ≡ after p s (cs ++ (c ∷ [])) = ap (λ (l : View). step p l c) x.1 ∙ sym (after_last p s cs c) in
        by_eq (λ (b : Bool). (sound p t ≡ true) × (shows p t ≡ after p s (cs ++ (c ∷ [])))) (call_refusal f r c) 0
        (λ e. (n.sound e, n.shows e ∙ last))
        (λ d. rw (n.unchanged d) (x.0, sym (refused_step r c x.0 d) ∙ last))

    -- each call is answered what the rules say
    pub returned_answers : (cs : List Call) (t : State) (c : Call) → Returned f start cs t → reply f t c ≡ answer (plan_of f) (after (plan_of f) s cs) c
    returned_answers cs t c r =
        let x = returned_shows cs t r in
        sym (sound_answer f k.none t c x.0) ∙ ap (λ (l : View). answer (plan_of f) l c) x.1

    -- the promise, where the lines are in order
    promised : Orderly (plan_of f) s → (calls : List Call) → Promise f start s calls
    promised o calls =
        record {
          waiting = all_served (plan_of f) (accepted_valid k) s o calls;
          answers = λ before since c e t r. returned_answers before t c r;
          states = λ before since e t r. returned_shows before t r;
        }

  -- a fresh state shows fresh lines
  pub fresh_is : (sound (plan_of f) fresh_state ≡ true) × (shows (plan_of f) fresh_state ≡ fresh)
  fresh_is = (fresh_sound (plan_of f) (accepted_valid k), fresh_shows (plan_of f))

-- where each call is refused, nothing changes
pub returned_refused : (f : List ℕ) (start : State) → (state_refusal f start ≡ 0 → ⊥) → (cs : List Call) (s : State) → Returned f start cs s → s ≡ start
returned_refused f start d _ _ started = refl
returned_refused f start d _ _ (called {cs} {s} {t} {c} r n) =
    let e = returned_refused f start d cs s r in
    n.unchanged (λ z. d (state_refusal_lem f start c (rw (← e) z))) ∙ e

-- the contract leaves one next state
pub next_one : (f : List ℕ) → (refusal f ≡ 0 → Accepted f) → (s t u : State) (c : Call) → Shaped t → Shaped u → Next f s c t → Next f s c u → t ≡ u
next_one f k s t u c a b m n =
    by_eq (λ (x : Bool). t ≡ u) (call_refusal f s c) 0
    (λ e. let v : Valid (plan_of f) = accepted_valid (k (accepted e)) in
    one_state (plan_of f) v t u a b (m.sound e) (n.sound e) (m.shows e ∙ sym (n.shows e)))
    (λ d. m.unchanged d ∙ sym (n.unchanged d))
  where
    accepted : call_refusal f s c ≡ 0 → refusal f ≡ 0
    accepted e = by_eq (λ (x : Bool). refusal f ≡ 0) (refusal f) 0 (λ z. z) (λ d. sym (plan_refused f s c refl d) ∙ e)

-- from every sound state
pub from_sound : FromSound
from_sound f start w =
    promised f w.plan start (shows (plan_of f) start) (w.sound, refl) (shown_orderly (plan_of f) (accepted_valid w.plan) start w.lines w.sound)

-- demand 3, whole
pub demand_3 : Demand3
demand_3 f k calls =
    record { promise = promised f k fresh_state fresh (fresh_is f k) (orderly_fresh (plan_of f)) calls; since = each_since (plan_of f) (accepted_valid k) calls }

-- the promise of the longest wait
pub longest_wait_lem : LongestWait
longest_wait_lem f k =
    let p : Plan = plan_of f in
    let v : Valid p = accepted_valid k in
    record {
      never_told_more = λ start w calls s r tag q a m e.
          let x = sym (returned_answers f k start (shows p start) (w.sound, refl) calls s (Request tag q) r) ∙ e in
          (waits_asked p v _ tag q a m x, never_more p v (shows p start) (orderly start w) calls tag q a m x);
      kept = λ start w. never_longer p v (shows p start) (orderly start w);
      fresh_kept = never_longer p v fresh (orderly_fresh p);
      reached = each_reached p v (tags_differ f (accepted_checked k));
    }
  where
    orderly : (start : State) → Start f start → Orderly (plan_of f) (shows (plan_of f) start)
    orderly start w = shown_orderly (plan_of f) (accepted_valid k) start w.lines w.sound

-- what is known of the state once a list of calls was made, where the file is one of bytes
module _ (f : List ℕ) (bytes : (i : ℕ) → i < length f → get_or f i 0 < 256) where
  pub ran : (start : State) → length start.lines ≡ 16 → (calls : List Call) (s : State) → Returned f start calls s → Ran f start calls s
  ran start long calls s r =
      record {
        returned = r;
        unchanged = λ d. returned_refused f start d calls s r;
        sound = λ z. let w = accepted z in (returned_shows f w.plan start (shows (plan_of f) start) (w.sound, refl) calls s r).0;
        shows = λ z. let w = accepted z in (returned_shows f w.plan start (shows (plan_of f) start) (w.sound, refl) calls s r).1;
        promise = λ z. from_sound f start (accepted z) calls;
      }
    where
      accepted : state_refusal f start ≡ 0 → Start f start
      accepted z =
          let x = state_accepted f start z in record { plan = record { none = x.0; bytes = bytes }; sound = x.1; lines = long }

  pub fresh_ran : (calls : List Call) (s : State) → Ran f fresh_state calls s → FreshRan f calls s
  fresh_ran calls s r =
      record {
        returned = r.returned;
        unchanged = λ d. r.unchanged (λ z. d (state_accepted f fresh_state z).0);
        sound = λ z. (shown z).0;
        shows = λ z. (shown z).1;
        promise = λ z. demand_3 f (accepted z) calls;
      }
    where
      accepted : refusal f ≡ 0 → Accepted f
      accepted z = record { none = z; bytes = bytes }

      shown : refusal f ≡ 0 → (sound (plan_of f) s ≡ true) × (shows (plan_of f) s ≡ run (plan_of f) calls)
      shown z = returned_shows f (accepted z) fresh_state fresh (fresh_is f (accepted z)) calls s r.returned
