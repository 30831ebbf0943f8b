-- A processor that is queued is kept until it is head: at most its wait time.
use Rattle.queue_rules.proofs.Ground.{ℕ, Bool, true, false, cond, ◌||◌, true≢false, ◌≡◌, refl, sym, ◌∙◌, List, ◌∷◌, [], ◌++◌, arith}
use Rattle.queue_rules.proofs.Ground.{eqb-false, by_eq, Terms, Turn, turn, Line, line, queue_of, among, has_turn, tasks_of, all_but}
use Rattle.queue_rules.specs.Rules.{is_head, queued}
use Rattle.queue_rules.proofs.Sound.{Fits, Sound}
use Rattle.queue_rules.proofs.Kept.{Kept, Waiting, kept_bound}

-- there are tasks: they wait for nothing once the first is granted
pub data Some : List ℕ → ℕ → Type 0 where
  some : {u n : ℕ} {us : List ℕ} → Some (u ∷ us) n

abbrev pub is_some : List ℕ → Bool
is_some [] = false
is_some (u ∷ us) = true

pub among_some : (i : ℕ) (us : List ℕ) → among i us ≡ true → is_some us ≡ true
among_some i [] m = m
among_some i (u ∷ us) m = refl

some_of : (us : List ℕ) {n : ℕ} → is_some us ≡ true → Some us n
some_of [] s = absurd (true≢false (sym s))
some_of (u ∷ us) s = some

grown : (v : ℕ) {n : ℕ} {us : List ℕ} → Some us n → Some (us ++ (v ∷ [])) n
grown v some = some

there : {n : ℕ} {us : List ℕ} → Some us n → is_some us ≡ true
there some = refl

pub core_kept : (t : Terms) (k : ℕ) → Kept t k (is_head k) is_some Some
core_kept t k = record {
  some = λ o. elim o [ ];
  grows = grown;
  next = λ {h} {b} {j} e o nh. absurd (eqb-false j k nh e);
  own_there = there;
  there_behind = λ _. refl;
  there_next = λ {h} {b} {j} e s nh. absurd (eqb-false j k nh e);
  shrinks = λ v {n} {us} o s. some_of (all_but v us) s;
}

-- a processor that is queued has tasks in line
pub queued_some : (k : ℕ) (q : List Turn) → is_some (tasks_of k q) ≡ has_turn k q
queued_some k [] = refl
queued_some k (turn j u us ∷ q) =
    by_eq (λ (d : Bool). is_some (cond d (u ∷ us) (tasks_of k q)) ≡ (d || has_turn k q)) j k (λ _. refl) (λ _. queued_some k q)

-- the head is queued
pub head_queued : (k : ℕ) (l : Line) → is_head k l ≡ true → queued k l ≡ true
head_queued k (line h b []) e = e
head_queued k (line h b (turn j u us ∷ q)) e = rw e

pub head_bound : (t : Terms) (k : ℕ) (known : ℕ → Bool) (procs : ℕ) → Fits t known procs → (l : Line) → Sound t known procs l → queued k l ≡ true
    → is_head k l ≡ false → Waiting t k (is_head k) is_some Some (t.wait k) l
head_bound t k known procs fit l s a nh =
    kept_bound t k (is_head k) is_some Some (core_kept t k) known procs fit l 0 _ s (some_of _ (queued_some k (queue_of l) ∙ a)) nh (omega arith)
