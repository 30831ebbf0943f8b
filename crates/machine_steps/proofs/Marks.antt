-- Laws of what a tick tells: the words of resources, and the queues that lose their first.
use Rattle.machine_steps.proofs.Ground.{ℕ, zero, suc, ◌/◌, ◌<◌, ◌≤◌, Bool, true, false, cond, ◌&&◌, ◌≡◌, refl, sym, ap}
use Rattle.machine_steps.proofs.Ground.{ap₂, ◌∙◌, List, eqb, ltb, length, get_or, set, arith, any_below, and_parts, any_at, each_below}
use Rattle.machine_steps.proofs.Ground.{word_below, stamped_at, each_at, word_done, word_same, Standing, LineRow, no_standing}
use Rattle.machine_steps.proofs.Ground.{no_line, seat_count, fallen, lowered, cuts_holder, lost_queue, ended_of}
use Rattle.machine_steps.proofs.Ground.{stepped, stepped_lines, cut_word, grant_word}
use Rattle.folds.proofs.Ground.{true≢false, set-get_or, ltb-true}
use lib.Count.{ones}
use Rattle.folds.proofs.Tests.{is_not_true}
use Rattle.folds.proofs.Ranges.{any_count}
use Rattle.folds.proofs.WordLaws.{word_ones}

-- what stands for a queue that loses nobody
pub no_mark_lem : (b : Bool) → cond {A = ℕ} b 0 0 ≡ 0
no_mark_lem true = refl
no_mark_lem false = refl

-- where a tick cuts the holder, somebody is queued
pub cut_queued : (l : LineRow) → cuts_holder l ≡ true → 1 ≤ l.queued
cut_queued l e = ltb-true 0 l.queued (and_parts (ltb 0 l.queued) (eqb l.hold_left 1) e).0

-- a resource with a new grant, by its line before the tick
module _ (figures seats : List ℕ) (ls : List LineRow) where
  abbrev pub newly : ℕ → Bool
  newly q = cuts_holder (get_or ls q no_line) && ltb 0 (stepped figures seats q (get_or ls q no_line)).queued

  pub grants_done : (n : ℕ) {w : ℕ} → 16 ≤ length ls → n ≡ 16 → w ≡ word_below n newly → w ≡ grant_word ls (stepped_lines figures seats ls)
  unfolding grant_word stepped_lines
  grants_done n h e p =
      word_done 16 n newly e p
      ∙ word_same 16 _ _
      (λ q l. ap (λ (x : LineRow). cuts_holder (get_or ls q no_line) && ltb 0 x.queued) (sym (each_at no_line (λ r x. stepped figures seats r x) 16 q ls l h)))

-- ── a tick that cuts nobody ──

-- a word of no bits
word_none : (n : ℕ) (f : ℕ → Bool) → word_below n f ≡ 0 → (q : ℕ) → q < n → f q ≡ false
unfolding ones
word_none n f e q l =
    is_not_true (f q) (λ t. true≢false (sym (any_at n q f l t) ∙ any_count n f ∙ ap (ltb 0) (sym (word_ones n f) ∙ ap ones e)))

-- a loop that changes nothing
each_kept : {A : Type 0} (d : A) (g : ℕ → A → A) (n : ℕ) (l : List A) → ((u : ℕ) → u < n → g u (get_or l u d) ≡ get_or l u d) → each_below d g n l ≡ l
unfolding each_below
each_kept d g zero l h = refl
each_kept {A} d g (suc n) l h =
    ap₂ (λ (x : List A) (y : A). set x n y) (each_kept d g n l (λ u b. h u (omega arith))) (h n (omega arith)) ∙ set-get_or l n d

-- the rows of the tasks stay as they are
pub rows_kept : (keys : List ℕ) (ls : List LineRow) (ts : List Standing) → ((u : ℕ) → u < 64 → get_or keys u 0 < seat_count) → cut_word ls ≡ 0
    → lowered keys (ended_of ls) ts ≡ ts
unfolding cut_word ended_of lowered fallen
rows_kept keys ls ts low e = each_kept no_standing _ 64 ts (λ u l. rw (unmarked (get_or keys u 0 / 64) (omega (arith, low u l))))
  where
    unmarked : (x : ℕ) → x < 129 → get_or (ended_of ls) x 0 ≡ 0
    unmarked x l =
        stamped_at 16 129 (lost_queue ls) (λ q. cond (cuts_holder (get_or ls q no_line)) 1 0) (λ y. 0) x l (λ q b. rw (word_none 16 _ e q b))
        ∙ no_mark_lem (any_below 16 (λ q. eqb (lost_queue ls q) x))
