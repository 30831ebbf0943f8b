-- Tags and places seen in a pass over task rows, and what they tell once every row keeps its rule.
use Rattle.plan_layout.proofs.Ground.{ℕ, ◌+◌, ◌*◌, ◌%◌, ◌<◌, ◌≤◌, Bool, true, false, cond, ◌&&◌, ◌≡◌, sym, ap, ap₂, ◌∙◌, List, eqb}
use Rattle.plan_layout.proofs.Ground.{replicate, arith, all_below, all_same, marked_below, Bytes, task_of, TaskRow, wrong_task, repeated}
use Rattle.plan_layout.proofs.Ground.{most_tasks, edition1, format_of, task_at, task_rows, task_rows_ok, task_code}
use Rattle.folds.proofs.Ground.{not}
use Rattle.plan_rules.specs.Rules.{tag_new, priority_new, unique_ok}
use Rattle.plan_rules.proofs.Laws.{place_eqb, task_facts}
use Rattle.sizes.specs.Sizes.{most_processors}
use Rattle.plan_layout.specs.Inner.{TasksFit}
use Rattle.plan_layout.proofs.Laws.{task_fields, task_read, task_kept}

-- row k's tag, and its place in the table of priorities
abbrev pub tag_key : List ℕ → ℕ → ℕ
tag_key part k = (task_at edition1 part k).tag

abbrev pub place_key : List ℕ → ℕ → ℕ
place_key part k = (task_at edition1 part k).processor % 8 * 256 + (task_at edition1 part k).priority

-- row i's key is that of no earlier row
abbrev pub key_new : (ℕ → ℕ) → ℕ → Bool
key_new key i = all_below i (λ j. not (eqb (key i) (key j)))

abbrev pub keys_new : List ℕ → ℕ → Bool
keys_new part i = key_new (tag_key part) i && key_new (place_key part) i

module _ (n p : ℕ) (part : List ℕ) (few : n ≤ most_tasks) (most : p ≤ most_processors) (bytes : (k : ℕ) → (task_at edition1 part k).priority < 256) (ok : task_rows_ok edition1 n p part ≡ true) where
  processor_small : (k : ℕ) → k < n → (task_at edition1 part k).processor % 8 ≡ (task_at edition1 part k).processor
  processor_small k l =
      let t = task_facts (format_of edition1).most_tag p (task_at edition1 part k) (task_kept edition1 n part p k ok l).rule in omega arith

  row : (k : ℕ) → k < n → task_at edition1 part k ≡ task_of (task_rows edition1 n part) k
  row k l = sym (task_read edition1 n part k l few)

  tags_same : (i j : ℕ) → i < n → j < n → eqb (tag_key part i) (tag_key part j) ≡ eqb (task_of (task_rows edition1 n part) i).tag (task_of (task_rows edition1 n part) j).tag
  tags_same i j l m = ap₂ (λ (a b : TaskRow). eqb a.tag b.tag) (row i l) (row j m)

  places_same : (i j : ℕ) → i < n → j < n → eqb (place_key part i) (place_key part j) ≡ (eqb (task_of (task_rows edition1 n part) i).processor (task_of (task_rows edition1 n part) j).processor && eqb (task_of (task_rows edition1 n part) i).priority (task_of (task_rows edition1 n part) j).priority)
  places_same i j l m =
      place_eqb ((task_at edition1 part i).processor % 8) ((task_at edition1 part j).processor % 8) (task_at edition1 part i).priority (task_at edition1 part j).priority (bytes i) (bytes j)
      ∙ rw (processor_small i l, processor_small j m) (ap₂ (λ (a b : TaskRow). eqb a.processor b.processor && eqb a.priority b.priority) (row i l) (row j m))

  pub keys_unique : all_below n (keys_new part) ≡ unique_ok n (task_rows edition1 n part)
  unfolding unique_ok tag_new priority_new
  keys_unique =
      all_same n _ _
      (λ i l. ap₂ ◌&&◌ (all_same i _ _ (λ j m. ap not (tags_same i j l (omega arith)))) (all_same i _ _ (λ j m. ap not (places_same i j l (omega arith)))))

-- a priority is a byte
priority_byte : (part : List ℕ) → Bytes part → (k : ℕ) → (task_at edition1 part k).priority < 256
priority_byte part b k = rw (ap (λ (t : TaskRow). t.priority) (task_fields part k)) (b (k * 8 + 2))

-- what a pass over the rows below i has found
pub record Seen (n p : ℕ) (part : List ℕ) (ts ps : List Bool) (test new : Bool) (i : ℕ) : Type 0 where
  pub tags : ts ≡ marked_below i (tag_key part) (replicate 256 false)
  pub places : ps ≡ marked_below i (place_key part) (replicate 2048 false)
  pub ok : test ≡ task_rows_ok edition1 i p part
  pub fresh : new ≡ all_below i (keys_new part)

-- and a pass over all
module _ {n p : ℕ} {part : List ℕ} {ts ps : List Bool} {test new : Bool} {i : ℕ} (s : Seen n p part ts ps test new i) (e : i ≡ n) where
  pub seen_code : TasksFit n p part → Bytes part → cond test (cond new 0 repeated) wrong_task ≡ task_code edition1 n p part
  unfolding task_code
  seen_code f b = go test (rw (← e) s.ok)
    where
      go : (t : Bool) → t ≡ task_rows_ok edition1 n p part → cond t (cond new 0 repeated) wrong_task ≡ task_code edition1 n p part
      go true h =
          let fresh : new ≡ all_below n (keys_new part) = rw (← e) s.fresh in
          rw (← h, fresh, keys_unique n p part f.tasks f.processors (priority_byte part b) (sym h))
      go false h = rw (← h)
