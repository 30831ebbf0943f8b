-- Which lines of a sheet are left out, and what the tables tell of them.
use Rattle.print_sheet.proofs.Ground.{ℕ, ◌<◌, Bool, true, false, ◌&&◌, not, ◌≡◌, refl, sym, ◌∙◌, List, eqb, arith}
use Rattle.folds.proofs.Ground.{◌≤◌, length}
use Rattle.print_sheet.proofs.Ground.{valid_plan, most_tasks, most_processors, most_resources, plan_of, Valid, used_on, global, hold_at, global_count}
use Rattle.print_sheet.proofs.Ground.{requirement_line, requirement_at, requirement_room, passes}
use Rattle.folds.proofs.Ground.{cond, [], get_or, eq-eqb, ne_eqb, not-true, not-false}
use Rattle.folds.proofs.Tests.{and_parts}
use Rattle.print_text.specs.Text.{PutIn}
use Rattle.print_text.proofs.TextLaws.{put_none, put_in}
use Rattle.plan_rules.specs.declared.Counts.{Counts}
use Rattle.plan_rules.specs.declared.TaskRow.{TaskRow}
use Rattle.plan_layout.specs.Layout.{counts_of}
use Rattle.plan_reading.specs.Plan.{Plan, Checked}
use Rattle.plan_reading.specs.Inner.{Counted}
use Rattle.analysis_equations.specs.Sharing.{uses}
use Rattle.analysis_equations.proofs.Laws.{asks_not, asks_some, hold_zero, hold_shared}
use Rattle.analysis_figures.specs.Figures.{hold_cell, budget_cell}
use Rattle.analysis_totals.specs.Totals.{users_cell, wait_cell, Added, SharingTask}
use Rattle.analysis_totals.proofs.Laws.{users_told}
use Rattle.analysis_requirements.specs.declared.Requirement.{Requirement}
use Rattle.analysis_requirements.specs.Figures.{requirement_of}
use Rattle.print_lines.specs.declared.Word.{Word}
use Rattle.print_lines.specs.Lines.{plan_line}
use Rattle.print_lines.specs.Inner.{word_text}
use Rattle.machine_rules.specs.Longest.{fellows, longest_wait}
use Rattle.print_sheet.specs.Sheet.{budget_line, budget_at, hold_line, hold_line_at}
use Rattle.print_sheet.specs.Inner.{budget_room, hold_room, PutAll}

-- the text of one of two words
pub either_text : (first : Bool) (x y : Word) → word_text (cond first x y) ≡ cond first (word_text x) (word_text y)
either_text true x y = refl
either_text false x y = refl

-- the counts that were read are those of the plan
pub plan_counts : {l m : List ℕ} {at e room : ℕ} (f : List ℕ) (c : Counts) → Counted (plan_of f) c
    → PutIn l m at room (plan_line c) e
    → PutIn l m at room (plan_line (counts_of f)) e
unfolding plan_of
plan_counts f c h p = rw (h.processors, h.tasks, h.resources, h.sections) at p

-- the plan's counts
pub few_resources : (f : List ℕ) → Checked f → (plan_of f).resources ≤ most_resources
few_resources f h = let v = valid_plan f h in omega arith

pub few_tasks : (f : List ℕ) → Checked f → (plan_of f).tasks ≤ most_tasks
few_tasks f h = let v = valid_plan f h in omega arith

pub few_processors : (f : List ℕ) → Checked f → (plan_of f).processors ≤ most_processors
few_processors f h = let v = valid_plan f h in omega arith

-- a line that is left out
pub line_out : (l : List ℕ) (at room : ℕ) → PutIn l l at room [] at
line_out l at room = put_in room (put_none l at) (omega arith)

module _ {f figures t : List ℕ} (h : Added f figures t) where
  abbrev p : Plan
  p = plan_of f

  v : Valid p
  v = valid_plan f h.known.plan

  -- processor k and resource q, where the totals have n users of q on k
  module _ {k q n : ℕ} (lk : k < p.processors) (lq : q < p.resources) (e : n ≡ get_or t (users_cell k q) 0) where
    told : eqb n 0 ≡ not (global p q && used_on p k q)
    told = rw e (users_told p v h.totals (omega (arith, v)) (omega (arith, v)))

    -- there is no line where there are none
    pub budget_out : (l : List ℕ) (at : ℕ) → n ≡ 0 → PutIn l l at budget_room (budget_at f k q) at
    budget_out l at z = rw (not-true _ (sym told ∙ eq-eqb n 0 z)) (line_out l at budget_room)

    -- else the line has budget and wait time as the tables have them
    pub budget_in : {l m : List ℕ} {at b w r : ℕ} → (n ≡ 0 → ⊥) → b ≡ get_or figures (budget_cell k q) 0 → w ≡ get_or t (wait_cell k q) 0
        → PutIn l m at budget_room (budget_line f k q b w) r → PutIn l m at budget_room (budget_at f k q) r
    budget_in d eb ew line =
        let b = eb ∙ h.known.figures.budget k q (omega (arith, v)) (omega (arith, v)) in
        rw (not-false _ (sym told ∙ ne_eqb n 0 d)) (rw (b, ew ∙ h.totals.wait k q lk lq) at line)

  -- task i and resource q, where the figures have r as its hold time
  module _ {i q r : ℕ} (li : i < p.tasks) (lq : q < p.resources) (e : r ≡ get_or figures (hold_cell i q) 0) where
    held : r ≡ hold_at p i q
    held = e ∙ h.known.figures.hold i q (omega (arith, v)) (omega (arith, v))

    held_zero : eqb r 0 ≡ not (global p q && uses p i q)
    held_zero = rw held (hold_zero p v i q)

    -- there is no line where it is 0
    pub hold_out : (l : List ℕ) (at : ℕ) → r ≡ 0 → PutIn l l at hold_room (hold_line_at f i q) at
    hold_out l at z = rw (not-true _ (sym held_zero ∙ eq-eqb r 0 z)) (line_out l at hold_room)

    -- else the task uses the resource, which is global
    module _ (d : r ≡ 0 → ⊥) where
      pub hold_some : (global p q && uses p i q) ≡ true
      hold_some = not-false _ (sym held_zero ∙ ne_eqb r 0 d)

      pub hold_global : (global p q ≡ true) × (uses p i q ≡ true)
      hold_global = and_parts (global p q) (uses p i q) hold_some

      pub shares : SharingTask f figures t i q
      shares = record { added = h; task = li; used = hold_global.1; shared = hold_global.0 }

      pub hold_in : {l m : List ℕ} {at n w z : ℕ} {row : TaskRow} → row ≡ p.task i → n ≡ length (fellows p i q) → w ≡ longest_wait p i q
          → PutIn l m at hold_room (hold_line f row.tag q r n w) z → PutIn l m at hold_room (hold_line_at f i q) z
      hold_in o en ew line = rw hold_some (rw (o, en, ew, held ∙ hold_shared p i q hold_global.0 hold_global.1) at line)

-- the requirement of task i, which has n global sections
module _ (f : List ℕ) (i : ℕ) {n : ℕ} (c : n ≡ global_count (plan_of f) i) where
  pub requirement_out : (l : List ℕ) (at : ℕ) → n ≡ 0 → PutAll l l at requirement_room (requirement_at f i) (passes f i) (record { end = at; all = true })
  requirement_out l at z = let e = asks_not (plan_of f) i c z in record { put = rw e (line_out l at requirement_room); all = rw e }

  pub requirement_in : {l m : List ℕ} {at r : ℕ} {row : TaskRow} {found : Requirement} → (n ≡ 0 → ⊥) → row ≡ (plan_of f).task i → found ≡ requirement_of (plan_of f) i
      → PutIn l m at requirement_room (requirement_line row.tag found) r
      → PutAll l m at requirement_room (requirement_at f i) (passes f i) (record { end = r; all = found.met })
  unfolding requirement_of
  requirement_in d o e p = let a = asks_some (plan_of f) i c d in record { put = rw a (rw (o, e) at p); all = rw (a, e) }
