-- How the code tests an image, and what its functions rely on and give. None of this is a rule of document 02.
use Rattle.std.specs.Borrow.{MutBor}
use Rattle.std.specs.Prelude.{ℕ, ◌+◌, ◌*◌, ◌%◌, ◌<◌, ◌≤◌, Bool, true, false, cond, ◌&&◌, List, ◌≡◌, eqb, ltb, length, get_or, replicate}
use Rattle.sizes.specs.Sizes.{most_tasks, most_resources, absent}
use Rattle.folds.specs.Below.{all_below}
use Rattle.folds.proofs.Arrays.{stamped_below}
use Rattle.plan_reading.specs.Plan.{Plan, plan_of, Checked}
use Rattle.analysis_equations.specs.Sharing.{processor_of}
use Rattle.machine_state.specs.declared.Standing.{Standing}
use Rattle.machine_state.specs.declared.LineRow.{LineRow}
use Rattle.machine_state.specs.declared.State.{State}
use Rattle.machine_state.specs.Shows.{no_line, line_at, standing, slot}
use Rattle.machine_state.specs.Sound.{sound}
use Rattle.image.specs.Layout.{line_rows_at, image_length}
use Rattle.image.specs.Image.{line_bytes, standing_bytes, line_in, holder_in, standing_in}
use Rattle.image.specs.Sound.{counts_fit}

-- the width of a resource row as a number
abbrev pub line_width : ℕ
line_width = 14

-- and of a task row
abbrev pub standing_width : ℕ
standing_width = 2

-- where the task rows begin at the most
abbrev pub standing_rows_far : ℕ
standing_rows_far = 228

-- a task of processor j with this row is the first of processor k in line for q
abbrev pub first : ℕ → ℕ → Standing → ℕ → Bool
first q k s j = eqb s.resource q && eqb s.place 0 && eqb j k

-- the holder's number in row q: that of a first task of the head, or none where the resource is free
unfoldable pub holder_test : Plan → List ℕ → ℕ → Bool
holder_test p b q =
    cond (eqb (line_in b q).queued 0) (eqb (holder_in b q) absent)
    (cond (ltb (holder_in b q) p.tasks) (first q (slot (line_in b q) 0) (standing_in p b (holder_in b q)) (processor_of p (holder_in b q))) false)

-- what is tested of an image beside the state that it shows
unfoldable pub fit_test : Plan → List ℕ → Bool
fit_test p b = counts_fit p b && all_below p.resources (holder_test p b)

-- where a task of processor j with this row is put into the table of holders, with the row of the resource that it names: at that resource
-- where it is the first task of the head, else behind them all
unfoldable pub holder_key : Standing → LineRow → ℕ → ℕ
holder_key s l j = cond (ltb s.resource most_resources && (eqb s.place 0 && eqb (slot l 0) j)) s.resource most_resources

-- that of task u of a state
abbrev pub key_at : Plan → State → ℕ → ℕ
key_at p s u = holder_key (standing s.tasks u) (line_at s ((standing s.tasks u).resource % most_resources)) (processor_of p u)

-- ── what the functions rely on ──

-- a plan that passed every check, and bytes with room for its image
pub record Lent (f b : List ℕ) : Type 0 where
  pub plan : Checked f
  pub room : image_length (plan_of f) ≤ length b

-- bytes with room for the row of resource q, and for those of n resources
pub record LineRoom (q : ℕ) (b : List ℕ) : Type 0 where
  pub few : q < most_resources
  pub room : line_rows_at + q * line_width + line_width ≤ length b

pub record LinesRoom (n : ℕ) (b : List ℕ) : Type 0 where
  pub few : n ≤ most_resources
  pub room : line_rows_at + n * line_width ≤ length b

-- for the row of task i where these begin at `from`, and for those of n tasks
pub record StandingRoom (from i : ℕ) (b : List ℕ) : Type 0 where
  pub few : i < most_tasks
  pub low : from ≤ standing_rows_far
  pub room : from + i * standing_width + standing_width ≤ length b

pub record StandingsRoom (from n : ℕ) (b : List ℕ) : Type 0 where
  pub few : n ≤ most_tasks
  pub low : from ≤ standing_rows_far
  pub room : from + n * standing_width ≤ length b

-- such bytes, and a resource of the plan
pub record LentRow (f b : List ℕ) (q : ℕ) : Type 0 where
  pub lent : Lent f b
  pub resource : q < (plan_of f).resources

-- such a state, and room for its image
pub record Storing (f b : List ℕ) (s : State) : Type 0 where
  pub lent : Lent f b
  pub sound : sound (plan_of f) s ≡ true

-- rows of a buffer, one behind the other
pub record LinesPut (n : ℕ) (holders buf : List ℕ) : Type 0 where
  pub few : n ≤ most_resources
  pub table : length holders ≡ most_resources + 1
  pub room : n * line_width ≤ length buf

pub record StandingsPut (n : ℕ) (buf : List ℕ) : Type 0 where
  pub few : n ≤ most_tasks
  pub room : n * standing_width ≤ length buf

-- what puts a row may be called for each row below n, where there is room for so many bytes
abbrev pub TakesRows : (ℕ → MutBor (List ℕ) → Type 0) → ℕ → ℕ → Type 0
TakesRows pre n width = (i : ℕ) (row : MutBor (List ℕ)) → i < n → length row.now ≡ width → pre i row

-- and puts the bytes f there
pub record PutsRows (post : ℕ → MutBor (List ℕ) → Unit {0} → MutBor (List ℕ) → Type 0) (n width : ℕ) (f : ℕ → List ℕ) : Type 0 where
  pub wide : (i : ℕ) → length (f i) ≡ width
  pub puts : (i : ℕ) (row left : MutBor (List ℕ)) → i < n → post i row tt left → left.now ≡ f i

-- ── what they give ──

-- who holds which resource, by the keys of the tasks
unfoldable pub holder_table : Plan → State → List ℕ
holder_table p s = stamped_below p.tasks (key_at p s) (λ u. u) (replicate (most_resources + 1) absent)

-- the bytes of the row of resource q of a state, with a table of holders
abbrev pub line_row : List LineRow → List ℕ → ℕ → List ℕ
line_row ls holders q = line_bytes (get_or ls q no_line) (get_or holders q 0)

-- and of the row of task i
abbrev pub standing_row : List Standing → ℕ → List ℕ
standing_row ts i = standing_bytes (standing ts i)
