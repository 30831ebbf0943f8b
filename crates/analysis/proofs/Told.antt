-- What a file that is not refused and the tables of its plan tell.
use Rattle.std.proofs.Common.{ℕ, ◌/◌, ◌%◌, ◌<◌, ◌≤◌, ◌≡◌, List, length, get_or, take, replicate, Fits, w8, sym, ap, ◌∙◌, arith}
use Rattle.std.proofs.lemmas.List.{length-take-le, length-replicate, get_or-take, ext_get_or}
use Rattle.std.proofs.lemmas.Nat.{div-add-mod'}
use Rattle.folds.specs.Bytes.{placed_below}
use Rattle.folds.proofs.Arrays.{placed_length, placed_at}
use Rattle.plan_reading.specs.Plan.{Plan, plan_of, Checked}
use Rattle.plan.specs.Acceptance.{refusal}
use Rattle.plan.proofs.Laws.{accepted_checked}
use Rattle.analysis_equations.specs.Blocking.{global_count}
use Rattle.analysis_equations.proofs.Laws.{use_clear, hold_shared, asks_not, asks_some}
use Rattle.analysis_figures.proofs.Cells as cells
use Rattle.analysis_terms.specs.Terms.{count_cell}
use Rattle.sizes.specs.Sizes.{most_resources}
use Rattle.analysis.specs.Answers.{hold_count, hold_times}
use Rattle.analysis_figures.specs.Figures.{Figures}
use Rattle.analysis_equations.specs.HoldTimes.{hold_at}
use Rattle.analysis_requirements.specs.Tables.{Prepared}

pub accepted : (f : List ℕ) → refusal f ≡ 0 → ((i : ℕ) → Fits w8 (get_or f i 0)) → Checked f
accepted f e b = accepted_checked (record { none = e; bytes = λ i l. (b i).fits })

pub count_told : (f t sides : List ℕ) (i : ℕ) → Prepared f t sides → i < 64 → global_count (plan_of f) i ≡ get_or t (count_cell i) 0
count_told f t sides i h l = sym (h.terms.count i l)

-- the front of a list, where it is that of a function
front : (n : ℕ) (f : ℕ → ℕ) (l t : List ℕ) → length l ≡ n → n ≤ length t → ((x : ℕ) → x < n → get_or t x 0 ≡ f x) → take n t ≡ placed_below n f l
front n f l t e m h =
    let long : length (take n t) ≡ n = length-take-le n t m in
    ext_get_or 0 (take n t) (placed_below n f l) (long ∙ sym (placed_length n f l ∙ e))
    (λ x lx. let less : x < n = omega arith in get_or-take n t x 0 less ∙ h x less ∙ sym (placed_at n x f l 0 less (omega arith)))

-- the hold times at the front of the table of figures: x stands in the row of x / most_resources at x % most_resources
holds_front : (p : Plan) (t : List ℕ) → Figures p t
    → take hold_count t ≡ placed_below hold_count (λ x. hold_at p (x / most_resources) (x % most_resources)) (replicate hold_count 0)
holds_front p t c =
    front hold_count _ _ t (length-replicate {A = ℕ} hold_count 0) (omega (arith, c.long))
    (λ x l. ap (λ (y : ℕ). get_or t y 0) (sym (div-add-mod' x most_resources))
    ∙ c.hold (x / most_resources) (x % most_resources) (omega arith) (omega arith))

-- and they are all there
pub front_long : {p : Plan} {t : List ℕ} → Figures p t → hold_count ≡ length (take hold_count t)
front_long {t = t} c = sym (length-take-le hold_count t (omega (arith, c.long)))

pub times_given : (p : Plan) (t : List ℕ) {times : List ℕ} → Figures p t → times ≡ take hold_count t → times ≡ hold_times p
unfolding hold_times
times_given p t c l = rw (l, holds_front p t c)

pub ruleset told = (cells.told, accepted, count_told, use_clear, hold_shared, asks_not, asks_some)
