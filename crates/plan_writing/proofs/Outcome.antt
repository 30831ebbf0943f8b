-- What writing, reading back and copying come to, by the number of the refusal.
use Rattle.plan_writing.proofs.Ground.{ℕ, ◌-◌, ◌<◌, ◌≤◌, ◌≡◌, sym, ap, ◌∙◌, List, ◌++◌, leb, length, get_or, take, drop}
use Rattle.plan_writing.proofs.Ground.{eq-eqb, le-leb, code_zero, Counts, Rows, counts_of, rows_of, names_of, values_code}
use Rattle.plan_writing.proofs.Ground.{refusal, file_length, file_of, trimmed, names_at, none_failed, whole_facts, Reading}
use Rattle.folds.proofs.Ground.{take_at, leb-true, ne_eqb, lt-leb}
use Rattle.refusals.specs.Numbers.{no_room}
use Rattle.folds.proofs.Parts.{part_rest}
use Rattle.folds.proofs.Tests.{first_zero, then_zero}
use Rattle.plan.specs.Reading.{reading}
use Rattle.plan_writing.specs.Writing.{write_code, written}
use Rattle.plan_writing.specs.RoundTrip.{read_back, copy_refusal, copied}
use Rattle.plan_writing.proofs.RoundTrip.{file_holds, written_then_read, read_then_written}

-- what it says of values that they are written
pub record Clear (c : Counts) (rows : Rows) (names : List ℕ) (room : ℕ) : Type 0 where
  pub values : values_code c rows names ≡ 0
  pub fits : file_length c names ≤ room

module _ (c : Counts) (rows : Rows) (names : List ℕ) where
  -- what no refusal says
  pub code_clear : (room : ℕ) → write_code c rows names room ≡ 0 → Clear c rows names room
  unfolding write_code
  code_clear room e =
      record {
        values = first_zero (values_code c rows names) _ e;
        fits = leb-true _ _ (code_zero (leb (file_length c names) room) 0 9 (then_zero (values_code c rows names) _ e));
      }

  -- what the buffer then is
  pub wrote : (l : List ℕ) → write_code c rows names (length l) ≡ 0 → written c rows names l ≡ file_of c rows names ++ drop (file_length c names) l
  unfolding written
  wrote l e = rw (eq-eqb _ _ e)

  -- reading the file gives the same plan
  read_same : values_code c rows names ≡ 0 → reading (file_of c rows names) ≡ read_back c rows
  read_same e =
      let s = written_then_read c rows names e in λ i. record { counts = s.counts i; rows = s.rows_read i }

  -- the front of the buffer is the file: it is accepted, and is read back
  pub back_front : {n : ℕ} {m : List ℕ} (l : List ℕ) → write_code c rows names (length l) ≡ 0 → n ≡ file_length c names → m ≡ written c rows names l → take n m ≡ file_of c rows names
  back_front {n} {m} l none size e =
      let behind : List ℕ = drop (file_length c names) l in
      let whole = take_at (file_of c rows names) behind (file_length c names) (file_holds c rows names).size in rw (size, e, wrote l none) whole

  pub back_same : {f : List ℕ} (room : ℕ) → write_code c rows names room ≡ 0 → f ≡ file_of c rows names → (refusal f ≡ 0) × (reading f ≡ read_back c rows)
  back_same room none e =
      let clear = (code_clear room none).values in
      (ap refusal e ∙ (written_then_read c rows names clear).accepted, ap reading e ∙ read_same clear)

-- copying a file that is read
module _ (f : List ℕ) where
  copy_length : ((i : ℕ) → get_or f i 0 < 256) → refusal f ≡ 0 → file_length (counts_of f) (names_of f) ≡ length f
  copy_length b e =
      sym (file_holds (counts_of f) (rows_of f) (names_of f)).size ∙ ap length (read_then_written f b e).file

  copy_code : (room : ℕ) → ((i : ℕ) → get_or f i 0 < 256) → refusal f ≡ 0 → write_code (counts_of f) (rows_of f) (names_of f) room ≡ copy_refusal f room
  unfolding write_code copy_refusal
  copy_code room b e = rw (eq-eqb _ _ (read_then_written f b e).accepted, eq-eqb _ _ e, copy_length b e)

  -- the names of the plan that was read begin where the file's do
  pub names_start : (p : Reading) (at : ℕ) → p ≡ reading f → at ≡ names_at p.counts → at ≡ names_at (counts_of f)
  names_start p at e n = n ∙ ap (λ (x : Reading). names_at x.counts) e

  pub names_inside : refusal f ≡ 0 → names_at (counts_of f) ≤ length f
  names_inside e = (whole_facts f (none_failed f e)).header.ends

  -- what writing that plan, with the rest of the file for its names, comes to
  pub record Copied (l : List ℕ) (k len : ℕ) (m : List ℕ) : Type 0 where
    pub code : k ≡ copy_refusal f (length l)
    pub size : len ≡ length f
    pub buffer : m ≡ copied f l

  pub copy_so : ((i : ℕ) → get_or f i 0 < 256) → refusal f ≡ 0 → (p : Reading) (at : ℕ) (l : List ℕ) → p ≡ reading f → at ≡ names_at p.counts
      → let rest : List ℕ = take (length f - at) (drop at f) in Copied l (write_code p.counts p.rows rest (length l)) (file_length p.counts rest) (written p.counts p.rows rest l)
  unfolding written copied
  copy_so b e p at l read start =
      let counted = ap (λ (x : Reading). x.counts) read in
      let rowed = ap (λ (x : Reading). x.rows) read in
      let named = part_rest at f ∙ ap (λ (n : ℕ). drop n f) (names_start p at read start) in
      record {
        code = rw (counted, rowed, named, copy_code (length l) b e);
        size = rw (counted, named, copy_length b e);
        buffer = rw (counted, rowed, named, copy_code (length l) b e, copy_length b e, (read_then_written f b e).file);
      }
