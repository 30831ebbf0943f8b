-- The names of the libraries that proofs use, in one place: a proof names this module and not thirteen.
pub use Prim.Native.Nat.{◌%◌, ◌*◌, ◌+◌, ◌-◌, ◌/◌, ◌<◌, ◌^◌, ◌≤◌, max, min, suc, zero, ℕ}
pub use mathlib.Core.Bool.{Bool, ◌&&◌, ◌||◌, and_assoc, and_comm, and-false, and-true, cond, false, not, or_assoc, or-false, or-true, true, true≢false}
pub use mathlib.Core.Path.{◌∙◌, ◌≡◌, ap, ap₂, fun_ext, refl, subst, sym}
pub use mathlib.Core.Logic.{◌↔◌, ◌≢◌, ◌⊎◌, inl, inr, ⊎_elim}
pub use mathlib.Core.List.{List, [], ◌++◌, ◌∷◌, append_assoc, append-nil, map}
pub use lib.Dec.{T, eqb, leb, lit<, ltb}
pub use lib.ListN.{get_or-append as List·getD-append, get_or-eq_default as List·getD-eq-default, drop, drop_of_length-le, get_or, get_or-replicate, length, length-append, length-drop, length-map, length-replicate, length-set, length-take, replicate, set, take, take-append-drop}
pub use lib.Seq.{append_snoc, drop-append-add, drop_at, drop-cons, drop-drop, drop-nil, drop-set-lt, ext_get_or, get_or-append-add, get_or_at, get_or-drop, get_or-set_other, get_or-set_same, get_or-take, length-take-le, lt-length-set, paste, paste-suc, paste-zero, set-get_or, take-add, take_all, take-append_seam, take_at, take-length, take-set-le}
pub use native.Mathlib.Nat.{add_assoc, add_comm, add-sub_cancel_left, add-suc, add-zero, div-add-mod', div-lt_iff_lt-mul, div-zero, eq_of_mul-eq-mul_right, eq-or-lt_of_le, le_antisymm, le_of_eq, le_of_suc-le-suc, lt_of_lt_of_le, max-le, max-zero, mod-eq_of_lt, mod-lt, mul-add-mod_self_right, mul-le-mul, mul-le-mul_right, mul-suc, not-suc-le-zero, pow-suc, pow-succ', sub-zero, suc-add, suc-mul, zero-add, zero-mul}
pub use native.Mathlib.Numerals.{add-one}
pub use native.Mathlib.Omega.{arith}
pub use borrow.Author.Tests.{eq-eqb, eqb-false, eqb-true, le-leb, le-ltb, leb-true, lt-leb, lt-ltb, ltb-false, ltb-true, ne_eqb, not-false, not-true}
pub use borrow.Author.Rules.{rules}
