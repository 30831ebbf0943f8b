-- How the code tells names apart quickly, and what its private functions ask. No rule of document 01: equal names have equal numbers,
-- and that is all that is used of them.
use Rattle.std.specs.Prelude.{ℕ, ◌+◌, ◌-◌, ◌*◌, ◌/◌, ◌^◌, ◌<◌, ◌≤◌, Bool, true, cond, not, List, ◌≡◌, ltb, eqb, length, get_or, replicate}
use Rattle.sizes.specs.Sizes.{most_resources, most_name_bytes}
use Rattle.folds.specs.Below.{all_below, sum_below}
use Rattle.folds.specs.Bytes.{number, placed_below}
use Rattle.plan_rules.specs.Rules.{length_of, start_of, lengths_ok}

-- of up to 3 bytes the first, the middle and the last, each times its factor; of more the first, middle and last four bytes
unfoldable pub digest_of : List ℕ → ℕ → ℕ → ℕ
digest_of names at len =
    cond (ltb len 4)
    (get_or names at 0 + 256 * get_or names (at + len / 2) 0 + 65536 * get_or names (at + (len - 1)) 0)
    (number 4 names at + 3 * number 4 names (at + (len - 4) / 2) + 5 * number 4 names (at + (len - 4)))

-- that of each of r names
unfoldable pub digests_of : ℕ → List ℕ → List ℕ → List ℕ
digests_of r lengths names = placed_below r (λ i. digest_of names (start_of lengths i) (length_of lengths i)) (replicate most_resources 0)

-- number i is none of those before it
unfoldable pub number_new : List ℕ → ℕ → Bool
number_new l i = all_below i (λ j. not (eqb (get_or l i 0) (get_or l j 0)))

-- the first r numbers differ
unfoldable pub numbers_differ : ℕ → List ℕ → Bool
numbers_differ r l = all_below r (number_new l)

-- r is the number that four bytes at `at` make
pub record QuadRead (s : List ℕ) (at r : ℕ) : Type 0 where
  pub read : r ≡ number 4 s at
  pub small : r < 2 ^ 32

-- t is the sum of r name lengths, each of which is a byte
pub record LengthsAdded (r : ℕ) (lengths : List ℕ) (t : ℕ) : Type 0 where
  pub sum : t ≡ sum_below r (length_of lengths)
  pub small : t ≤ most_resources * 255

-- the name of resource i begins at `at`, behind those of the resources before it, and lies in the names' bytes
pub record NameLies (lengths names : List ℕ) (i at : ℕ) : Type 0 where
  pub resource : i < most_resources
  pub start : at ≡ start_of lengths i
  pub inside : at + length_of lengths i ≤ length names

-- the names of resources i and j, which begin at a and b, lie in the names' bytes
pub record TwoNames (lengths names : List ℕ) (i j a b : ℕ) : Type 0 where
  pub one : i < most_resources
  pub other : j < most_resources
  pub one_inside : a + length_of lengths i ≤ length names
  pub other_inside : b + length_of lengths j ≤ length names

-- len bytes at `at` are as many as a name has, and lie in the names' bytes
pub record DigestLies (names : List ℕ) (at len : ℕ) : Type 0 where
  pub some : 1 ≤ len
  pub few : len ≤ most_name_bytes
  pub inside : at + len ≤ length names

-- r lengths in their range, which add up to the names' bytes
pub record NamesFit (r : ℕ) (lengths names : List ℕ) : Type 0 where
  pub few : r ≤ most_resources
  pub ranges : lengths_ok r lengths ≡ true
  pub total : sum_below r (length_of lengths) ≡ length names
