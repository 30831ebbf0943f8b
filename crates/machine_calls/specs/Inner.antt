-- What a reader of calls relies on. None of this is a rule of document 01.
use Rattle.std.specs.Prelude.{ℕ, ◌+◌, ◌≤◌}

-- a call of w bytes that begins at `at` ends in a list of this length: 3 bytes, or 4 with a tag of two
pub record CallIn (w at long : ℕ) : Type 0 where
  pub least : 3 ≤ w
  pub most : w ≤ 4
  pub whole : at + w ≤ long
