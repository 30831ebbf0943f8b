-- What a private function of this crate gives. None of this is a rule.
use Rattle.std.specs.Prelude.{ℕ, ◌-◌, ◌≤◌, ◌≡◌}
use Rattle.print_text.specs.Text.{places_to, most_digits}

-- how many digits a number of 64 bits has in decimal
pub record Digits (n count : ℕ) : Type 0 where
  pub same : count ≡ places_to (most_digits - 1) n
  pub low : 1 ≤ count
  pub high : count ≤ most_digits
