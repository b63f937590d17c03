-- What a number whose digits are cut can still become.
use Rattle.std.specs.Prelude.{◌≡◌, ℕ, ◌<◌, ◌≤◌, List, ◌++◌, length}
use Rattle.std.specs.Fmt.{decimal}

-- some number from the least to the greatest is written with the digits of this one and then more
pub record CanBecome (number least greatest : ℕ) : Type 0 where
  pub whole : ℕ
  pub more : List ℕ
  pub spelled : decimal whole ≡ decimal number ++ more
  pub longer : 0 < length more
  pub low : least ≤ whole
  pub high : whole ≤ greatest
