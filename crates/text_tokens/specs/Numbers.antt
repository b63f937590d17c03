-- Decimal numbers.
use Rattle.std.specs.Prelude.{◌==◌, ◌||◌, ◌&&◌, ℕ, Bool, List, length, nat_lt, nat_le, not, slice_index, Option, Some, None, if◌then◌else◌}
use Rattle.std.specs.List.{list_all}
use Rattle.std.specs.Char.{is_ascii_digit}
use Rattle.std.specs.Str.Parse.{digits_value}

-- digits, at least one, without leading zeros
abbrev pub is_plain : List ℕ → Bool
is_plain ds = list_all is_ascii_digit ds && nat_lt 0 (length ds) && (length ds == 1 || not (slice_index ds 0 == 48))

-- the value of digits, if it is at most the limit
abbrev pub value_at : ℕ → List ℕ → Option ℕ
value_at limit ds = if nat_le (digits_value 10 ds) limit then Some (digits_value 10 ds) else None

-- the number up to the limit that is written so, without leading zeros
unfoldable pub plain_number_at : ℕ → List ℕ → Option ℕ
plain_number_at limit bytes = if is_plain bytes then value_at limit bytes else None
