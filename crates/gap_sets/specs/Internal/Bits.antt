-- Which gaps a word stands for.
use Rattle.std.specs.Prelude.{ℕ, zero, suc, ◌+◌, ◌^◌, ◌==◌, Bool, List, if◌then◌else◌}
use Rattle.std.specs.List.{filter, range_with_len}
use Rattle.std.specs.Int.{bit_at}
use Rattle.std.specs.Ordering.{nat_cmp}
use Rattle.std.specs.FinSet as set
use Rattle.gap_sets.specs.declared.gap_set.TheConstants.{MAX_GAPS}

-- whether bit g of the word is 1
abbrev pub has_bit : ℕ → ℕ → Bool
has_bit bits g = bit_at bits g == 1

-- the numbers of the bits that are 1, ascending
unfoldable pub list_of : ℕ → List ℕ
list_of bits = filter (has_bit bits) (range_with_len 0 MAX_GAPS)

-- the set of them
unfoldable pub gaps_of_bits : ℕ → set.FinSet nat_cmp
gaps_of_bits bits = set.from_list (list_of bits)

-- the word whose bits below n are 1 at the members of the set
unfoldable pub bits_below : (ℕ → Bool) → ℕ → ℕ
bits_below p zero = 0
bits_below p (suc n) = bits_below p n + (if p n then 2 ^ n else 0)

-- the word of a set
unfoldable pub bits_of : set.FinSet nat_cmp → ℕ
bits_of s = bits_below (set.contains s) MAX_GAPS
