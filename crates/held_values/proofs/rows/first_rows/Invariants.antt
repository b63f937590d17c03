use Rattle.std.proofs.Common.{◌≡◌, ℕ, ◌+◌, ◌<◌, ◌≤◌, [], length, slice_index_or}
use Rattle.held_values.specs.HeldRows.{no_row}
use Rattle.held_values.proofs.rows.first_rows.Given as goal

-- the rows so far
abbrev pub invariant-loop-k : goal.invariant-loop-k
invariant-loop-k l = record {
  long : length l.rows.items ≡ l._k + 1;
  first : slice_index_or l.rows.items 0 [] ≡ l.fn.first;
  others : (k : ℕ) → 0 < k → k ≤ l._k → slice_index_or l.rows.items k [] ≡ no_row;
}
