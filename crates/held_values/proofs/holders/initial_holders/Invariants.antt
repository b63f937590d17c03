use Rattle.std.proofs.Common.{◌≡◌, ◌==◌, ℕ, ◌<◌, ◌≤◌, false, length, slice_index}
use Rattle.tso_program.specs.declared.limits.TheConstants.{MAX_LOCATIONS}
use Rattle.held_values.specs.HeldRows.{has}
use Rattle.held_values.proofs.holders.initial_holders.Given as goal

-- the locations so far
abbrev pub invariant-loop-l : goal.invariant-loop-l
invariant-loop-l l = record {
  long : length l.holders ≡ MAX_LOCATIONS;
  so_far : (k : ℕ) → k < l.l → has l.holders k ≡ (slice_index l.memory k == l.value);
  others : (k : ℕ) → l.l ≤ k → has l.holders k ≡ false;
}
