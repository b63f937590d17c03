-- The values of each location, listed once.
use Rattle.std.specs.Prelude.{◌≡◌, ◌↔◌, ℕ, List, Some, Contains, slice_get, length}
use Rattle.std.specs.List.Sorted.{IsStrictlyIncreasing}
use Rattle.tso_program.specs.declared.listing.Listing.{Listing}
use Rattle.candidate_executions.specs.Values.{IsValueOf}

-- the values of the location, ascending
pub record IsValueList (p : Listing) (location : ℕ) (values : List ℕ) : Type 0 where
  pub ascending : IsStrictlyIncreasing values
  pub exact : (v : ℕ) → Contains values v ↔ IsValueOf p location v

-- a list for each location
pub record AreValueLists (p : Listing) (lists : List (List ℕ)) : Type 0 where
  pub one_each : length lists ≡ length p.memory
  pub each : (location : ℕ) (values : List ℕ) → slice_get lists location ≡ Some values → IsValueList p location values
