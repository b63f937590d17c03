-- The values that each location may hold, listed.
use Rattle.std.specs.Prelude.{◌≡◌, ◌↔◌, ℕ, Bool, List, [], ◌∷◌, Some, Contains, length, slice_get, if◌then◌else◌}
use Rattle.std.specs.List.{AllZip}
use Rattle.std.specs.List.Sorted.{IsStrictlyIncreasing}
use Rattle.tso_program.specs.declared.listing.Listing.{Listing}
use Rattle.tso_machine.specs.HeldValues.{Cell, Location, MayHold}
use Rattle.held_values.specs.HeldRows.{has, AreHolders}

-- the values that the location may hold, ascending
pub record IsHeldList (p : Listing) (l : ℕ) (values : List ℕ) : Type 0 where
  pub ascending : IsStrictlyIncreasing values
  pub exact : (v : ℕ) → Contains values v ↔ MayHold p (Location l) v

-- a list for each location
pub record AreHeldLists (p : Listing) (lists : List (List ℕ)) : Type 0 where
  pub one_each : length lists ≡ length p.memory
  pub each : (l : ℕ) (values : List ℕ) → slice_get lists l ≡ Some values → IsHeldList p l values

-- each value that may be held somewhere is among these
abbrev pub HasAll : Listing → List ℕ → Type 0
HasAll p values = (c : Cell) (v : ℕ) → MayHold p c v → Contains values v

-- the holders of each of the values
abbrev pub AreHolderRows : Listing → List ℕ → List (List Bool) → Type 0
AreHolderRows p values table = AllZip (AreHolders p) values table

-- those of the values whose row has the location
abbrev pub held_of : List ℕ → List (List Bool) → ℕ → List ℕ
held_of (v ∷ values) (row ∷ table) l = if has row l then v ∷ held_of values table l else held_of values table l
held_of values table l = []
