-- What holds of every place of a register or a location, and of what is shown of every outcome.
use Rattle.std.specs.Prelude.{◌≡◌, ◌≢◌, ◌↔◌, ◌⊎◌, ℕ, ◌<◌, true, false, [], length, slice_index, slice_index_or}
use Rattle.tso_program.specs.declared.outcome.Outcome.{Outcome}
use Rattle.tso_program.specs.declared.shown.Shown.{Shown, TheVariants.All, TheVariants.Truth}
use Rattle.tso_program.specs.declared.atom.Atom.{Atom}
use Rattle.tso_program.specs.declared.atom.Atom.TheVariants as atom
use Rattle.tso_program.specs.Tree.{Tree}
use Rattle.tso_program.specs.Tree as tree
use Rattle.tso_program.specs.Truth.{truth}
use Rattle.tso_program.specs.Instructions.{number}
use Rattle.tso_program.specs.Names.{register_place, location_place}
use Rattle.tso_program.specs.Shown.{shows_register, shows_location, show, ShowsValues}
use Rattle.tso_program.specs.declared.instruction.TheConstants.{REGISTERS}
use Rattle.tso_program.specs.declared.limits.TheConstants.{MAX_THREADS, MAX_LOCATIONS}
use Rattle.tso_program.specs.declared.shown.TheConstants.{PLACES}

-- no two registers have one place
abbrev pub RegisterPlacesAreDistinct : Type 0
RegisterPlacesAreDistinct = (t r u s : ℕ) → r < REGISTERS → s < REGISTERS → register_place t r ≡ register_place u s → (t ≡ u) × (r ≡ s)

-- no two locations have one place
abbrev pub LocationPlacesAreDistinct : Type 0
LocationPlacesAreDistinct = (l m : ℕ) → location_place l ≡ location_place m → l ≡ m

-- no register of the first 8 threads has a location's place
abbrev pub RegistersLieApartFromLocations : Type 0
RegistersLieApartFromLocations = (t r l : ℕ) → t < MAX_THREADS → r < REGISTERS → register_place t r ≢ location_place l

-- a register of the first 8 threads whose place this is
pub record IsRegisterPlace (place : ℕ) : Type 0 where
  pub thread : ℕ
  pub register : ℕ
  pub few_threads : thread < MAX_THREADS
  pub few_registers : register < REGISTERS
  pub value : place ≡ register_place thread register

-- a location of the first 8 whose place this is
pub record IsLocationPlace (place : ℕ) : Type 0 where
  pub location : ℕ
  pub few_locations : location < MAX_LOCATIONS
  pub value : place ≡ location_place location

-- each place below `PLACES` is a register's or a location's
abbrev pub EachPlaceIsNamed : Type 0
EachPlaceIsNamed = (place : ℕ) → place < PLACES → IsRegisterPlace place ⊎ IsLocationPlace place

-- register r of thread t in an outcome, and a location's value; 0 where there is no such value
abbrev pub register_in : Outcome → ℕ → ℕ → ℕ
register_in o t r = slice_index (slice_index_or o.registers t []) r

abbrev pub location_in : Outcome → ℕ → ℕ
location_in o l = slice_index o.memory l

-- two outcomes have as many threads, as many registers of each thread, and as many locations
pub record HaveOneShape (o other : Outcome) : Type 0 where
  pub threads : length o.registers ≡ length other.registers
  pub registers : (t : ℕ) → length (slice_index_or o.registers t []) ≡ length (slice_index_or other.registers t [])
  pub locations : length o.memory ≡ length other.memory

-- what is shown of an outcome has as many threads, registers and locations
abbrev pub WhatIsShownIsAlike : Type 0
WhatIsShownIsAlike = (shown : Shown) (o : Outcome) → ShowsValues shown → HaveOneShape (show shown o) o

-- a register and a location that are shown keep their values
abbrev pub ShownRegistersAreKept : Type 0
ShownRegistersAreKept = (shown : Shown) (o : Outcome) (t r : ℕ) → ShowsValues shown → shows_register shown t r ≡ true → register_in (show shown o) t r ≡ register_in o t r

abbrev pub ShownLocationsAreKept : Type 0
ShownLocationsAreKept = (shown : Shown) (o : Outcome) (l : ℕ) → ShowsValues shown → shows_location shown l ≡ true → location_in (show shown o) l ≡ location_in o l

-- each other register and each other location is 0
abbrev pub OtherRegistersAreZero : Type 0
OtherRegistersAreZero = (shown : Shown) (o : Outcome) (t r : ℕ) → ShowsValues shown → shows_register shown t r ≡ false → register_in (show shown o) t r ≡ 0

abbrev pub OtherLocationsAreZero : Type 0
OtherLocationsAreZero = (shown : Shown) (o : Outcome) (l : ℕ) → ShowsValues shown → shows_location shown l ≡ false → location_in (show shown o) l ≡ 0

-- each register and each location that the one shows, the other shows
pub record ShowsPartOf (small large : Shown) : Type 0 where
  pub of_values : ShowsValues small
  pub in_values : ShowsValues large
  pub registers : (t r : ℕ) → r < REGISTERS → shows_register small t r ≡ true → shows_register large t r ≡ true
  pub locations : (l : ℕ) → shows_location small l ≡ true → shows_location large l ≡ true

-- where everything is shown, each other choice of values is a part of it
abbrev pub EachIsPartOfAll : Type 0
EachIsPartOfAll = (shown : Shown) → ShowsValues shown → ShowsPartOf shown All

-- what the one shows of an outcome can be read off what the other shows of it
abbrev pub IsReadOff : Shown → Shown → Type 0
IsReadOff small large = (o : Outcome) → show small (show large o) ≡ show small o

-- what a part shows is read off what the whole shows
abbrev pub APartIsShownOfTheWhole : Type 0
APartIsShownOfTheWhole = (small large : Shown) → ShowsPartOf small large → IsReadOff small large

-- whatever is shown is read off the outcome itself
abbrev pub EachIsReadOffAll : Type 0
EachIsReadOffAll = (shown : Shown) → IsReadOff shown All

-- what an atom speaks of is shown
abbrev pub ShowsAtom : Shown → Atom → Type 0
ShowsAtom shown (atom.Register thread register value) = shows_register shown thread (number register) ≡ true
ShowsAtom shown (atom.Location location value) = shows_location shown location ≡ true

-- what each atom of a formula speaks of
abbrev pub ShowsAtoms : Shown → Tree Atom → Type 0
ShowsAtoms shown (tree.Atom a) = ShowsAtom shown a
ShowsAtoms shown (tree.Const b) = Unit {0}
ShowsAtoms shown (tree.Not f) = ShowsAtoms shown f
ShowsAtoms shown (tree.And f g) = ShowsAtoms shown f × ShowsAtoms shown g
ShowsAtoms shown (tree.Or f g) = ShowsAtoms shown f × ShowsAtoms shown g

-- a formula's truth is read off what shows all that the formula speaks of
abbrev pub ATruthIsReadOffItsAtoms : Type 0
ATruthIsReadOffItsAtoms = (f : Tree Atom) (shown : Shown) → ShowsValues shown → ShowsAtoms shown f → IsReadOff (Truth f) shown

-- a formula's truth is shown alike of two outcomes exactly where it is the same
abbrev pub TruthsAreTold : Type 0
TruthsAreTold = (f : Tree Atom) (o other : Outcome) → (show (Truth f) o ≡ show (Truth f) other) ↔ (truth o f ≡ truth other f)

-- values that are shown show all of themselves
abbrev pub ShowingTwiceIsShowingOnce : Type 0
ShowingTwiceIsShowingOnce = (shown : Shown) → ShowsValues shown → IsReadOff shown shown

-- where everything is shown, the outcome itself is
abbrev pub EverythingShownIsTheOutcome : Type 0
EverythingShownIsTheOutcome = (o : Outcome) → show All o ≡ o
