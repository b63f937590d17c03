-- Laws of what litmus texts stand for.
use Rattle.std.specs.Prelude.{ℕ, ◌≤◌, List, length}
use Rattle.tso_program.specs.declared.listing.Listing.{Listing}
use Rattle.litmus_reader.specs.declared.litmus.Litmus.{Litmus}
use Rattle.litmus_reader.specs.Texts.{IsLitmus}
use Rattle.tso_program.specs.declared.limits.TheConstants.{MAX_LOCATIONS}

-- a text that stands for a program names no more locations than a program may have
abbrev pub NamesFewLocations : Type 0
NamesFewLocations = (text : List ℕ) (litmus : Litmus Listing) → IsLitmus text litmus → length litmus.names.locations ≤ MAX_LOCATIONS
