-- Lists of the values that a rule takes.
use Rattle.std.specs.Prelude.{ℕ, List}
use Rattle.tso_program.specs.declared.listing.Listing.{Listing}
use Rattle.cert_forest.specs.Rule.{Rule, TheVariants.Whole, TheVariants.Early}
use Rattle.held_values.specs.HeldLists.{AreHeldLists}

-- the lists that are needed beside those of a sketch: early, the values that each location may hold
abbrev pub AreListsBy : Rule → Listing → List (List ℕ) → Type 0
AreListsBy Whole p lists = Unit {0}
AreListsBy Early p lists = AreHeldLists p lists
