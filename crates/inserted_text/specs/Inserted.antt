-- A text that is made of another, and what it stands for.
use Rattle.std.specs.Prelude.{ℕ, List}
use Rattle.tso_program.specs.declared.listing.Listing.{Listing}
use Rattle.litmus_reader.specs.declared.litmus.Litmus.{Litmus}
use Rattle.litmus_reader.specs.Texts.{IsFencedLitmus}

-- The text stands for each fenced program that the printed one stands for: with the same name, names, condition and places
-- observed, and each label at the same place.
abbrev pub StandsAsPrinted : List ℕ → List ℕ → Type 0
StandsAsPrinted printed text = (litmus : Litmus Listing) → IsFencedLitmus printed litmus → IsFencedLitmus text litmus
