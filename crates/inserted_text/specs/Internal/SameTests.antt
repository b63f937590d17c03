-- What two tests have in common, where they are found to be the same.
use Rattle.std.specs.Prelude.{◌≡◌, ℕ, Bool, List, length, map}
use Rattle.std.specs.List.{range_with_len}
use Rattle.tso_program.specs.declared.listing.Listing.{Listing}
use Rattle.litmus_reader.specs.declared.litmus.Litmus.{Litmus}
use Rattle.litmus_reader.specs.Names.{TextNames, all_registers, is_named}

-- which registers of thread t are named
abbrev pub named_registers : TextNames → ℕ → List Bool
named_registers names t = map (is_named names t) all_registers

-- both name the same registers of so many threads
abbrev pub NameSameRegisters : ℕ → TextNames → TextNames → Type 0
NameSameRegisters threads one other = map (named_registers one) (range_with_len 0 threads) ≡ map (named_registers other) (range_with_len 0 threads)

-- the parts of both are the same
pub record HaveSameParts (one other : Litmus Listing) : Type 0 where
  pub name : one.name ≡ other.name
  pub program : one.program ≡ other.program
  pub condition : one.condition ≡ other.condition
  pub observed : one.observed ≡ other.observed
  pub labels : one.labels ≡ other.labels
  pub locations : one.names.locations ≡ other.names.locations
  pub registers : NameSameRegisters (length one.program.threads) one.names other.names
