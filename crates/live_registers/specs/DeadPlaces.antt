-- Which instructions are dead loads, by tables of live registers.
use Rattle.std.specs.Prelude.{not, ℕ, ◌+◌, Bool, false, List, [], Option, Some, slice_get, slice_index_or}
use Rattle.tso_program.specs.declared.instruction.Instr.{Instr}
use Rattle.tso_program.specs.declared.instruction.Instr.TheVariants.{Load}
use Rattle.tso_program.specs.declared.listing.Listing.{Listing}
use Rattle.tso_program.specs.Instructions.{number}
use Rattle.tso_program.specs.Listings.{code_of}
use Rattle.dataflow_laws.specs.DeadLoads.{Places}
use Rattle.live_registers.specs.LiveRows.{in_row}

-- the instruction is a load whose register is not in the row after it
abbrev pub is_dead : Option Instr → List Bool → Bool
is_dead (Some (Load r l)) after = not (in_row after (number r))
is_dead _ after = false

-- whether instruction k of a thread is a dead load, by the thread's rows
abbrev pub dead_at : List Instr → List (List Bool) → ℕ → Bool
dead_at code rows k = is_dead (slice_get code k) (slice_index_or rows (k + 1) [])

-- the places of the program's dead loads, by its tables
abbrev pub dead_by : Listing → List (List (List Bool)) → Places
dead_by p tables t = dead_at (code_of p.threads t) (slice_index_or tables t [])
