-- How many choices a sketch has, and how many choices, values and sources there are at most.
use Rattle.std.specs.Prelude.{◌≡◌, ℕ, ◌+◌, ◌*◌, ◌/◌, ◌<◌, List, length, sum_by}
use Rattle.tso_program.specs.declared.listing.Thread.{Thread}
use Rattle.tso_program.specs.Listings.{start_of}
use Rattle.program_sketches.specs.ProgramSketches.{ProgramSketch}
use Rattle.gap_sets.specs.declared.gap_set.TheConstants.{MAX_GAPS}
use Rattle.tso_program.specs.declared.limits.TheConstants.{MAX_THREADS, MAX_LOCATIONS, MAX_ACCESSES}
use Rattle.tso_program.specs.declared.instruction.TheConstants.{REGISTERS}
use Rattle.tso_program.specs.declared.shown.TheConstants.{REGISTER_PLACES}

-- the values, sources and pairs of writes that are chosen
abbrev pub choice_count : ProgramSketch → ℕ
choice_count s = sum_by length s.chosen.given + length s.chosen.sources + length s.chosen.pairs

-- no more can be chosen: each access has one value and one source at most, and of each two accesses at most one comes first
abbrev pub most_choices : ℕ
most_choices = 2 * MAX_ACCESSES + MAX_ACCESSES * MAX_ACCESSES / 2

-- each thread has all registers
abbrev pub HaveAllRegisters : List Thread → Type 0
HaveAllRegisters threads = (t : ℕ) → t < length threads → length (start_of threads t).registers ≡ REGISTERS

-- no location has more values: 0, the initial values of the locations and of the registers, and the numbers of the instructions, of which each thread has one more than gaps
abbrev pub most_values : ℕ
most_values = 1 + MAX_LOCATIONS + REGISTER_PLACES + MAX_GAPS + MAX_THREADS

-- no read has more sources: the initial write of its location, and the accesses
abbrev pub most_sources : ℕ
most_sources = 1 + MAX_ACCESSES
