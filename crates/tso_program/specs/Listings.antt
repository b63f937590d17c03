-- Programs, their instructions and their gaps (Bouajjani et al., ESOP 2013: fences between the instructions of a thread).
use Rattle.std.specs.Prelude.{ℕ, ◌+◌, ◌-◌, ◌&&◌, nat_lt, nat_le, false, List, [], ◌∷◌, ◌++◌, length, map, take, slice_get, slice_index_or, Option, Some, None, is_some, sum_by, count_by, if◌then◌else◌}
use Rattle.std.specs.Option.{option_map_or}
use Rattle.std.specs.List.{range_with_len}
use Rattle.tso_program.specs.declared.instruction.Instr.{Instr}
use Rattle.tso_program.specs.declared.listing.Thread.{Thread}
use Rattle.tso_program.specs.declared.action.Local.{Local}
use Rattle.tso_program.specs.declared.action.Action.{Action}
use Rattle.tso_program.specs.Instructions.{location_of}
use Rattle.tso_program.specs.Actions.{act}

-- the instructions of thread t, none where there is no such thread
abbrev pub code_of : List Thread → ℕ → List Instr
code_of threads t = option_map_or (λ thread. thread.code) (slice_get threads t) []

-- instruction k of thread t
abbrev pub instr_at : List Thread → ℕ → ℕ → Option Instr
instr_at threads t k = slice_get (code_of threads t) k

-- thread t at its start: the zero flag is clear
abbrev pub start_of : List Thread → ℕ → Local
start_of threads t = record { place = 0; registers = (slice_index_or threads t (record { code = []; registers = [] })).registers; flag = false }

-- what thread t does next
abbrev pub action : List Thread → ℕ → Local → Action
action threads t s = act (instr_at threads t s.place) s

-- the accesses of a thread; an exchange is one
abbrev pub accesses_of : Thread → ℕ
accesses_of thread = count_by (λ i. is_some (location_of i)) thread.code

-- a thread has a gap before each instruction but its first
abbrev pub gaps_of_thread : Thread → ℕ
gaps_of_thread thread = length thread.code - 1

-- the gaps of a program
abbrev pub gap_count : List Thread → ℕ
gap_count threads = sum_by gaps_of_thread threads

-- the number of the gap before instruction k of thread t: gaps are numbered by thread and then by instruction
abbrev pub gap_number : List Thread → ℕ → ℕ → Option ℕ
gap_number threads t k =
    if nat_le 1 k && nat_lt k (length (code_of threads t)) then Some (gap_count (take t threads) + (k - 1)) else None

-- the gaps of the threads from thread t on, each by its thread and the instruction that it lies before
abbrev pub places_from : ℕ → List Thread → List (ℕ × ℕ)
places_from t [] = []
places_from t (thread ∷ threads) = map (λ k. (t, k)) (range_with_len 1 (gaps_of_thread thread)) ++ places_from (t + 1) threads

-- the place of the gap of this number
abbrev pub gap_place : List Thread → ℕ → Option (ℕ × ℕ)
gap_place threads gap = slice_get (places_from 0 threads) gap
