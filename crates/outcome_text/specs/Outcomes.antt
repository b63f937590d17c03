-- How an outcome is written.
use Rattle.std.specs.Prelude.{ℕ, List, [], ◌∷◌, ◌++◌, length, codes, ◌&&◌, slice_index, slice_index_or, if◌then◌else◌}
use Rattle.std.specs.List.{join_with_byte, flat_map, range_with_len}
use Rattle.std.specs.Fmt.{decimal}
use Rattle.tso_program.specs.declared.instruction.Reg.{Reg}
use Rattle.tso_program.specs.declared.outcome.Outcome.{Outcome}
use Rattle.tso_program.specs.declared.shown.Shown.{Shown}
use Rattle.tso_program.specs.Shown.{shows_register, shows_location}
use Rattle.tso_program.specs.Instructions.{number}
use Rattle.litmus_reader.specs.Names.{TextNames, all_registers, register_name, is_named}

-- `=n;`
abbrev pub value_text : ℕ → List ℕ
value_text n = codes "=" ++ (decimal n ++ codes ";")

-- `t:REG=n;`
abbrev pub register_item : ℕ → Reg → ℕ → List ℕ
register_item t r n = decimal t ++ (codes ":" ++ (register_name r ++ value_text n))

-- `x=n;`
abbrev pub location_item : List ℕ → ℕ → List ℕ
location_item x n = x ++ value_text n

-- a register with its value, where it is shown and the text names it
abbrev pub named_item : TextNames → Shown → ℕ → List ℕ → Reg → List (List ℕ)
named_item names shown t values r = if shows_register shown t (number r) && is_named names t r then register_item t r (slice_index values (number r)) ∷ [] else []

-- thread t's named registers with their values
abbrev pub thread_items : TextNames → Shown → ℕ → List ℕ → List (List ℕ)
thread_items names shown t values = flat_map (named_item names shown t values) all_registers

-- the items of the first so many threads
abbrev pub register_items : TextNames → Shown → List (List ℕ) → ℕ → List (List ℕ)
register_items names shown registers threads = flat_map (λ t. thread_items names shown t (slice_index_or registers t [])) (range_with_len 0 threads)

-- a location with its value, where it is shown
abbrev pub shown_item : TextNames → Shown → ℕ → ℕ → List (List ℕ)
shown_item names shown l value = if shows_location shown l then location_item (slice_index_or names.locations l []) value ∷ [] else []

-- the items of the first so many locations
abbrev pub location_items : TextNames → Shown → List ℕ → ℕ → List (List ℕ)
location_items names shown memory locations = flat_map (λ l. shown_item names shown l (slice_index memory l)) (range_with_len 0 locations)

-- an outcome as it is written: of what is shown each named register by thread and register order and each location by number, joined by one space
abbrev pub outcome_text : TextNames → Shown → Outcome → List ℕ
outcome_text names shown outcome =
    join_with_byte 32 (register_items names shown outcome.registers (length outcome.registers) ++ location_items names shown outcome.memory (length outcome.memory))
