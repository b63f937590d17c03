-- What is shown of an outcome, as JSON.
use Rattle.std.specs.Prelude.{ℕ, List, [], ◌∷◌, ◌++◌, ◌&&◌, codes, length, map, slice_index, slice_index_or, if◌then◌else◌}
use Rattle.std.specs.Fmt.{decimal}
use Rattle.std.specs.List.{flat_map, range_with_len}
use Rattle.tso_program.specs.declared.instruction.Reg.{Reg}
use Rattle.tso_program.specs.declared.outcome.Outcome.{Outcome}
use Rattle.tso_program.specs.declared.shown.Shown.{Shown}
use Rattle.tso_program.specs.Instructions.{number}
use Rattle.tso_program.specs.Shown.{shows_register, shows_location}
use Rattle.litmus_text.specs.Names.{TextNames, all_registers, register_name, is_named}
use Rattle.json_text.specs.Texts.{quoted, array_text, member, object_text}

abbrev pub named_value : List ℕ → ℕ → List ℕ
named_value name value = object_text (member (codes "name") (quoted name) ∷ member (codes "value") (decimal value) ∷ [])

-- `t:REG`
abbrev pub register_name_at : ℕ → Reg → List ℕ
register_name_at t r = decimal t ++ (codes ":" ++ register_name r)

-- a register with its value, where it is shown and the text names it
abbrev pub register_value : TextNames → Shown → ℕ → List ℕ → Reg → List (List ℕ)
register_value names shown t values r =
    if shows_register shown t (number r) && is_named names t r then named_value (register_name_at t r) (slice_index values (number r)) ∷ [] else []

-- thread t's named registers with their values
abbrev pub thread_values : TextNames → Shown → ℕ → List ℕ → List (List ℕ)
thread_values names shown t values = flat_map (register_value names shown t values) all_registers

-- those of the first so many threads
abbrev pub register_values : TextNames → Shown → List (List ℕ) → ℕ → List (List ℕ)
register_values names shown registers threads = flat_map (λ t. thread_values names shown t (slice_index_or registers t [])) (range_with_len 0 threads)

-- a location with its value, where it is shown
abbrev pub location_value : TextNames → Shown → ℕ → ℕ → List (List ℕ)
location_value names shown l value = if shows_location shown l then named_value (slice_index_or names.locations l []) value ∷ [] else []

-- the first so many locations
abbrev pub location_values : TextNames → Shown → List ℕ → ℕ → List (List ℕ)
location_values names shown memory locations = flat_map (λ l. location_value names shown l (slice_index memory l)) (range_with_len 0 locations)

-- each named register by thread and register order, then each location by number, as far as it is shown
abbrev pub outcome_array : TextNames → Shown → Outcome → List ℕ
outcome_array names shown outcome =
    array_text (register_values names shown outcome.registers (length outcome.registers) ++ location_values names shown outcome.memory (length outcome.memory))

abbrev pub outcomes_array : TextNames → Shown → List Outcome → List ℕ
outcomes_array names shown outcomes = array_text (map (outcome_array names shown) outcomes)
