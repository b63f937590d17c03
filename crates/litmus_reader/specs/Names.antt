-- The names of a text: its locations by number, and the registers that it names.
use Rattle.std.specs.Prelude.{ℕ, Bool, false, List, [], ◌∷◌, ◌++◌, codes, fold, position, slice_index_or, unwrap_or, if◌then◌else◌}
use Rattle.std.specs.List.{list_any}
use Rattle.std.specs.Str.{bytes_eq}
use Rattle.tso_program.specs.declared.instruction.Reg.{Reg, TheVariants.Eax, TheVariants.Ebx, TheVariants.Ecx, TheVariants.Edx, TheVariants.Esi, TheVariants.Edi}
use Rattle.tso_program.specs.Instructions.{number}

-- a text's locations by number, and for each thread which of its six registers are named
pub record TextNames : Type 0 where
  pub locations : List (List ℕ)
  pub registers : List (List Bool)

-- the six registers, by number
abbrev pub all_registers : List Reg
all_registers = Eax ∷ Ebx ∷ Ecx ∷ Edx ∷ Esi ∷ Edi ∷ []

-- the names with this one, at the end where it is new
abbrev pub with_name : List (List ℕ) → List ℕ → List (List ℕ)
with_name names name = if list_any (bytes_eq name) names then names else names ++ name ∷ []

-- each of the names once, in the order of their first appearance
abbrev pub in_order : List (List ℕ) → List (List ℕ)
in_order names = fold with_name [] names

-- a name's number: its place among the names
abbrev pub number_in : List (List ℕ) → List ℕ → ℕ
number_in names name = unwrap_or (position (bytes_eq name) names) 0

-- a register's name, in capitals
abbrev pub register_name : Reg → List ℕ
register_name Eax = codes "EAX"
register_name Ebx = codes "EBX"
register_name Ecx = codes "ECX"
register_name Edx = codes "EDX"
register_name Esi = codes "ESI"
register_name Edi = codes "EDI"

-- whether the text names register r of thread t
abbrev pub is_named : TextNames → ℕ → Reg → Bool
is_named names t r = slice_index_or (slice_index_or names.registers t []) (number r) false
