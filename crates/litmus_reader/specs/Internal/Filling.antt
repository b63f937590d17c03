-- How the reader's tables are filled, one entry after another.
use Rattle.std.specs.Prelude.{◌≡◌, ℕ, ◌==◌, ◌&&◌, Bool, true, false, List, [], ◌∷◌, ◌++◌, length, map, fold, min, replicate, is_some, slice_set, slice_index_or, if◌then◌else◌}
use Rattle.std.specs.List.{range_with_len}
use Rattle.std.specs.Global.{Vec}
use Rattle.tso_program.specs.declared.instruction.Reg.{Reg}
use Rattle.tso_program.specs.declared.listing.Thread.{Thread}
use Rattle.tso_program.specs.declared.listing.Listing.{Listing}
use Rattle.tso_program.specs.Instructions.{number}
use Rattle.tso_program.specs.declared.atom.Atom.{Atom}
use Rattle.tso_program.specs.declared.atom.Atom.TheVariants as atom
use Rattle.litmus_syntax.specs.Views.{PlaceView, Location, Register, EntryView, CellView, BodyView}
use Rattle.litmus_reader.specs.Names.{TextNames, all_registers, with_name, number_in}
use Rattle.litmus_reader.specs.declared.label.CodeLabel.{CodeLabel}
use Rattle.litmus_reader.specs.Labels.{thread_labels, label_in, position_in}
use Rattle.litmus_reader.specs.Meaning.{atom_of, code_in}

-- the bytes of each
abbrev pub texts : List (Vec ℕ) → List (List ℕ)
texts keys = map (λ key. key.items) keys

-- a name's number as a byte: 255 from the 256th name on
abbrev pub byte_in : List (List ℕ) → List ℕ → ℕ
byte_in names name = min 255 (number_in names name)

-- a label's position as a byte: 255 past it
abbrev pub byte_at : List CodeLabel → List ℕ → ℕ
byte_at labels name = min 255 (position_in labels name)

-- the labels of a table of positions by name
abbrev pub labels_in : List (Vec ℕ × ℕ) → List CodeLabel
labels_in entries = map (λ e. record { name = e.0.items; position = e.1 }) entries

-- the labels with this one, at the end where its name is new
abbrev pub with_label : List CodeLabel → CodeLabel → List CodeLabel
with_label labels label = if is_some (label_in labels label.name) then labels else labels ++ label ∷ []

-- by each name these labels give what those give
abbrev pub FindsAs : List CodeLabel → List CodeLabel → Type 0
FindsAs found labels = (name : List ℕ) → label_in found name ≡ label_in labels name

-- by each name each thread's labels give what that thread's others give
abbrev pub FindAllAs : List (List CodeLabel) → List (List CodeLabel) → Type 0
FindAllAs found labels = (length found ≡ length labels) × ((t : ℕ) → FindsAs (slice_index_or found t []) (slice_index_or labels t []))

-- a table with one value changed
abbrev pub with_put : {X : Type 0} → List (List X) → ℕ → ℕ → X → List (List X)
with_put table t r x = slice_set table t (slice_set (slice_index_or table t []) r x)

-- the names where nothing is named
abbrev pub no_names : ℕ → TextNames
no_names threads = record { locations = []; registers = replicate threads (replicate 6 false) }

-- the names with those of one more place
abbrev pub noted : TextNames → PlaceView → TextNames
noted names (Location x) = record names { locations = with_name names.locations x }
noted names (Register t r) = record names { registers = with_put names.registers t (number r) true }

-- memory after an initial value
abbrev pub stored : List ℕ → Atom → List ℕ
stored memory (atom.Location l n) = slice_set memory l n
stored memory (atom.Register t r n) = memory

-- the registers after an initial value
abbrev pub with_initial : List (List ℕ) → Atom → List (List ℕ)
with_initial registers (atom.Location l n) = registers
with_initial registers (atom.Register t r n) = with_put registers t (number r) n

-- ---- what the tables hold in the end

-- the value that an atom speaks of
abbrev pub value_of : Atom → ℕ
value_of (atom.Location l n) = n
value_of (atom.Register t r n) = n

-- whether an atom speaks of location l
abbrev pub is_of_location : ℕ → Atom → Bool
is_of_location l (atom.Location k n) = k == l
is_of_location l (atom.Register t r n) = false

-- whether an atom speaks of register r of thread t
abbrev pub is_of_register : ℕ → Reg → Atom → Bool
is_of_register t r (atom.Location l n) = false
is_of_register t r (atom.Register u s n) = u == t && number s == number r

-- what the initial values say
abbrev pub entry_atoms : (List ℕ → ℕ) → List EntryView → List Atom
entry_atoms numbered entries = map (λ e. atom_of numbered e.place e.value) entries

-- the last value that is said, or 0
abbrev pub last_said : (Atom → Bool) → List Atom → ℕ
last_said speaks atoms = fold (λ v a. if speaks a then value_of a else v) 0 atoms

-- memory of so many locations after all initial values
abbrev pub memory_from : ℕ → List Atom → List ℕ
memory_from locations atoms = map (λ l. last_said (is_of_location l) atoms) (range_with_len 0 locations)

-- thread t's registers after all initial values
abbrev pub registers_from : List Atom → ℕ → List ℕ
registers_from atoms t = map (λ r. last_said (is_of_register t r) atoms) all_registers

-- ---- the program

-- thread t, with its registers and labels from tables
abbrev pub thread_in : (List ℕ → ℕ) → List (List CellView) → List (List ℕ) → List (List CodeLabel) → ℕ → Thread
thread_in numbered rows registers labels t = record { code = code_in numbered (byte_at (slice_index_or labels t [])) rows t; registers = slice_index_or registers t (replicate 6 0) }

abbrev pub listed : List Thread → List ℕ → Listing
listed threads memory = record { threads = threads; memory = memory }

-- thread t, with its registers after all initial values, and positions as given
abbrev pub thread_by : (List ℕ → ℕ) → (List CodeLabel → List ℕ → ℕ) → BodyView → ℕ → Thread
thread_by numbered positioned body t = record { code = code_in numbered (positioned (thread_labels body.rows t)) body.rows t; registers = registers_from (entry_atoms numbered body.entries) t }

-- the program of so many locations
abbrev pub listing_by : (List ℕ → ℕ) → (List CodeLabel → List ℕ → ℕ) → ℕ → BodyView → Listing
listing_by numbered positioned locations body =
    listed (map (thread_by numbered positioned body) (range_with_len 0 body.threads)) (memory_from locations (entry_atoms numbered body.entries))
