-- What a litmus text means, once its locations are numbered.
use Rattle.std.specs.Prelude.{ℕ, List, map, Option, option_map, option_and_then, slice_get}
use Rattle.std.specs.List.{filter_map, find, range_with_len}
use Rattle.std.specs.Option.{option_map_or}
use Rattle.tso_program.specs.declared.instruction.Instr.{Instr}
use Rattle.tso_program.specs.declared.instruction.Instr.TheVariants as instr
use Rattle.tso_program.specs.declared.listing.Thread.{Thread}
use Rattle.tso_program.specs.declared.listing.Listing.{Listing}
use Rattle.tso_program.specs.declared.atom.Atom.{Atom}
use Rattle.tso_program.specs.declared.atom.Atom.TheVariants as atom
use Rattle.conditions.specs.declared.condition.Condition.{Condition}
use Rattle.conditions.specs.declared.condition.Quantifier.{Quantifier}
use Rattle.tso_program.specs.Tree.{Tree, tree_map}
use Rattle.conditions.specs.Grammar.{Sign}
use Rattle.conditions.specs.Grammar as sign
use Rattle.litmus_syntax.specs.Views.{PlaceView, Location, Register, EntryView, CodeView, CellView, BodyView, SignView}
use Rattle.litmus_syntax.specs.Views as view
use Rattle.litmus_syntax.specs.Places.{same_place}
use Rattle.litmus_reader.specs.declared.observed.Observed.{Observed}
use Rattle.litmus_reader.specs.declared.observed.Observed.TheVariants as observed
use Rattle.litmus_reader.specs.Names.{all_registers, number_in}
use Rattle.litmus_reader.specs.Labels.{thread_labels, position_in}

-- ---- the start

-- what a place holds at first: the value of the entry that names it, 0 if no entry does
abbrev pub first_value : List EntryView → PlaceView → ℕ
first_value entries p = option_map_or (λ e. e.value) (find (λ e. same_place e.place p) entries) 0

-- what the locations hold at first
abbrev pub memory_of : List (List ℕ) → List EntryView → List ℕ
memory_of names entries = map (λ x. first_value entries (Location x)) names

-- what thread t's registers hold at first
abbrev pub registers_of : List EntryView → ℕ → List ℕ
registers_of entries t = map (λ r. first_value entries (Register t r)) all_registers

-- ---- the program

-- an instruction, with its location's number, or the position of the label to which it jumps
abbrev pub instruction_of : (List ℕ → ℕ) → (List ℕ → ℕ) → CodeView → Instr
instruction_of numbered positioned (view.LoadImm r n) = instr.LoadImm r n
instruction_of numbered positioned (view.Copy r s) = instr.Copy r s
instruction_of numbered positioned (view.Load r x) = instr.Load r (numbered x)
instruction_of numbered positioned (view.StoreImm x n) = instr.StoreImm (numbered x) n
instruction_of numbered positioned (view.Store x r) = instr.Store (numbered x) r
instruction_of numbered positioned (view.Xchg x r) = instr.Xchg (numbered x) r
instruction_of numbered positioned view.Fence = instr.Fence
instruction_of numbered positioned (view.CmpImm r n) = instr.CmpImm r n
instruction_of numbered positioned (view.CmpReg r s) = instr.CmpReg r s
instruction_of numbered positioned (view.Je l) = instr.Je (positioned l)
instruction_of numbered positioned (view.Jne l) = instr.Jne (positioned l)
instruction_of numbered positioned (view.Jmp l) = instr.Jmp (positioned l)

-- the instruction of thread t in a row, if there is one
abbrev pub instruction_in : (List ℕ → ℕ) → (List ℕ → ℕ) → ℕ → List CellView → Option Instr
instruction_in numbered positioned t row = option_map (instruction_of numbered positioned) (option_and_then (λ cell. cell.code) (slice_get row t))

-- thread t's code: its instructions from top to bottom
abbrev pub code_in : (List ℕ → ℕ) → (List ℕ → ℕ) → List (List CellView) → ℕ → List Instr
code_in numbered positioned rows t = filter_map (instruction_in numbered positioned t) rows

abbrev pub thread_read : (List ℕ → ℕ) → BodyView → ℕ → Thread
thread_read numbered body t = record { code = code_in numbered (position_in (thread_labels body.rows t)) body.rows t; registers = registers_of body.entries t }

-- the program of a text with these locations, without limits
abbrev pub listing_of : List (List ℕ) → BodyView → Listing
listing_of names body = record {
  threads = map (thread_read (number_in names) body) (range_with_len 0 body.threads);
  memory = memory_of names body.entries;
}

-- ---- what is observed

-- a place, with the location's number
abbrev pub observed_of : (List ℕ → ℕ) → PlaceView → Observed
observed_of numbered (Location x) = observed.Location (numbered x)
observed_of numbered (Register t r) = observed.Register t r

-- ---- the condition

-- a sign of the condition, whose atoms say that a place has a value
abbrev pub sign_of : SignView → Sign (PlaceView × ℕ)
sign_of (view.Atom p n) = sign.Atom (p, n)
sign_of (view.Const b) = sign.Const b
sign_of view.Not = sign.Not
sign_of view.And = sign.And
sign_of view.Or = sign.Or
sign_of view.Open = sign.Open
sign_of view.Close = sign.Close

-- that the place has the value, with the location's number
abbrev pub atom_of : (List ℕ → ℕ) → PlaceView → ℕ → Atom
atom_of numbered (Location x) n = atom.Location (numbered x) n
atom_of numbered (Register t r) n = atom.Register t r n

-- an atom of the condition, with the location's number
abbrev pub numbered_atom : (List ℕ → ℕ) → PlaceView × ℕ → Atom
numbered_atom numbered said = atom_of numbered said.0 said.1

-- the condition: over which outcomes it speaks, and what it says of them
abbrev pub condition_of : (List ℕ → ℕ) → Quantifier → Tree (PlaceView × ℕ) → Condition
condition_of numbered quantifier formula = record { quantifier = quantifier; formula = tree_map (numbered_atom numbered) formula }
