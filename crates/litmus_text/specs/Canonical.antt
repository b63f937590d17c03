-- The canonical text of what a litmus text stands for.
use Rattle.std.specs.Prelude.{ℕ, Bool, List, [], ◌∷◌, ◌++◌, ◌+◌, ◌==◌, map, max, nat_lt, length, Option, Some, None, option_map, slice_index, slice_index_or, if◌then◌else◌}
use Rattle.std.specs.List.{flat_map, filter_map, range_with_len}
use Rattle.gap_sets.specs.Gaps.{SetOfGaps}
use Rattle.tso_program.specs.declared.instruction.Reg.{Reg}
use Rattle.tso_program.specs.declared.instruction.Instr.{Instr}
use Rattle.tso_program.specs.declared.instruction.Instr.TheVariants as instr
use Rattle.tso_program.specs.declared.listing.Thread.{Thread}
use Rattle.tso_program.specs.declared.listing.Listing.{Listing}
use Rattle.tso_program.specs.Instructions.{number}
use Rattle.tso_program.specs.Listings.{instr_at}
use Rattle.tso_program.specs.Fences.{Gaps, gaps_in, place_of, fence}
use Rattle.tso_program.specs.declared.atom.Atom.{Atom}
use Rattle.tso_program.specs.declared.atom.Atom.TheVariants as atom
use Rattle.conditions.specs.declared.condition.Condition.{Condition}
use Rattle.tso_program.specs.Tree.{Tree}
use Rattle.conditions.specs.Grammar.{Sign}
use Rattle.conditions.specs.Grammar as sign
use Rattle.conditions.specs.Canonical.{enclosed_signs_of}
use Rattle.litmus_syntax.specs.Views.{PlaceView, Location, Register, EntryView, CodeView, CellView, BodyView, SignView, EndingView}
use Rattle.litmus_syntax.specs.Views as view
use Rattle.litmus_reader.specs.declared.label.CodeLabel.{CodeLabel}
use Rattle.litmus_reader.specs.declared.observed.Observed.{Observed}
use Rattle.litmus_reader.specs.declared.observed.Observed.TheVariants as observed
use Rattle.litmus_reader.specs.declared.litmus.Litmus.{Litmus}
use Rattle.litmus_reader.specs.Names.{TextNames, all_registers, is_named}
use Rattle.litmus_text.specs.Spelling.{text_with}

-- the name of a location; none where the text has no such location
abbrev pub location_name_at : List (List ℕ) → ℕ → List ℕ
location_name_at names l = slice_index_or names l []

-- ---- initial values

-- a location with its initial value
abbrev pub location_entry : List (List ℕ) → List ℕ → ℕ → EntryView
location_entry names memory l = record { place = Location (location_name_at names l); value = slice_index memory l }

-- each location, in order
abbrev pub location_entries : List (List ℕ) → List ℕ → List EntryView
location_entries names memory = map (location_entry names memory) (range_with_len 0 (length memory))

-- a register of thread t with its initial value, where it is named
abbrev pub named_entry : TextNames → ℕ → List ℕ → Reg → List EntryView
named_entry names t values r = if is_named names t r then record { place = Register t r; value = slice_index values (number r) } ∷ [] else []

-- the named registers of thread t, in order
abbrev pub thread_entries : TextNames → ℕ → List ℕ → List EntryView
thread_entries names t values = flat_map (named_entry names t values) all_registers

-- the named registers of the threads from thread t on
abbrev pub register_entries : TextNames → ℕ → List Thread → List EntryView
register_entries names t [] = []
register_entries names t (thread ∷ threads) = thread_entries names t thread.registers ++ register_entries names (t + 1) threads

abbrev pub entries_of : TextNames → Listing → List EntryView
entries_of names p = location_entries names.locations p.memory ++ register_entries names 0 p.threads

-- ---- labels

-- the label's name, if it stands at position k
abbrev pub named_at : ℕ → CodeLabel → Option (List ℕ)
named_at k l = if l.position == k then Some l.name else None

-- the names of the labels at position k, in text order
abbrev pub label_names_at : List CodeLabel → ℕ → List (List ℕ)
label_names_at labels k = filter_map (named_at k) labels

-- the name of the first of them; empty if there is no label
abbrev pub label_name_at : List CodeLabel → ℕ → List ℕ
label_name_at labels k = slice_index_or (label_names_at labels k) 0 []

-- thread t's labels
abbrev pub own_labels : List (List CodeLabel) → ℕ → List CodeLabel
own_labels labels t = slice_index_or labels t []

-- ---- rows

-- an instruction with its location's name, or the name of the first label where it jumps to
abbrev pub code_named : List (List ℕ) → List CodeLabel → Instr → CodeView
code_named names labels (instr.LoadImm r n) = view.LoadImm r n
code_named names labels (instr.Copy r s) = view.Copy r s
code_named names labels (instr.Load r l) = view.Load r (location_name_at names l)
code_named names labels (instr.StoreImm l n) = view.StoreImm (location_name_at names l) n
code_named names labels (instr.Store l r) = view.Store (location_name_at names l) r
code_named names labels (instr.Xchg l r) = view.Xchg (location_name_at names l) r
code_named names labels instr.Fence = view.Fence
code_named names labels (instr.CmpImm r n) = view.CmpImm r n
code_named names labels (instr.CmpReg r s) = view.CmpReg r s
code_named names labels (instr.Je k) = view.Je (label_name_at labels k)
code_named names labels (instr.Jne k) = view.Jne (label_name_at labels k)
code_named names labels (instr.Jmp k) = view.Jmp (label_name_at labels k)

-- the cell of thread t in row k: the labels at position k, and instruction k
abbrev pub cell_of : List (List ℕ) → List (List CodeLabel) → List Thread → ℕ → ℕ → CellView
cell_of names labels threads k t = record {
  labels = label_names_at (own_labels labels t) k;
  code = option_map (code_named names (own_labels labels t)) (instr_at threads t k);
}

abbrev pub row_of : List (List ℕ) → List (List CodeLabel) → List Thread → ℕ → List CellView
row_of names labels threads k = map (cell_of names labels threads k) (range_with_len 0 (length threads))

-- how many cells a thread has: one for each instruction, and one for the labels of its end where it has such
abbrev pub cell_count : List CodeLabel → Thread → ℕ
cell_count labels thread = length thread.code + (if nat_lt 0 (length (label_names_at labels (length thread.code))) then 1 else 0)

-- how many cells the thread with most of them has, from thread t on
abbrev pub most_cells : List (List CodeLabel) → ℕ → List Thread → ℕ
most_cells labels t [] = 0
most_cells labels t (thread ∷ threads) = max (cell_count (own_labels labels t) thread) (most_cells labels (t + 1) threads)

-- as many rows as a thread has cells
abbrev pub rows_of : List (List ℕ) → List (List CodeLabel) → List Thread → List (List CellView)
rows_of names labels threads = map (row_of names labels threads) (range_with_len 0 (most_cells labels 0 threads))

abbrev pub body_of : TextNames → List (List CodeLabel) → Listing → BodyView
body_of names labels p = record { entries = entries_of names p; threads = length p.threads; rows = rows_of names.locations labels p.threads }

-- ---- what is observed

-- a place with its location's name
abbrev pub place_named : List (List ℕ) → Observed → PlaceView
place_named names (observed.Location l) = Location (location_name_at names l)
place_named names (observed.Register t r) = Register t r

-- ---- the condition

-- that a place has a value, with the location's name
abbrev pub atom_named : List (List ℕ) → Atom → SignView
atom_named names (atom.Location l n) = view.Atom (Location (location_name_at names l)) n
atom_named names (atom.Register t r n) = view.Atom (Register t r) n

-- a sign with its location's name
abbrev pub sign_named : List (List ℕ) → Sign Atom → SignView
sign_named names (sign.Atom a) = atom_named names a
sign_named names (sign.Const b) = view.Const b
sign_named names sign.Not = view.Not
sign_named names sign.And = view.And
sign_named names sign.Or = view.Or
sign_named names sign.Open = view.Open
sign_named names sign.Close = view.Close

-- the formula's canonical signs, in one pair of parentheses
abbrev pub signs_named : List (List ℕ) → Tree Atom → List SignView
signs_named names formula = map (sign_named names) (enclosed_signs_of formula)

-- what is observed, and the condition
abbrev pub ending_of : List (List ℕ) → List Observed → Condition → EndingView
ending_of names shown condition =
    record { observed = map (place_named names) shown; quantifier = condition.quantifier; signs = signs_named names condition.formula }

-- ---- the whole

-- a label where its place lies in the fenced thread: at its fence, where a fence stands before its instruction
abbrev pub moved_label : (ℕ → Bool) → CodeLabel → CodeLabel
moved_label gap l = record { name = l.name; position = place_of gap l.position }

-- the labels of the threads from thread t on
abbrev pub moved_labels : Gaps → ℕ → List (List CodeLabel) → List (List CodeLabel)
moved_labels gaps t [] = []
moved_labels gaps t (labels ∷ more) = map (moved_label (gaps t)) labels ∷ moved_labels gaps (t + 1) more

-- what a litmus text stands for, with an MFENCE in each gap of the set
abbrev pub litmus_fenced_at : SetOfGaps → Litmus Listing → Litmus Listing
litmus_fenced_at gaps litmus = record litmus {
  program = fence (gaps_in litmus.program gaps) litmus.program;
  labels = moved_labels (gaps_in litmus.program gaps) 0 litmus.labels;
}

-- the canonical text
abbrev pub canonical_text : Litmus Listing → List ℕ
canonical_text litmus =
    text_with litmus.name (body_of litmus.names litmus.labels litmus.program) (ending_of litmus.names.locations litmus.observed litmus.condition)
