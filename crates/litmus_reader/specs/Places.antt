-- What a text names, in the order in which it names it.
use Rattle.std.specs.Prelude.{ℕ, ◌+◌, Bool, List, [], ◌∷◌, ◌++◌, map, Option, Some, None}
use Rattle.std.specs.List.{flat_map, filter_map, list_any, range_with_len}
use Rattle.std.specs.Option.{option_map_or}
use Rattle.tso_program.specs.declared.instruction.Reg.{Reg}
use Rattle.litmus_syntax.specs.Views.{PlaceView, Location, Register, EntryView, CodeView, LoadImm, Copy, Load, StoreImm, Store, Xchg, CmpImm, CmpReg, CellView, BodyView, SignView, Atom, EndingView}
use Rattle.litmus_syntax.specs.Places.{same_place}
use Rattle.litmus_reader.specs.Names.{TextNames, all_registers, in_order}

-- what an instruction of thread t names
abbrev pub code_places : ℕ → CodeView → List PlaceView
code_places t (LoadImm r n) = Register t r ∷ []
code_places t (Copy r s) = Register t r ∷ Register t s ∷ []
code_places t (Load r x) = Register t r ∷ Location x ∷ []
code_places t (StoreImm x n) = Location x ∷ []
code_places t (Store x r) = Location x ∷ Register t r ∷ []
code_places t (Xchg x r) = Location x ∷ Register t r ∷ []
code_places t (CmpImm r n) = Register t r ∷ []
code_places t (CmpReg r s) = Register t r ∷ Register t s ∷ []
code_places t _ = []

-- what thread t's cell names
abbrev pub cell_places : ℕ → CellView → List PlaceView
cell_places t c = option_map_or (code_places t) c.code []

-- what the cells of a row name, the first of which is thread t's
abbrev pub cells_places : ℕ → List CellView → List PlaceView
cells_places t [] = []
cells_places t (c ∷ cs) = cell_places t c ++ cells_places (t + 1) cs

abbrev pub row_places : List CellView → List PlaceView
row_places cells = cells_places 0 cells

-- what a sign of the condition names
abbrev pub sign_places : SignView → List PlaceView
sign_places (Atom p n) = p ∷ []
sign_places _ = []

abbrev pub entry_place : EntryView → PlaceView
entry_place e = e.place

-- what a text names: in initial values, in rows, behind `locations`, in the condition
abbrev pub places : BodyView → EndingView → List PlaceView
places body ending = map entry_place body.entries ++ (flat_map row_places body.rows ++ (ending.observed ++ flat_map sign_places ending.signs))

-- the name of a location
abbrev pub location_name : PlaceView → Option (List ℕ)
location_name (Location x) = Some x
location_name (Register t r) = None

-- whether the place is register r of thread t
abbrev pub is_register : ℕ → Reg → PlaceView → Bool
is_register t r p = same_place p (Register t r)

-- the names that places give: the locations in the order of their first appearance, and of each thread the registers
abbrev pub names_among : ℕ → List PlaceView → TextNames
names_among threads ps = record {
  locations = in_order (filter_map location_name ps);
  registers = map (λ t. map (λ r. list_any (is_register t r) ps) all_registers) (range_with_len 0 threads);
}

-- the names of a text
abbrev pub names_of : BodyView → EndingView → TextNames
names_of body ending = names_among body.threads (places body ending)
