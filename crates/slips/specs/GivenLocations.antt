-- Locations to which a text gives a value, and loads of others.
use Rattle.std.specs.Prelude.{ℕ, Bool, false, List, Option, Some, None, ◌||◌, not}
use Rattle.std.specs.List.{list_any}
use Rattle.std.specs.Str.{bytes_eq}
use Rattle.std.specs.Global.{Vec}
use Rattle.litmus_syntax.specs.declared.body.Body.{Body}
use Rattle.litmus_syntax.specs.declared.cell.Cell.{Cell}
use Rattle.litmus_syntax.specs.declared.code.Code.{Code}
use Rattle.litmus_syntax.specs.declared.code.Code.TheVariants as code
use Rattle.litmus_syntax.specs.declared.entry.Entry.{Entry}
use Rattle.litmus_syntax.specs.declared.place.Place.{Place}
use Rattle.litmus_syntax.specs.declared.place.Place.TheVariants as place

-- whether the instruction stores to the location of this name
abbrev pub stores_to : List ℕ → Option Code → Bool
stores_to location None = false
stores_to location (Some (code.LoadImm r n)) = false
stores_to location (Some (code.Copy r s)) = false
stores_to location (Some (code.Load r x)) = false
stores_to location (Some (code.StoreImm x n)) = bytes_eq x.now location
stores_to location (Some (code.Store x r)) = bytes_eq x.now location
stores_to location (Some (code.Xchg x r)) = bytes_eq x.now location
stores_to location (Some code.Fence) = false
stores_to location (Some (code.CmpImm r n)) = false
stores_to location (Some (code.CmpReg r s)) = false
stores_to location (Some (code.Je label)) = false
stores_to location (Some (code.Jne label)) = false
stores_to location (Some (code.Jmp label)) = false

abbrev pub row_stores : List ℕ → List Cell → Bool
row_stores location row = list_any (λ cell. stores_to location cell.code) row

abbrev pub rows_store : List ℕ → List (Vec Cell) → Bool
rows_store location rows = list_any (λ row. row_stores location row.items) rows

-- whether a place is the location of this name
abbrev pub is_location : List ℕ → Place → Bool
is_location location (place.Location x) = bytes_eq x.now location
is_location location (place.Register t r) = false

abbrev pub has_entry : List ℕ → List Entry → Bool
has_entry location entries = list_any (λ entry. is_location location entry.place) entries

-- whether an initial value of the text or an instruction gives the location a value
abbrev pub is_given : Body → List ℕ → Bool
is_given body location = has_entry location body.entries.items || rows_store location body.rows.items

-- whether the instruction loads a location to which nothing gives a value
abbrev pub loads_unwritten : Body → Option Code → Bool
loads_unwritten body None = false
loads_unwritten body (Some (code.LoadImm r n)) = false
loads_unwritten body (Some (code.Copy r s)) = false
loads_unwritten body (Some (code.Load r x)) = not (is_given body x.now)
loads_unwritten body (Some (code.StoreImm x n)) = false
loads_unwritten body (Some (code.Store x r)) = false
loads_unwritten body (Some (code.Xchg x r)) = false
loads_unwritten body (Some code.Fence) = false
loads_unwritten body (Some (code.CmpImm r n)) = false
loads_unwritten body (Some (code.CmpReg r s)) = false
loads_unwritten body (Some (code.Je label)) = false
loads_unwritten body (Some (code.Jne label)) = false
loads_unwritten body (Some (code.Jmp label)) = false
