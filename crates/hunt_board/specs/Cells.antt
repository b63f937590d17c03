-- Cells by their names, and runs that were posted in them.
use Rattle.std.specs.Prelude.{◌≡◌, ℕ, ◌+◌, ◌*◌, ◌<◌, nat_lt, List, length, Option, Some, None, slice_get, if◌then◌else◌}
use Rattle.search_core.specs.Facts.{Foreign}
use Rattle.hunt_board.specs.declared.cells.PostFault.{PostFault, TheVariants.RowFull, TheVariants.Refused}
use Rattle.hunt_board.specs.declared.cells.TheConstants.{ROW_CELLS}

-- where a run was posted: the place and the name of its cell; and the run, which is there
pub record PostedRun : Type 0 where
  pub place : ℕ
  pub cell : ℕ
  pub run : Option Foreign

-- the cell at the place has that name
abbrev pub IsInCell : List ℕ → PostedRun → Type 0
IsInCell cells p = slice_get cells p.place ≡ Some p.cell

-- where the cell of this index in a seat's row lies
abbrev pub cell_place : ℕ → ℕ → Option ℕ
cell_place seat index = if nat_lt index ROW_CELLS then Some (seat * ROW_CELLS + index) else None

-- the cell of this index in the seat's row is there
pub record IsThere (cells : List ℕ) (seat index : ℕ) : Type 0 where
  pub in_row : index < ROW_CELLS
  pub in_cells : seat * ROW_CELLS + index < length cells

-- the run that is handed back
abbrev pub run_in : PostFault → Foreign
run_in (RowFull run) = run
run_in (Refused run) = run
