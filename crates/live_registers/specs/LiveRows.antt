-- Tables of live registers.
use Rattle.std.specs.Prelude.{◌≡◌, ◌↔◌, ◌==◌, ◌||◌, ◌&&◌, not, ℕ, ◌+◌, ◌<◌, ◌≤◌, Bool, true, false, List, [], length, is_some, slice_index_or}
use Rattle.tso_program.specs.declared.instruction.TheConstants.{REGISTERS}
use Rattle.tso_program.specs.declared.instruction.Instr.{Instr}
use Rattle.tso_program.specs.declared.instruction.Instr.TheVariants.{LoadImm, Copy, Load, Store, Xchg, CmpImm, CmpReg, Jmp}
use Rattle.tso_program.specs.declared.listing.Listing.{Listing}
use Rattle.std.specs.FinSet as set
use Rattle.tso_program.specs.declared.shown.Shown.{Shown, TheVariants.All, TheVariants.Only, TheVariants.Truth}
use Rattle.tso_program.specs.Named.{with_named}
use Rattle.tso_program.specs.Instructions.{number, target_of}
use Rattle.tso_program.specs.Listings.{code_of}
use Rattle.dataflow_laws.specs.Liveness.{Tells, Live}

-- whether an instruction takes the value of register i, or puts one into it
abbrev pub is_used : Instr → ℕ → Bool
is_used (Copy r from) i = number from == i
is_used (Store l r) i = number r == i
is_used (Xchg l r) i = number r == i
is_used (CmpImm r v) i = number r == i
is_used (CmpReg r from) i = (number r == i) || (number from == i)
is_used x i = false

abbrev pub is_set : Instr → ℕ → Bool
is_set (LoadImm r v) i = number r == i
is_set (Copy r from) i = number r == i
is_set (Load r l) i = number r == i
is_set (Xchg l r) i = number r == i
is_set x i = false

-- whether the next instruction may follow
abbrev pub falls : Instr → Bool
falls (Jmp k) = false
falls x = true

-- whether register i is in a row
abbrev pub in_row : List Bool → ℕ → Bool
in_row row i = slice_index_or row i false

-- whether it is live before an instruction, by whether it is at the next one and where it jumps to
abbrev pub live_bit : Instr → ℕ → Bool → Bool → Bool
live_bit x i next target = is_used x i || (not (is_set x i) && ((falls x && next) || (is_some (target_of x) && target)))

-- what is shown, with the registers that a formula names in the place of its truth
abbrev pub shown_names : Shown → Shown
shown_names All = All
shown_names (Only names) = Only names
shown_names (Truth f) = Only (with_named set.empty f)

-- the row has the registers of thread t on which what is shown may depend
abbrev pub AreShown : Shown → ℕ → List Bool → Type 0
AreShown shown t row = (i : ℕ) → i < REGISTERS → (in_row row i ≡ true) ↔ Tells shown t i

-- from place k on the rows have the registers that are live there
abbrev pub AreLiveFrom : Listing → Shown → ℕ → ℕ → List (List Bool) → Type 0
AreLiveFrom p shown t k rows = (j i : ℕ) → k ≤ j → j ≤ length (code_of p.threads t) → i < REGISTERS → (in_row (slice_index_or rows j []) i ≡ true) ↔ Live p shown t j i

abbrev pub AreLive : Listing → Shown → ℕ → List (List Bool) → Type 0
AreLive p shown t rows = AreLiveFrom p shown t 0 rows

-- the table of thread t: one row for each instruction and one for the end
pub record IsLiveTable (p : Listing) (shown : Shown) (t : ℕ) (rows : List (List Bool)) : Type 0 where
  pub long : length rows ≡ length (code_of p.threads t) + 1
  pub exact : AreLive p shown t rows

-- a table for each thread
pub record AreLiveTables (p : Listing) (shown : Shown) (tables : List (List (List Bool))) : Type 0 where
  pub many : length tables ≡ length p.threads
  pub each : (t : ℕ) → t < length p.threads → IsLiveTable p shown t (slice_index_or tables t [])
