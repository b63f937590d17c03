-- Which cells may hold one value: rows of registers and of locations, a bit each.
use Rattle.std.specs.Prelude.{◌≡◌, ◌↔◌, ◌||◌, ◌&&◌, ◌==◌, ℕ, ◌+◌, ◌<◌, Bool, true, false, List, [], ◌∷◌, length, Some, slice_index, slice_index_or, slice_set}
use Rattle.tso_program.specs.declared.instruction.TheConstants.{REGISTERS}
use Rattle.tso_program.specs.declared.limits.TheConstants.{MAX_LOCATIONS}
use Rattle.tso_program.specs.declared.instruction.Instr.{Instr}
use Rattle.tso_program.specs.declared.instruction.Instr.TheVariants.{LoadImm, Copy, Load, StoreImm, Store, Xchg, Je, Jne, Jmp}
use Rattle.tso_program.specs.declared.listing.Listing.{Listing}
use Rattle.tso_program.specs.Instructions.{number}
use Rattle.tso_program.specs.Listings.{code_of, instr_at, start_of}
use Rattle.tso_machine.specs.Effects.{LeadsTo}
use Rattle.tso_machine.specs.HeldValues.{Location, Register, MayHold}

-- whether a row has a bit
abbrev pub has : List Bool → ℕ → Bool
has row i = slice_index_or row i false

-- the bits of either row of registers
abbrev pub either : List Bool → List Bool → List Bool
either one other =
    (has one 0 || has other 0) ∷ (has one 1 || has other 1) ∷ (has one 2 || has other 2)
    ∷ (has one 3 || has other 3) ∷ (has one 4 || has other 4) ∷ (has one 5 || has other 5) ∷ []

-- no register
abbrev pub no_row : List Bool
no_row = false ∷ false ∷ false ∷ false ∷ false ∷ false ∷ []

-- the registers that hold the value
abbrev pub first_row : List ℕ → ℕ → List Bool
first_row registers v =
    (slice_index registers 0 == v) ∷ (slice_index registers 1 == v) ∷ (slice_index registers 2 == v)
    ∷ (slice_index registers 3 == v) ∷ (slice_index registers 4 == v) ∷ (slice_index registers 5 == v) ∷ []

-- the registers that hold the value after an instruction, from those before it and the locations
abbrev pub row_after : ℕ → Instr → List Bool → List Bool → List Bool
row_after v (LoadImm r n) row locations = slice_set row (number r) (n == v)
row_after v (Copy r from) row locations = slice_set row (number r) (has row (number from))
row_after v (Load r l) row locations = slice_set row (number r) (has locations l)
row_after v (Xchg l r) row locations = slice_set row (number r) (has locations l)
row_after v x row locations = row

-- the registers of a row are put into that of a place
abbrev pub join : ℕ → List Bool → List (List Bool) → List (List Bool)
join place row rows = slice_set rows place (either (slice_index_or rows place []) row)

-- and into those of the places that instruction k leads to
abbrev pub spread : Instr → ℕ → List Bool → List (List Bool) → List (List Bool)
spread (Jmp j) k row rows = join j row rows
spread (Je j) k row rows = join (k + 1) row (join j row rows)
spread (Jne j) k row rows = join (k + 1) row (join j row rows)
spread x k row rows = join (k + 1) row rows

-- a location is a holder too, where the bit is set
abbrev pub with_bit : List Bool → ℕ → Bool → List Bool
with_bit holders l bit = slice_set holders l (has holders l || bit)

-- the location that an instruction gives the value to, from the registers that hold it
abbrev pub with_stored : ℕ → Instr → List Bool → List Bool → List Bool
with_stored v (StoreImm l n) row holders = with_bit holders l (n == v)
with_stored v (Store l r) row holders = with_bit holders l (has row (number r))
with_stored v (Xchg l r) row holders = with_bit holders l (has row (number r))
with_stored v x row holders = holders

-- whether an instruction gives the value to the location
abbrev pub gives : ℕ → Instr → List Bool → ℕ → Bool
gives v (StoreImm m n) row l = (m == l) && (n == v)
gives v (Store m r) row l = (m == l) && has row (number r)
gives v (Xchg m r) row l = (m == l) && has row (number r)
gives v x row l = false

-- each of the locations may hold the value
abbrev pub AreSound : Listing → ℕ → List Bool → Type 0
AreSound p v holders = (l : ℕ) → has holders l ≡ true → MayHold p (Location l) v

-- the rows of thread t, where these locations hold the value
pub record AreHeldRows (p : Listing) (v t : ℕ) (locations : List Bool) (rows : List (List Bool)) : Type 0 where
  pub six : length (start_of p.threads t).registers ≡ REGISTERS
  pub long : length rows ≡ length (code_of p.threads t) + 1
  pub wide : (k : ℕ) → k < length rows → length (slice_index_or rows k []) ≡ REGISTERS
  -- a register of a row may hold the value, if the locations may
  pub sound : AreSound p v locations → (k i : ℕ) → has (slice_index_or rows k []) i ≡ true → MayHold p (Register t k i) v
  -- the first row has those that hold it at the start
  pub first : (i : ℕ) → i < REGISTERS → slice_index (start_of p.threads t).registers i ≡ v → has (slice_index_or rows 0 []) i ≡ true
  -- a row has those that hold it after an instruction that leads there
  pub closed : (k j i : ℕ) (x : Instr) → instr_at p.threads t k ≡ Some x → LeadsTo x k j → i < REGISTERS →
      has (row_after v x (slice_index_or rows k []) locations) i ≡ true → has (slice_index_or rows j []) i ≡ true

-- what thread t gives the value to, by its rows, is among the holders
abbrev pub HaveGiven : Listing → ℕ → ℕ → List (List Bool) → List Bool → Type 0
HaveGiven p v t rows holders = (k l : ℕ) (x : Instr) → instr_at p.threads t k ≡ Some x → l < length holders →
    gives v x (slice_index_or rows k []) l ≡ true → has holders l ≡ true

-- the holders, and those to which thread t gives the value where the first ones hold it
pub record IsPassedOn (p : Listing) (v t : ℕ) (from holders more : List Bool) : Type 0 where
  pub long : length more ≡ length holders
  pub sound : AreSound p v from → AreSound p v holders → AreSound p v more
  pub kept : (l : ℕ) → has holders l ≡ true → has more l ≡ true
  pub rows : List (List Bool)
  pub are_rows : AreHeldRows p v t from rows
  pub given : HaveGiven p v t rows more

-- the holders, and those to which one of the first n threads gives the value
pub record IsPassed (p : Listing) (v n : ℕ) (holders more : List Bool) : Type 0 where
  pub long : length more ≡ length holders
  pub sound : AreSound p v holders → AreSound p v more
  pub kept : (l : ℕ) → has holders l ≡ true → has more l ≡ true
  pub each : (t : ℕ) → t < n → (rows : List (List Bool)) × AreHeldRows p v t holders rows × HaveGiven p v t rows more

-- the locations that hold the value at first
pub record AreInitial (p : Listing) (v : ℕ) (holders : List Bool) : Type 0 where
  pub long : length holders ≡ MAX_LOCATIONS
  pub sound : AreSound p v holders
  pub first : (l : ℕ) → l < length p.memory → slice_index p.memory l ≡ v → has holders l ≡ true

-- the locations that may hold the value
abbrev pub AreHolders : Listing → ℕ → List Bool → Type 0
AreHolders p v holders = (l : ℕ) → l < length p.memory → (has holders l ≡ true) ↔ MayHold p (Location l) v
