-- Sets of registers and locations, by their places.
use Rattle.std.specs.Prelude.{◌≡◌, ℕ, ◌+◌, ◌*◌, ◌<◌, true}
use Rattle.std.specs.Ordering.{nat_cmp}
use Rattle.std.specs.FinSet as set
use Rattle.tso_program.specs.declared.instruction.TheConstants.{REGISTERS}
use Rattle.tso_program.specs.declared.shown.TheConstants.{REGISTER_PLACES, PLACES}

-- the place of register r of thread t, where there are `MAX_THREADS` threads at most
abbrev pub register_place : ℕ → ℕ → ℕ
register_place t r = REGISTERS * t + r

-- the place of a location, after those of the registers
abbrev pub location_place : ℕ → ℕ
location_place l = REGISTER_PLACES + l

-- no place is past those
abbrev pub ArePlaces : set.FinSet nat_cmp → Type 0
ArePlaces names = (place : ℕ) → set.contains names place ≡ true → place < PLACES
