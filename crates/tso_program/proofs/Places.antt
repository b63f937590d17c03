-- The places of named registers and locations.
use Rattle.tso_program.proofs.Vocabulary.{◌≡◌, ◌⊎◌, ◌||◌, ℕ, ◌-◌, ◌/◌, ◌%◌, ◌<◌, Bool, true, false, refl, sym, ◌∙◌, inl, inr, arith, nat_cmp, eq_by_cmp, nat_cmp_total, cases_lt, nat_tests, ArePlaces, REGISTERS, RegisterPlacesAreDistinct}
use Rattle.tso_program.proofs.Vocabulary.{LocationPlacesAreDistinct, RegistersLieApartFromLocations, IsRegisterPlace, EachPlaceIsNamed, REGISTER_PLACES, PLACES}
use Rattle.std.specs.FinSet as set
use Rattle.std.proofs.Math.Nat.{div-add-mod, mod-lt}

pub none_placed : ArePlaces set.empty
none_placed place h = let no : true ≡ false = sym h ∙ set.contains-empty nat_cmp place in absurd cc

pub tied : (place new : ℕ) (b : Bool) → (eq_by_cmp nat_cmp place new || b) ≡ true → (new ≡ place) ⊎ (b ≡ true)
tied place new true h = inr refl
tied place new false h = inl (grind (arith, nat_tests))

pub one_more_placed : (names : set.FinSet nat_cmp) (new : ℕ) → ArePlaces names → new < PLACES → ArePlaces (set.insert names new)
one_more_placed names new placed below place h =
    elim (tied place new (set.contains names place) (sym (set.contains-insert nat_cmp_total names new place) ∙ h)) [
      | inl e ↦ omega arith
      | inr old ↦ placed place old
    ]

-- ---- no two have one place

pub registers_distinct : RegisterPlacesAreDistinct
registers_distinct t r u s small other e = (omega arith, omega arith)

pub locations_distinct : LocationPlacesAreDistinct
locations_distinct l m e = omega arith

pub lie_apart : RegistersLieApartFromLocations
lie_apart t r l thread register e = omega arith

-- ---- each place is a register's or a location's

pub on_register : (place : ℕ) → place < REGISTER_PLACES → IsRegisterPlace place
on_register place h = let e = div-add-mod place REGISTERS in let small = mod-lt place {m = REGISTERS} (omega arith) in record {
  thread = place / REGISTERS;
  register = place % REGISTERS;
  few_threads = omega arith;
  few_registers = small;
  value = sym e;
}

pub each_named : EachPlaceIsNamed
each_named place h = elim (cases_lt place REGISTER_PLACES) [
  | inl below ↦ inl (on_register place below)
  | inr above ↦ inr (record { location = place - REGISTER_PLACES; few_locations = omega arith; value = omega arith })
]
