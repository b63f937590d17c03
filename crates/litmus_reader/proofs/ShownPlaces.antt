-- What a litmus text asks to be shown is what its condition mentions and its observed places.
use Rattle.litmus_reader.proofs.Vocabulary.{◌≡◌, ◌⊎◌, ◌↔◌, ◌&&◌, ℕ, ◌<◌, Bool, true, false, List, [], ◌∷◌, Contains, sym, ap, ◌∙◌, subst, inl, inr, arith, Contains-append_cases, Contains-append_left, Contains-append_right, Contains-push, Contains-push_cases}
use Rattle.litmus_reader.proofs.Vocabulary.{nat_lt, nat_tests, Reg, number, Atom, Tree, MAX_THREADS, MAX_LOCATIONS, with_place, with_places, shown_by, ShowsNamedRegisters, ShowsNamedLocations}
use Rattle.std.specs.Ordering.{nat_cmp}
use Rattle.std.specs.FinSet as set
use Rattle.tso_program.specs.{Names.register_place, Names.location_place, Named.with_named, Named.MentionsRegister, Named.MentionsLocation}
use Rattle.conditions.proofs.Mentioned.{Has, IsWith, then_more, register_with_register, register_with_location, location_with_location, location_with_register, register_mentioned, location_mentioned}
use Rattle.litmus_reader.specs.declared.observed.Observed.{Observed, TheVariants.Location, TheVariants.Register}

-- a list that grows by one place, where this is said of equal types
said : (One Other : Type 0) (place : ℕ) (names more : set.FinSet nat_cmp) → (One → Other) → (Other → One) → IsWith One place names more → IsWith Other place names more
said One Other place names more on back with_one = (
  λ h. elim (with_one.0 h) [ inl old ↦ inl old | inr one ↦ inr (on one) ],
  λ h. elim h [ inl old ↦ with_one.1 (inl old) | inr other ↦ with_one.1 (inr (back other)) ],
)

-- ---- observed places, one by one

none_listed : (x : Observed) → Contains [] x → ⊥
none_listed x here = let k = here.1 in omega arith

first_or_later : (o : Observed) (os : List Observed) (x : Observed) → Contains (o ∷ os) x → (o ≡ x) ⊎ Contains os x
first_or_later o os x here = elim (Contains-append_cases (o ∷ []) os x here) [
  | inl first ↦ elim (Contains-push_cases [] o x first) [ inl none ↦ absurd (none_listed x none) | inr e ↦ inl e ]
  | inr later ↦ inr later
]

here_or_there : (o : Observed) (os : List Observed) (x : Observed) → (o ≡ x) ⊎ Contains os x → Contains (o ∷ os) x
here_or_there o os x (inl e) = subst (Contains (o ∷ os)) e (Contains-append_left (o ∷ []) os o (Contains-push [] o))
here_or_there o os x (inr later) = Contains-append_right (o ∷ []) os x later

by_places : (x : Observed) (place : ℕ) → ((names : set.FinSet nat_cmp) (o : Observed) → IsWith (o ≡ x) place names (with_place names o)) →
    (os : List Observed) (names : set.FinSet nat_cmp) → IsWith (Contains os x) place names (with_places names os)
by_places x place each [] names = said ⊥ (Contains [] x) place names names (λ none. absurd none) (none_listed x) ((λ h. inl h), (λ h. elim h [ inl old ↦ old | inr none ↦ absurd none ]))
by_places x place each (o ∷ os) names =
    said ((o ≡ x) ⊎ Contains os x) (Contains (o ∷ os) x) place names (with_places (with_place names o) os) (here_or_there o os x) (first_or_later o os x)
    (then_more (o ≡ x) (Contains os x) place names (with_place names o) (with_places (with_place names o) os) (each names o) (by_places x place each os (with_place names o)))

each_register : (t : ℕ) (r : Reg) → t < MAX_THREADS → (names : set.FinSet nat_cmp) (o : Observed) → IsWith (o ≡ Register t r) (register_place t (number r)) names (with_place names o)
each_register t r few names (Register thread register) =
    said ((thread ≡ t) × (register ≡ r)) (Register thread register ≡ Register t r) (register_place t (number r)) names (with_place names (Register thread register))
    (λ (e, f) i. Register (e i) (f i)) (λ e. (cc, cc)) (register_with_register names t r few thread register)
each_register t r few names (Location location) =
    said ⊥ (Location location ≡ Register t r) (register_place t (number r)) names (with_place names (Location location))
    (λ none. absurd none) (λ e. cc) (register_with_location names t r few location)

each_location : (l : ℕ) → l < MAX_LOCATIONS → (names : set.FinSet nat_cmp) (o : Observed) → IsWith (o ≡ Location l) (location_place l) names (with_place names o)
each_location l few names (Register thread register) =
    said ⊥ (Register thread register ≡ Location l) (location_place l) names (with_place names (Register thread register))
    (λ none. absurd none) (λ e. cc) (location_with_register names l few thread register)
each_location l few names (Location location) =
    said (location ≡ l) (Location location ≡ Location l) (location_place l) names (with_place names (Location location))
    (λ e. ap Location e) (λ e. cc) (location_with_location names l few location)

-- ---- both

from_none : (Spoken : Type 0) (place : ℕ) (more : set.FinSet nat_cmp) → IsWith Spoken place set.empty more → Has more place ↔ Spoken
from_none Spoken place more with_it = (
  λ h. elim (with_it.0 h) [ inl none ↦ let no : true ≡ false = sym none ∙ set.contains-empty nat_cmp place in absurd cc | inr spoken ↦ spoken ],
  λ spoken. with_it.1 (inr spoken),
)

in_range : (t : ℕ) (b : Bool) → t < MAX_THREADS → (nat_lt t MAX_THREADS && b) ≡ b
in_range t b h = grind (arith, nat_tests)

module _ (formula : Tree Atom) (observed : List Observed) where
  abbrev of_formula : set.FinSet nat_cmp
  of_formula = with_named set.empty formula

  abbrev all : set.FinSet nat_cmp
  all = with_places of_formula observed

  pub shows_registers : ShowsNamedRegisters formula observed (shown_by formula observed)
  shows_registers t r few =
      let place = register_place t (number r) in
      let range = in_range t (set.contains all place) few in
      let named = from_none (MentionsRegister formula t r ⊎ Contains observed (Register t r)) place all
      (then_more (MentionsRegister formula t r) (Contains observed (Register t r)) place set.empty of_formula all
      (register_mentioned t r few formula set.empty) (by_places (Register t r) place (each_register t r few) observed of_formula)) in
      ((λ shown. named.0 (sym range ∙ shown)), (λ said. range ∙ named.1 said))

  pub shows_locations : ShowsNamedLocations formula observed (shown_by formula observed)
  shows_locations l few =
      from_none (MentionsLocation formula l ⊎ Contains observed (Location l)) (location_place l) all
      (then_more (MentionsLocation formula l) (Contains observed (Location l)) (location_place l) set.empty of_formula all
      (location_mentioned l few formula set.empty) (by_places (Location l) (location_place l) (each_location l few) observed of_formula))
