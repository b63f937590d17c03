-- The names of the canonical text are those of the text.
use Rattle.litmus_text.proofs.Vocabulary.{◌≡◌, ℕ, ◌+◌, ◌*◌, ◌<◌, Bool, true, false, ◌||◌, List, [], ◌∷◌, ◌++◌, map, fold, refl, sym, ap, ◌∙◌, subst, inl, inr, append_assoc, append-nil, or-false, if◌then◌else◌, AllByRecursion, IsDistinct, list_any}
use Rattle.litmus_text.proofs.Vocabulary.{filter_map, bytes_eq, cases_Bool, filter_map-append, list_any-append, Reg, PlaceView, Location, Register, same_place, same_place_is, location_name, is_register, names_among, fold-append, all_registers, with_name}
use Rattle.litmus_text.proofs.Vocabulary.{in_order}
use Rattle.std.proofs.lemmas.Cmp.{nat_list_eq_equiv}
use Rattle.litmus_text.proofs.NamedPlaces.{distinct_head as distinct_parts, Named, named_places, threads_places, rising_threads, named_locations, register_among}
use Rattle.litmus_text.proofs.ToldCode.{IsKnown}
use Rattle.litmus_reader.proofs.Filled.{range_same}

-- ---- locations

at_middle : (P : List ℕ → Type 0) (xs : List (List ℕ)) (y : List ℕ) (ys : List (List ℕ)) → AllByRecursion P (xs ++ y ∷ ys) → P y
at_middle P [] y ys h = h.0
at_middle P (x ∷ xs) y ys h = at_middle P xs y ys h.1

new_name : (names : List (List ℕ)) (x : List ℕ) (xs : List (List ℕ)) → IsDistinct bytes_eq (names ++ x ∷ xs) → list_any (bytes_eq x) names ≡ false
new_name [] x xs once = refl
new_name (y ∷ names) x xs once =
    let d = distinct_parts y (names ++ x ∷ xs) once in
    let other : bytes_eq x y ≡ false = nat_list_eq_equiv.symm x y ∙ at_middle (λ z. bytes_eq y z ≡ false) names x xs d.0 in
    ap (λ (b : Bool). b || list_any (bytes_eq x) names) other ∙ new_name names x xs d.1

-- distinct names, one after another, are all new
all_new : (names xs : List (List ℕ)) → IsDistinct bytes_eq (names ++ xs) → fold with_name names xs ≡ names ++ xs
all_new names [] once = sym (append-nil names)
all_new names (x ∷ xs) once =
    let same : names ++ x ∷ xs ≡ (names ++ x ∷ []) ++ xs = sym (append_assoc names (x ∷ []) xs) in
    let more : IsDistinct bytes_eq ((names ++ x ∷ []) ++ xs) = subst (IsDistinct bytes_eq) same once in
    ap (λ (b : Bool). fold with_name (if b then names else names ++ x ∷ []) xs) (new_name names x xs once)
    ∙ all_new (names ++ x ∷ []) xs more ∙ sym same

-- what is known adds no name
nothing_new : (names : List (List ℕ)) (named : Named) (ps : List PlaceView) → AllByRecursion (IsKnown names named) ps → fold with_name names (filter_map location_name ps) ≡ names
nothing_new names named [] h = refl
nothing_new names named (Location x ∷ ps) h =
    ap (λ (b : Bool). fold with_name (if b then names else names ++ x ∷ []) (filter_map location_name ps)) h.0 ∙ nothing_new names named ps h.1
nothing_new names named (Register t r ∷ ps) h = nothing_new names named ps h.1

pub locations_again : (names : List (List ℕ)) (named : Named) (threads : ℕ) (ps : List PlaceView) → IsDistinct bytes_eq names → AllByRecursion (IsKnown names named) ps
    → in_order (filter_map location_name (named_places names named threads ++ ps)) ≡ names
locations_again names named threads ps once h =
    ap in_order (filter_map-append location_name (named_places names named threads) ps
    ∙ ap (λ (xs : List (List ℕ)). xs ++ filter_map location_name ps)
    (named_locations names (6 * 0) (6 * (0 + threads)) (threads_places named 0 threads) (rising_threads named 0 threads)))
    ∙ fold-append with_name [] names (filter_map location_name ps)
    ∙ ap (λ (xs : List (List ℕ)). fold with_name xs (filter_map location_name ps)) (all_new [] names once)
    ∙ nothing_new names named ps h

-- ---- registers

-- what is known adds no register
known_register : (names : List (List ℕ)) (named : Named) (t : ℕ) (r : Reg) (ps : List PlaceView) → AllByRecursion (IsKnown names named) ps
    → (named t r || list_any (is_register t r) ps) ≡ named t r
known_register names named t r [] h = or-false (named t r)
known_register names named t r (p ∷ ps) h =
    let rest : Bool → Bool = λ b. named t r || (b || list_any (is_register t r) ps) in
    elim (cases_Bool (same_place p (Register t r))) [
      | inl there ↦
          let known : named t r ≡ true = subst (IsKnown names named) (same_place_is p (Register t r) there) h.0 in
          ap (λ (b : Bool). b || list_any (is_register t r) (p ∷ ps)) known ∙ sym known
      | inr other ↦ ap rest other ∙ known_register names named t r ps h.1
    ]

pub register_again : (names : List (List ℕ)) (named : Named) (threads t : ℕ) (r : Reg) (ps : List PlaceView) → t < threads → AllByRecursion (IsKnown names named) ps
    → list_any (is_register t r) (named_places names named threads ++ ps) ≡ named t r
register_again names named threads t r ps lt h =
    list_any-append (is_register t r) (named_places names named threads) ps
    ∙ ap (λ (b : Bool). b || list_any (is_register t r) ps) (register_among names named threads t r lt)
    ∙ known_register names named t r ps h

-- the table of the registers
pub registers_again : (names : List (List ℕ)) (named : Named) (threads : ℕ) (ps qs : List PlaceView) → AllByRecursion (IsKnown names named) ps
    → ((t : ℕ) (r : Reg) → t < threads → named t r ≡ list_any (is_register t r) qs)
    → (names_among threads (named_places names named threads ++ ps)).registers ≡ (names_among threads qs).registers
registers_again names named threads ps qs h is =
    range_same (λ t. map (λ r. list_any (is_register t r) (named_places names named threads ++ ps)) all_registers) (λ t. map (λ r. list_any (is_register t r) qs) all_registers) threads
    (λ t lt i. map (λ r. (register_again names named threads t r ps lt h ∙ is t r lt) i) all_registers)
