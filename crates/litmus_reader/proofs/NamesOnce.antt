-- A text's names: each stands once, the number of one is its place, and what the entries name stands among them.
use Rattle.litmus_reader.proofs.Vocabulary.{◌≡◌, ℕ, ◌<◌, Bool, true, false, cond, List, [], ◌∷◌, ◌++◌, length, get_or, map, fold, Some, None, refl, sym, ap, ◌∙◌, arith, ◌==◌, ◌||◌, ⊤, nat_lt, unwrap_or, if◌then◌else◌, bytes_eq, lt-ltb, nat_list_eq_equiv}
use Rattle.litmus_reader.proofs.Vocabulary.{get_or_default, bytes_eq-Decides, PlaceView, Location, Register, BodyView, EndingView, location_name, entry_place, row_places, sign_places, names_of, flat_map, IsDistinct, AllByRecursion, list_any, filter_map}
use Rattle.litmus_reader.proofs.Vocabulary.{position_or_len, or_right, Decides-eqb, same_from_decides, list_any-append, Any-from_list_any, position_or_len_is, with_name, in_order, number_in}
use Rattle.std.specs.Bool.{Decides}
use Rattle.std.proofs.lemmas.Map.Keys.{IsDistinct-push, apart_from_distinct}

-- ---- each name stands once

with_name_once : (names : List (List ℕ)) (x : List ℕ) (b : Bool) → list_any (bytes_eq x) names ≡ b → IsDistinct bytes_eq names → IsDistinct bytes_eq (if b then names else names ++ x ∷ [])
with_name_once names x true e once = once
with_name_once names x false e once = IsDistinct-push nat_list_eq_equiv names x once e

once_from : (names xs : List (List ℕ)) → IsDistinct bytes_eq names → IsDistinct bytes_eq (fold with_name names xs)
once_from names [] once = once
once_from names (x ∷ xs) once = once_from (with_name names x) xs (with_name_once names x (list_any (bytes_eq x) names) refl once)

-- names in the order of their first appearance
pub in_order_once : (xs : List (List ℕ)) → IsDistinct bytes_eq (in_order xs)
unfolding IsDistinct
in_order_once xs = once_from [] xs tt

-- ---- the number of a name

-- the number of the name at a place is that place
pub number_at : (names : List (List ℕ)) (l : ℕ) → IsDistinct bytes_eq names → l < length names → number_in names (get_or names l []) ≡ l
number_at names l once lt =
    let name = get_or names l [] in
    let others : (k : ℕ) → k < l → bytes_eq name (get_or names k []) ≡ false =
    λ k below. nat_list_eq_equiv.symm name (get_or names k []) ∙ apart_from_distinct bytes_eq names k l [] once below lt in
    let first : position_or_len (bytes_eq name) names ≡ l = position_or_len_is (bytes_eq name) names l [] (omega arith) others (λ _. (bytes_eq-Decides name name).1 refl) in
    ap (λ (n : ℕ). unwrap_or (cond (nat_lt n (length names)) (Some n) None) 0) first ∙ rw (lt-ltb l (length names) lt) refl

-- where a name stands
pub place_among : (names : List (List ℕ)) (y : List ℕ) → list_any (bytes_eq y) names ≡ true → (i : ℕ) × (i < length names) × (y ≡ get_or names i [])
place_among names y e =
    let a = Any-from_list_any (bytes_eq y) names e in (a.0, a.2, (bytes_eq-Decides y a.1).0 a.4 ∙ sym a.3 ∙ get_or_default names a.0 a.1 [] a.2)

-- a name has the number l exactly where it is the name at l
pub same_number : (names : List (List ℕ)) (y : List ℕ) (l : ℕ) → IsDistinct bytes_eq names → list_any (bytes_eq y) names ≡ true → l < length names
    → (number_in names y == l) ≡ bytes_eq y (get_or names l [])
same_number names y l once stands lt =
    let own = place_among names y stands in
    let number : number_in names y ≡ own.0 = ap (number_in names) own.2 ∙ number_at names own.0 once own.1 in
    let decides : Decides (number_in names y == l) (y ≡ get_or names l []) = (
      λ e. own.2 ∙ ap (λ (k : ℕ). get_or names k []) (sym number ∙ (Decides-eqb (number_in names y) l).0 e),
      λ same. (Decides-eqb (number_in names y) l).1 (ap (number_in names) same ∙ number_at names l once lt),
    ) in
    same_from_decides (number_in names y == l) (bytes_eq y (get_or names l [])) decides (bytes_eq-Decides y (get_or names l []))

-- ---- what the entries name stands among the names

kept_by : (p : List ℕ → Bool) (names : List (List ℕ)) (x : List ℕ) (b : Bool) → list_any p names ≡ true → list_any p (if b then names else names ++ x ∷ []) ≡ true
kept_by p names x true e = e
kept_by p names x false e = list_any-append p names (x ∷ []) ∙ ap (λ (b : Bool). b || list_any p (x ∷ [])) e

kept : (p : List ℕ → Bool) (names xs : List (List ℕ)) → list_any p names ≡ true → list_any p (fold with_name names xs) ≡ true
kept p names [] e = e
kept p names (x ∷ xs) e = kept p (with_name names x) xs (kept_by p names x (list_any (bytes_eq x) names) e)

added : (names : List (List ℕ)) (x : List ℕ) (b : Bool) → list_any (bytes_eq x) names ≡ b → list_any (bytes_eq x) (if b then names else names ++ x ∷ []) ≡ true
added names x true e = e
added names x false e =
    list_any-append (bytes_eq x) names (x ∷ []) ∙ or_right (list_any (bytes_eq x) names) (bytes_eq x x || false) (ap (λ (b : Bool). b || false) (nat_list_eq_equiv.refl x))

-- a location's name stands among the names
abbrev pub Stands : List (List ℕ) → PlaceView → Type 0
Stands names (Location x) = list_any (bytes_eq x) names ≡ true
Stands names (Register t r) = ⊤

pub stand_from : (names : List (List ℕ)) (ps more : List PlaceView) → AllByRecursion (Stands (fold with_name names (filter_map location_name (ps ++ more)))) ps
stand_from names [] more = tt
stand_from names (Location x ∷ ps) more = (
  kept (bytes_eq x) (with_name names x) (filter_map location_name (ps ++ more)) (added names x (list_any (bytes_eq x) names) refl),
  stand_from (with_name names x) ps more,
)
stand_from names (Register t r ∷ ps) more = (tt, stand_from names ps more)

pub entries_stand : (body : BodyView) (ending : EndingView) → AllByRecursion (Stands (names_of body ending).locations) (map entry_place body.entries)
entries_stand body ending = stand_from [] (map entry_place body.entries) (flat_map row_places body.rows ++ (ending.observed ++ flat_map sign_places ending.signs))
