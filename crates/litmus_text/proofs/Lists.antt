-- Facts of every element of a list.
use Rattle.litmus_text.proofs.Vocabulary.{◌≡◌, ℕ, ◌+◌, ◌<◌, ◌≤◌, zero, suc, Bool, true, ◌||◌, List, [], ◌∷◌, ◌++◌, length, map, Option, Some, None, refl, sym, ap, ◌∙◌, arith, or-true, slice_get, AllByRecursion, list_any, flat_map, filter_map, cons_option}
use Rattle.litmus_text.proofs.Vocabulary.{IfSome, range_with_len, add-zero, slice_get-get_or, length-map-range_with_len, get_or-map-range_with_len}
pub use Rattle.litmus_reader.proofs.Elements.{all_more_so, all_of_both}

pub both_of_all : {X : Type 0} (P : X → Type 0) (xs ys : List X) → AllByRecursion P (xs ++ ys) → AllByRecursion P xs × AllByRecursion P ys
both_of_all P [] ys h = (tt, h)
both_of_all P (x ∷ xs) ys h = let rest = both_of_all P xs ys h.1 in ((h.0, rest.0), rest.1)

-- what each element gives
pub all_mapped : {X Y : Type 0} (P : X → Type 0) (Q : Y → Type 0) (f : X → Y) → ((x : X) → P x → Q (f x)) → (xs : List X) → AllByRecursion P xs → AllByRecursion Q (map f xs)
all_mapped P Q f so [] h = tt
all_mapped P Q f so (x ∷ xs) h = (so x h.0, all_mapped P Q f so xs h.1)

pub all_given : {X Y : Type 0} (P : X → Type 0) (Q : Y → Type 0) (f : X → List Y) → ((x : X) → P x → AllByRecursion Q (f x)) → (xs : List X) → AllByRecursion P xs → AllByRecursion Q (flat_map f xs)
all_given P Q f so [] h = tt
all_given P Q f so (x ∷ xs) h = all_of_both Q (f x) (flat_map f xs) (so x h.0) (all_given P Q f so xs h.1)

-- the element at a place
pub all_at : {X : Type 0} (P : X → Type 0) (xs : List X) (k : ℕ) → AllByRecursion P xs → IfSome (slice_get xs k) P
all_at P [] k h = tt
all_at P (x ∷ xs) zero h = h.0
all_at P (x ∷ xs) (suc k) h = all_at P xs k h.1

pub all_with : {X : Type 0} (P : X → Type 0) (o : Option X) (xs : List X) → IfSome o P → AllByRecursion P xs → AllByRecursion P (cons_option o xs)
all_with P None xs h g = g
all_with P (Some x) xs h g = (h, g)

pub all_of_range : {X : Type 0} (P : X → Type 0) (f : ℕ → X) → ((k : ℕ) → P (f k)) → (a n : ℕ) → AllByRecursion P (map f (range_with_len a n))
all_of_range P f each a zero = tt
all_of_range P f each a (suc n) = (each a, all_of_range P f each (a + 1) n)

-- functions that agree on a list
pub map_same : {X Y : Type 0} (f g : X → Y) (xs : List X) → AllByRecursion (λ x. f x ≡ g x) xs → map f xs ≡ map g xs
map_same f g [] h = refl
map_same {Y = Y} f g (x ∷ xs) h = ap (λ (y : Y). y ∷ map f xs) h.0 ∙ ap (λ (ys : List Y). g x ∷ ys) (map_same f g xs h.1)

-- each element is among the list
pub each_among : {X : Type 0} (alike : X → X → Bool) → ((x : X) → alike x x ≡ true) → (xs : List X) → AllByRecursion (λ x. list_any (λ y. alike y x) xs ≡ true) xs
each_among alike itself [] = tt
each_among {X} alike itself (x ∷ xs) = (
  ap (λ (b : Bool). b || list_any (λ y. alike y x) xs) (itself x),
  all_more_so (λ y. list_any (λ z. alike z y) xs ≡ true) (λ y. list_any (λ z. alike z y) (x ∷ xs) ≡ true)
      (λ y h. ap (λ (b : Bool). alike x y || b) h ∙ or-true (alike x y)) xs (each_among alike itself xs),
)

-- the element at a place of a list that is made by number
pub made_at : {X : Type 0} (f : ℕ → X) (n k : ℕ) → k < n → slice_get (map f (range_with_len 0 n)) k ≡ Some (f k)
made_at {X} f n k lt =
    let xs : List X = map f (range_with_len 0 n) in
    let count : length xs ≡ n = length-map-range_with_len f 0 n in
    let within : k < length xs = omega (arith, count) in
    slice_get-get_or xs k (f k) within ∙ ap (λ (x : X). Some x) (get_or-map-range_with_len f 0 n k k (f k) lt (omega arith))

-- a list by its places
pub by_places : {X : Type 0} (f : ℕ → Option X) (xs : List X) (a n : ℕ) → ((k : ℕ) → f (a + k) ≡ slice_get xs k) → length xs ≤ n → filter_map f (range_with_len a n) ≡ xs
by_places f [] a zero at le = refl
by_places f (x ∷ xs) a zero at le = absurd (omega (arith, le))
by_places {X} f [] a (suc n) at le =
    let first : f a ≡ None = ap f (sym (add-zero a)) ∙ at 0 in
    let next : (k : ℕ) → f ((a + 1) + k) ≡ None = λ k. let same : (a + 1) + k ≡ a + suc k = omega arith in ap f same ∙ at (suc k) in
    ap (λ (o : Option X). cons_option o (filter_map f (range_with_len (a + 1) n))) first ∙ by_places f [] (a + 1) n next (omega arith)
by_places {X} f (x ∷ xs) a (suc n) at le =
    let first : f a ≡ Some x = ap f (sym (add-zero a)) ∙ at 0 in
    let next : (k : ℕ) → f ((a + 1) + k) ≡ slice_get xs k = λ k. let same : (a + 1) + k ≡ a + suc k = omega arith in ap f same ∙ at (suc k) in
    ap (λ (o : Option X). cons_option o (filter_map f (range_with_len (a + 1) n))) first ∙ ap (λ (ys : List X). x ∷ ys) (by_places f xs (a + 1) n next (omega (arith, le)))
