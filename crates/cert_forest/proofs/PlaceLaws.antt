-- The words of registers and locations: what the reader takes of each, and that it takes each again.
use Rattle.cert_forest.proofs.Vocabulary.{◌≡◌, ℕ, ◌+◌, ◌-◌, ◌/◌, ◌%◌, ◌<◌, ◌≤◌, ◌==◌, ◌&&◌, Bool, true, false, cond, List, [], ◌∷◌, ◌++◌, Some, None, refl, sym, ap, subst, ◌∙◌, arith, inl, inr, nat_lt, nat_le, and_parts, eqb-true, leb-true, le-leb, lt-ltb}
use Rattle.cert_forest.proofs.Vocabulary.{le-ltb, cases_lt, ne_eqb, list_all, decimal, decimal_digit, spaced, ◌>>=◌, is_inner, bind_some, cond_some, same_Some, IsExact, spaced_exact, register_place, location_place, REGISTER_PLACES, PLACES, register_word}
use Rattle.cert_forest.proofs.Vocabulary.{location_word, place_word, digit_of, shown_location, register_of, shown_place, place_word_at}
use Rattle.tso_program.specs.{declared.instruction.TheConstants.REGISTERS, declared.limits.TheConstants.MAX_THREADS, declared.limits.TheConstants.MAX_LOCATIONS}

-- ---- digits

digit_takes : (limit b d : ℕ) → limit < 10 → digit_of limit b ≡ Some d → (b ∷ [] ≡ decimal d) × (d ≤ limit)
digit_takes limit b d few e =
    let g = cond_some (nat_le 48 b && nat_le b (48 + limit)) (b - 48) d e in
    let both = and_parts (nat_le 48 b) (nat_le b (48 + limit)) g.0 in
    let low : 48 ≤ b = leb-true 48 b both.0 in
    let high : b ≤ 48 + limit = leb-true b (48 + limit) both.1 in
    let is : b - 48 ≡ d = g.1 in
    let small : d < 10 = omega arith in
    let first : b ≡ 48 + d = omega arith in
    ((λ i. first i ∷ []) ∙ sym (decimal_digit d small), omega arith)

digit_again : (limit d : ℕ) → d ≤ limit → digit_of limit (48 + d) ≡ Some d
digit_again limit d fits =
    let low : nat_le 48 (48 + d) ≡ true = le-leb 48 (48 + d) (omega arith) in
    let high : nat_le (48 + d) (48 + limit) ≡ true = le-leb (48 + d) (48 + limit) (omega arith) in
    let back : (48 + d) - 48 ≡ d = omega arith in
    rw (low, high) (ap Some back)

-- ---- places

location_at : (l : ℕ) → place_word (location_place l) ≡ location_word l
location_at l =
    let later : nat_lt (location_place l) REGISTER_PLACES ≡ false = le-ltb (location_place l) REGISTER_PLACES (omega arith) in
    let back : location_place l - REGISTER_PLACES ≡ l = omega arith in
    rw later (ap location_word back)

register_at : (t r : ℕ) → t < MAX_THREADS → r < REGISTERS → place_word (register_place t r) ≡ register_word t r
register_at t r thread register =
    let sooner : nat_lt (register_place t r) REGISTER_PLACES ≡ true = lt-ltb (register_place t r) REGISTER_PLACES (omega arith) in
    let over : register_place t r / REGISTERS ≡ t = omega arith in
    let left : register_place t r % REGISTERS ≡ r = omega arith in
    rw sooner (λ i. register_word (over i) (left i))

abbrev IsOf : List ℕ → ℕ → Type 0
IsOf word place = (word ≡ place_word place) × (place < PLACES)

location_takes : (a b p : ℕ) → shown_location a b ≡ Some p → IsOf (a ∷ (b ∷ [])) p
location_takes a b p e = by_test (a == 108) refl e
  where
    by_test : (t : Bool) → (a == 108) ≡ t → cond t (digit_of (MAX_LOCATIONS - 1) b >>= λ l. Some (location_place l)) None ≡ Some p → IsOf (a ∷ (b ∷ [])) p
    by_test false q h = absurd cc
    by_test true q h =
        let u = bind_some (digit_of (MAX_LOCATIONS - 1) b) (λ l. Some (location_place l)) p h in
        let d = digit_takes (MAX_LOCATIONS - 1) b u.0 (omega arith) u.1 in
        let first : a ≡ 108 = eqb-true a 108 q in
        let word : a ∷ (b ∷ []) ≡ location_word u.0 = λ i. first i ∷ d.0 i in
        let small : location_place u.0 < PLACES = omega (arith, d.1) in
        subst (IsOf (a ∷ (b ∷ []))) (same_Some (location_place u.0) p u.2) (word ∙ sym (location_at u.0), small)

register_takes : (a b c d p : ℕ) → register_of a b c d ≡ Some p → IsOf (a ∷ (b ∷ (c ∷ (d ∷ [])))) p
register_takes a b c d p e = by_test (a == 114 && c == 46) refl e
  where
    by_test : (t : Bool) → (a == 114 && c == 46) ≡ t → cond t (digit_of (MAX_THREADS - 1) b >>= λ x. digit_of (REGISTERS - 1) d >>= λ y. Some (register_place x y)) None ≡ Some p → IsOf (a ∷ (b ∷ (c ∷ (d ∷ [])))) p
    by_test false q h = absurd cc
    by_test true q h =
        let both = and_parts (a == 114) (c == 46) q in
        let u = bind_some (digit_of (MAX_THREADS - 1) b) (λ x. digit_of (REGISTERS - 1) d >>= λ y. Some (register_place x y)) p h in
        let v = bind_some (digit_of (REGISTERS - 1) d) (λ y. Some (register_place u.0 y)) p u.2 in
        let t = digit_takes (MAX_THREADS - 1) b u.0 (omega arith) u.1 in
        let r = digit_takes (REGISTERS - 1) d v.0 (omega arith) v.1 in
        let first : a ≡ 114 = eqb-true a 114 both.0 in
        let stop : c ≡ 46 = eqb-true c 46 both.1 in
        let word : a ∷ (b ∷ (c ∷ (d ∷ []))) ≡ register_word u.0 v.0 = λ i. first i ∷ (t.0 i ++ stop i ∷ r.0 i) in
        let small : register_place u.0 v.0 < PLACES = omega (arith, t.1, r.1) in
        subst (IsOf (a ∷ (b ∷ (c ∷ (d ∷ []))))) (same_Some (register_place u.0 v.0) p v.2) (word ∙ sym (register_at u.0 v.0 (omega (arith, t.1)) (omega (arith, r.1))), small)

place_takes : (word : List ℕ) (p : ℕ) → shown_place word ≡ Some p → IsOf word p
place_takes (a ∷ (b ∷ [])) p e = location_takes a b p e
place_takes (a ∷ (b ∷ (c ∷ (d ∷ [])))) p e = register_takes a b c d p e
place_takes word p e = absurd cc

-- what holds of the word of a register, and of that of a location, holds of that of a place
by_place : (P : ℕ → Type 0) → ((t r : ℕ) → t < MAX_THREADS → r < REGISTERS → P (register_place t r)) → ((l : ℕ) → l < MAX_LOCATIONS → P (location_place l)) → (p : ℕ) → p < PLACES → P p
by_place P register location p small = elim (cases_lt p REGISTER_PLACES) [
  | inl sooner ↦
      let is : register_place (p / REGISTERS) (p % REGISTERS) ≡ p = omega arith in
      subst P is (register (p / REGISTERS) (p % REGISTERS) (omega arith) (omega arith))
  | inr later ↦
      let is : location_place (p - REGISTER_PLACES) ≡ p = omega arith in
      subst P is (location (p - REGISTER_PLACES) (omega arith))
]

place_again : (p : ℕ) → p < PLACES → shown_place (place_word p) ≡ Some p
place_again = by_place (λ p. shown_place (place_word p) ≡ Some p) register location
  where
    register : (t r : ℕ) → t < MAX_THREADS → r < REGISTERS → shown_place (place_word (register_place t r)) ≡ Some (register_place t r)
    register t r thread fits =
        let one : decimal t ≡ (48 + t) ∷ [] = decimal_digit t (omega arith) in
        let two : decimal r ≡ (48 + r) ∷ [] = decimal_digit r (omega arith) in
        ap shown_place (register_at t r thread fits ∙ (λ i. 114 ∷ (one i ++ 46 ∷ two i)))
        ∙ rw (digit_again (MAX_THREADS - 1) t (omega arith), digit_again (REGISTERS - 1) r (omega arith)) refl

    location : (l : ℕ) → l < MAX_LOCATIONS → shown_place (place_word (location_place l)) ≡ Some (location_place l)
    location l fits =
        let one : decimal l ≡ (48 + l) ∷ [] = decimal_digit l (omega arith) in
        ap shown_place (location_at l ∙ (λ i. 108 ∷ one i)) ∙ rw (digit_again (MAX_LOCATIONS - 1) l (omega arith)) refl

digit_inner : (d : ℕ) → d < 10 → is_inner (48 + d) ≡ true
digit_inner d fits =
    let space : ((48 + d) == 32) ≡ false = ne_eqb (48 + d) 32 (λ e. omega arith) in
    let end : ((48 + d) == 10) ≡ false = ne_eqb (48 + d) 10 (λ e. omega arith) in
    rw (space, end) refl

place_inner : (p : ℕ) → p < PLACES → list_all is_inner (place_word p) ≡ true
place_inner = by_place (λ p. list_all is_inner (place_word p) ≡ true) register location
  where
    register : (t r : ℕ) → t < MAX_THREADS → r < REGISTERS → list_all is_inner (place_word (register_place t r)) ≡ true
    register t r thread fits =
        let one : decimal t ≡ (48 + t) ∷ [] = decimal_digit t (omega arith) in
        let two : decimal r ≡ (48 + r) ∷ [] = decimal_digit r (omega arith) in
        ap (list_all is_inner) (register_at t r thread fits ∙ (λ i. 114 ∷ (one i ++ 46 ∷ two i)))
        ∙ rw (digit_inner t (omega arith), digit_inner r (omega arith)) refl

    location : (l : ℕ) → l < MAX_LOCATIONS → list_all is_inner (place_word (location_place l)) ≡ true
    location l fits =
        let one : decimal l ≡ (48 + l) ∷ [] = decimal_digit l (omega arith) in
        ap (list_all is_inner) (location_at l ∙ (λ i. 108 ∷ one i)) ∙ rw (digit_inner l (omega arith)) refl

abbrev pub place_text : ℕ → List ℕ
place_text p = spaced (place_word p)

pub place_exact : IsExact place_word_at place_text (λ p. p < PLACES)
unfolding place_word_at
place_exact =
    let s = spaced_exact shown_place place_word (λ p. p < PLACES) (λ w p e. place_takes w p e) place_again place_inner in
    record { takes = s.takes; again = s.again; starts = s.starts }
