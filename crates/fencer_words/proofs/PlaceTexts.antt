-- The places that texts spell.
use Rattle.fencer_words.proofs.Vocabulary.{◌≡◌, ◌∙◌, ◌==◌, ◌≤◌, ◌<◌, ◌^◌, ℕ, suc, true, false, List, [], ◌∷◌, ◌++◌, length, map, take, drop, get_or, inl, inr, ap, ap₂, arith, refl, sym, subst, AllByRecursion, IsDistinct, list_any, map-append, Text, Place}
use Rattle.fencer_words.proofs.Vocabulary.{place_numbers, is_same_place, ArePlaceTexts, IsPlaceText}
use Rattle.std.specs.Cmp.{IsEquivalence}
use Rattle.std.proofs.Math.Seq.{split_at}
use Rattle.std.proofs.lemmas.Bool.{and_parts, cases_Bool, eqb-true}
use Rattle.std.proofs.lemmas.Bool.Decides.{nat_tests}
use Rattle.std.proofs.lemmas.Fmt.{decimal_injective}

-- one more place
pub one_more : (texts : List Text) (places : List Place) (text : Text) (place : Place) → ArePlaceTexts texts places → IsPlaceText text place → ArePlaceTexts (texts ++ text ∷ []) (places ++ place ∷ [])
one_more [] [] text place are is = (is, tt)
one_more [] (p ∷ places) text place are is = absurd are
one_more (t ∷ texts) [] text place are is = absurd are
one_more (t ∷ texts) (p ∷ places) text place are is = (are.0, one_more texts places text place are.1 is)

small : (n : ℕ) → n ≤ 255 → n < 2 ^ 64
small n le = omega arith

-- a text has one place
first : List Text → Text
first [] = []
first (text ∷ texts) = text

second : List Text → Text
second [] = []
second (text ∷ texts) = first texts

pub one_place : (text : Text) (p q : Place) → IsPlaceText text p → IsPlaceText text q → p ≡ q
unfolding first second
one_place text p q is is_too =
    let same : place_numbers p ≡ place_numbers q = sym is.spelled ∙ is_too.spelled in
    ap₂ (λ (t k : ℕ). (t, k)) (decimal_injective p.0 q.0 (small p.0 is.thread) (small q.0 is_too.thread) (ap first same)) (decimal_injective p.1 q.1 (small p.1 is.instruction) (small q.1 is_too.instruction) (ap second same))

-- the place of a text among others is one of theirs, after the places of the texts before it
pub record StandsAt (texts more : List Text) (text : Text) (before places : List Place) : Type 0 where
  pub place : Place
  pub is : IsPlaceText text place
  pub after : List Place
  pub places_are : places ≡ before ++ place ∷ after

pub stands_at : (texts more : List Text) (text : Text) (before places : List Place) → ArePlaceTexts texts before → ArePlaceTexts (texts ++ text ∷ more) places → StandsAt texts more text before places
stands_at [] more text [] [] are all = absurd all
stands_at [] more text [] (place ∷ places) are all = record { place = place; is = all.0; after = places; places_are = refl }
stands_at [] more text (b ∷ before) places are all = absurd are
stands_at (t ∷ texts) more text [] places are all = absurd are
stands_at (t ∷ texts) more text (b ∷ before) [] are all = absurd all
stands_at (t ∷ texts) more text (b ∷ before) (p ∷ places) are all =
    let rest = stands_at texts more text before places are.1 all.1 in
    record { place = rest.place; is = rest.is; after = rest.after; places_are = ap₂ (λ (x : Place) (xs : List Place). x ∷ xs) (one_place t p b all.0 are.0) rest.places_are }

-- a text among others that is no place's
pub no_place_there : (texts more : List Text) (text : Text) (before places : List Place) → ArePlaceTexts texts before → ((place : Place) → IsPlaceText text place → ⊥) → ArePlaceTexts (texts ++ text ∷ more) places → ⊥
no_place_there texts more text before places are none all = (let at = stands_at texts more text before places are all in none at.place at.is)

-- ---- places that are apart

same_is : (p q : Place) → is_same_place p q ≡ true → p ≡ q
same_is p q same =
    let parts = and_parts (p.0 == q.0) (p.1 == q.1) same in
    ap₂ (λ (t k : ℕ). (t, k)) (eqb-true p.0 q.0 parts.0) (eqb-true p.1 q.1 parts.1)

is_same : (p : Place) → is_same_place p p ≡ true
is_same p = grind (arith, nat_tests)

turned : (p q : Place) → is_same_place p q ≡ is_same_place q p
turned p q = elim (cases_Bool (is_same_place p q)) [
  | inl same ↦ ap₂ is_same_place (same_is p q same) (sym (same_is p q same))
  | inr differ ↦ elim (cases_Bool (is_same_place q p)) [
    | inl same ↦ ap₂ is_same_place (sym (same_is q p same)) (same_is q p same)
    | inr differ_too ↦ differ ∙ sym differ_too
  ]
]

pub places_are_compared : IsEquivalence is_same_place
places_are_compared = record {
  refl = is_same;
  symm = turned;
  congr = λ p q r same. ap (λ (x : Place). is_same_place x r) (same_is p q same);
}

pub none_twice : IsDistinct is_same_place []
unfolding IsDistinct
none_twice = tt

holds_there : (P : Place → Type 0) (before after : List Place) (place : Place) → AllByRecursion P (before ++ place ∷ after) → P place
holds_there P [] after place all = all.0
holds_there P (p ∷ before) after place all = holds_there P before after place all.1

not_twice : (before after : List Place) (place : Place) → IsDistinct is_same_place (before ++ place ∷ after) → list_any (is_same_place place) before ≡ true → ⊥
unfolding IsDistinct
not_twice [] after place apart there = cc
not_twice (p ∷ before) after place apart there = elim (cases_Bool (is_same_place place p)) [
  | inl same ↦ (let no : true ≡ false = sym same ∙ turned place p ∙ holds_there (λ q. is_same_place p q ≡ false) before after place apart.0 in cc)
  | inr differ ↦ not_twice before after place apart.1 (rw differ at there)
]

-- a text among others whose place an earlier one has
pub there_twice : (texts more : List Text) (text : Text) (before places : List Place) (place : Place) → ArePlaceTexts texts before → IsPlaceText text place → list_any (is_same_place place) before ≡ true
    → ArePlaceTexts (texts ++ text ∷ more) places → IsDistinct is_same_place places → ⊥
there_twice texts more text before places place are is there all apart =
    let at = stands_at texts more text before places are all in
    let same : at.place ≡ place = one_place text at.place place at.is is in
    not_twice before at.after place (subst (λ (ps : List Place). IsDistinct is_same_place ps) (at.places_are ∙ ap (λ (p : Place). before ++ p ∷ at.after) same) apart) there

-- the text at an index among the others
pub at_index : {X : Type 0} (text : X → Text) (xs : List X) (i : ℕ) (d : X) (places : List Place) → i < length xs → ArePlaceTexts (map text xs) places
    → ArePlaceTexts (map text (take i xs) ++ text (get_or xs i d) ∷ map text (drop (suc i) xs)) places
at_index text xs i d places within are =
    subst (λ (ts : List Text). ArePlaceTexts ts places) (ap (map text) (split_at xs i d within) ∙ map-append text (take i xs) (get_or xs i d ∷ drop (suc i) xs)) are
