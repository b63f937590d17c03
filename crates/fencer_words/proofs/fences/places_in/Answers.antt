use Rattle.fencer_words.proofs.Vocabulary.{◌≡◌, ◌∙◌, ◌++◌, List, [], ◌∷◌, ℕ, Bor, map, take, drop, suc, subst, sym, true, false, map_more, list_any, is_same_place, ArePlaceTexts}
use Rattle.std.proofs.lemmas.Map.Keys.{IsDistinct-push}
use Rattle.fencer_words.proofs.PlaceTexts.{at_index, no_place_there, none_twice, one_more, places_are_compared, there_twice}
use Rattle.fencer_words.proofs.fences.places_in.Goals as goal

pub loop-text-init : goal.loop-text-init
loop-text-init c = rw c.new-places.ensures.items (tt, none_twice)

pub returns-then-is_among-clause-none : goal.returns-then-is_among-clause-none
returns-then-is_among-clause-none c = λ places are apart.
    let texts = c.args.texts.now in
    let i = c.loop-text.text-index in
    let now : Bor (List ℕ) → List ℕ = λ text. text.now in
    let there : list_any (is_same_place c.in-Some.place) c.loop-text.places.items ≡ true = sym (rw c.as_slice.ensures.value at c.is_among.ensures) ∙ c.if-is_among.true in
    there_twice (map now (take i texts)) (map now (drop (suc i) texts)) _ c.loop-text.places.items places c.in-Some.place c.loop-text.invariant.0 (rw c.in-Some.is at c.in_ok-place.ensures.some) there
    (at_index now texts i _ places c.loop-text-test.true are) apart

pub returns-in-None-clause-none : goal.returns-in-None-clause-none
returns-in-None-clause-none c = λ places are apart.
    let texts = c.args.texts.now in
    let i = c.loop-text.text-index in
    let now : Bor (List ℕ) → List ℕ = λ text. text.now in
    no_place_there (map now (take i texts)) (map now (drop (suc i) texts)) _ c.loop-text.places.items places c.loop-text.invariant.0 (rw c.in-None.is at c.in_ok-place.ensures.none)
    (at_index now texts i _ places c.loop-text-test.true are)

pub loop-text-preserved : goal.loop-text-preserved
loop-text-preserved c =
    let texts = c.args.texts.now in
    let i = c.loop-text.text-index in
    let now : Bor (List ℕ) → List ℕ = λ text. text.now in
    let place = c.in-Some.place in
    let before = c.loop-text.places.items in
    let absent : list_any (is_same_place place) before ≡ false = sym (rw c.as_slice.ensures.value at c.is_among.ensures) ∙ c.if-is_among.false in
    rw c.in_ok-push-in-Some.ensures.items (
      subst (λ (ts : List (List ℕ)). ArePlaceTexts ts (before ++ place ∷ [])) (sym (map_more now texts i _ c.loop-text-test.true))
          (one_more (map now (take i texts)) before _ place c.loop-text.invariant.0 (rw c.in-Some.is at c.in_ok-place.ensures.some)),
      IsDistinct-push places_are_compared before place c.loop-text.invariant.1 absent,
    )
