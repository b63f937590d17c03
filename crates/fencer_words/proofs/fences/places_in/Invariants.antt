use Rattle.fencer_words.proofs.Vocabulary.{map, take, IsDistinct, is_same_place, ArePlaceTexts}
use Rattle.fencer_words.proofs.fences.places_in.Given as goal

-- the places of the texts so far
abbrev pub invariant-loop-text : goal.invariant-loop-text
invariant-loop-text l = ArePlaceTexts (map (λ text. text.now) (take l.text-index l.texts)) l.places.items × IsDistinct is_same_place l.places.items
