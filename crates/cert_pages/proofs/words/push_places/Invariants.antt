use Rattle.cert_pages.proofs.Vocabulary.{◌≡◌, ◌++◌, map, numbers_of_set, texts_of, spaced, place_word}
use Rattle.cert_pages.proofs.words.push_places.Given as goal

-- the text so far, and that of the places to come
abbrev pub invariant-loop-place : goal.invariant-loop-place
invariant-loop-place l = l.out.items ++ texts_of spaced (map place_word l.place-iterator) ≡ l.fn.out.items ++ texts_of spaced (map place_word (numbers_of_set l.names))
