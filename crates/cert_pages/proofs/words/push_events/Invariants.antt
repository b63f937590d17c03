use Rattle.cert_pages.proofs.Vocabulary.{◌≡◌, ◌++◌, map, texts_of, spaced, access_word}
use Rattle.cert_pages.proofs.words.push_events.Given as goal

-- the text so far, and that of the accesses to come
abbrev pub invariant-loop-event : goal.invariant-loop-event
invariant-loop-event l =
    l.out.items ++ texts_of spaced (map access_word l.event-iterator) ≡ l.fn.out.items ++ texts_of spaced (map access_word l.fn.events)
