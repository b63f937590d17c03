use Rattle.cert_pages.proofs.Vocabulary.{◌≡◌, ◌++◌, map, take, spelling, texts_of, spaced}
use Rattle.cert_pages.proofs.words.push_labels.Given as goal

abbrev pub invariant-loop-label : goal.invariant-loop-label
invariant-loop-label l = l.out.items ≡ l.fn.out.items ++ texts_of spaced (map spelling (take l.label-index l.labels))
