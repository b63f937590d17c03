use Rattle.cert_pages.proofs.Vocabulary.{◌≡◌, ◌++◌, map, decimal, numbers_of_set, texts_of, spaced}
use Rattle.cert_pages.proofs.words.push_gap_numbers.Given as goal

-- the text so far, and that of the gaps to come
abbrev pub invariant-loop-gap : goal.invariant-loop-gap
invariant-loop-gap l = l.out.items ++ texts_of spaced (map decimal l.gap-iterator) ≡ l.fn.out.items ++ texts_of spaced (map decimal (numbers_of_set l.fn.set))
