use Rattle.fencer_words.proofs.Vocabulary.{map, take, AreThreadTexts}
use Rattle.fencer_words.proofs.fences.threads_in.Given as goal

-- the threads of the texts so far
abbrev pub invariant-loop-text : goal.invariant-loop-text
invariant-loop-text l = AreThreadTexts (map (λ text. text.now) (take l.text-index l.texts)) l.threads.items
