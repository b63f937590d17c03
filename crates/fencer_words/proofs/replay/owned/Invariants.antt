use Rattle.fencer_words.proofs.Vocabulary.{◌≡◌, map, take, string_bytes}
use Rattle.fencer_words.proofs.replay.owned.Given as goal

-- the words so far have copies
abbrev pub invariant-loop-word : goal.invariant-loop-word
invariant-loop-word l = map string_bytes l.all.items ≡ map (λ word. word.now) (take l.word-index l.words)
