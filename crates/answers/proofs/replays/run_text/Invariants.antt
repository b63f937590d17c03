use Rattle.answers.proofs.Vocabulary.{◌≡◌, take, label_words_text}
use Rattle.answers.proofs.replays.run_text.Given as goal

-- the words so far are written
abbrev pub invariant-loop-word : goal.invariant-loop-word
invariant-loop-word l = l.text.items ≡ label_words_text (take l.word-index l.words)
