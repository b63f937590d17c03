use Rattle.outcome_text.proofs.Vocabulary.{◌≡◌, take, join_with_byte, texts}
use Rattle.outcome_text.proofs.outcome.join.Given as goal

-- the items so far, joined
abbrev pub invariant-loop-index : goal.invariant-loop-index
invariant-loop-index l = l.text.items ≡ join_with_byte 32 (texts (take l.index l.items))
