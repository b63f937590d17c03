use Rattle.text_tokens.proofs.Vocabulary.{ℕ, List, length, IsAfterSpace}
use Rattle.text_tokens.proofs.space.after_space.Given as goal

-- what follows white space and comments in the rest follows them in the whole, and the other way round
abbrev pub invariant-loop-rest : goal.invariant-loop-rest
invariant-loop-rest l = record {
  forth : (end : List ℕ) → IsAfterSpace l.rest end → IsAfterSpace l.bytes end;
  back : (end : List ℕ) → IsAfterSpace l.bytes end → IsAfterSpace l.rest end;
}

abbrev pub decreases-loop-rest : goal.decreases-loop-rest
decreases-loop-rest l = length l.rest
