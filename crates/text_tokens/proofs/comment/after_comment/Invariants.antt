use Rattle.text_tokens.proofs.Vocabulary.{ℕ, List, ◌+◌, ◌<◌, ◌≤◌, length, Inside}
use Rattle.text_tokens.proofs.CommentLaws.{Open}
use Rattle.text_tokens.proofs.comment.after_comment.Given as goal

-- what ends the comments that are open ends the whole, and the other way round
abbrev pub invariant-loop-rest : goal.invariant-loop-rest
invariant-loop-rest l = record {
  forth : (end : List ℕ) → Open l.depth l.rest end → Inside l.bytes end;
  back : (end : List ℕ) → Inside l.bytes end → Open l.depth l.rest end;
  low : 0 < l.depth;
  room : l.depth + length l.rest ≤ length l.bytes + 1;
}

abbrev pub decreases-loop-rest : goal.decreases-loop-rest
decreases-loop-rest l = length l.rest
