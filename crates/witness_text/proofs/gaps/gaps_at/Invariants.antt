use Rattle.witness_text.proofs.Vocabulary.{take, AreGapsAt}
use Rattle.witness_text.proofs.gaps.gaps_at.Given as goal

-- the gaps at the places so far
abbrev pub invariant-loop-place : goal.invariant-loop-place
invariant-loop-place l = AreGapsAt l.program.threads (take l.place-index l.places) l.gaps
