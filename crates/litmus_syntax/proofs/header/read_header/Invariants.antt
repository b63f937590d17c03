use Rattle.litmus_syntax.proofs.Vocabulary.{◌+◌, ◌≤◌, length, toks}
use Rattle.litmus_syntax.proofs.HeaderLaws.{ColumnsSoFar}
use Rattle.litmus_syntax.proofs.header.read_header.Given as goal

abbrev pub invariant-loop-alloc : goal.invariant-loop-alloc
invariant-loop-alloc l = record { columns : ColumnsSoFar (toks l.tokens) l.threads (toks l.rest); within : l.threads + length l.rest ≤ length l.tokens }

abbrev pub decreases-loop-alloc : goal.decreases-loop-alloc
decreases-loop-alloc l = length l.rest
