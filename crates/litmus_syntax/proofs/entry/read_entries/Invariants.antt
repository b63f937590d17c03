use Rattle.litmus_syntax.proofs.Vocabulary.{map, length, toks, entry_view}
use Rattle.litmus_syntax.proofs.EntryLaws.{EntriesSoFar}
use Rattle.litmus_syntax.proofs.entry.read_entries.Given as goal

abbrev pub invariant-loop-alloc : goal.invariant-loop-alloc
invariant-loop-alloc l = EntriesSoFar (toks l.tokens) (map entry_view l.entries.items) (toks l.rest) l.seen

abbrev pub decreases-loop-alloc : goal.decreases-loop-alloc
decreases-loop-alloc l = length l.rest
