use Rattle.cost_text.proofs.Vocabulary.{map, take, IsTableOfLines}
use Rattle.cost_text.proofs.reader.entries_of.Given as goal

-- the table has what the lines so far say
abbrev pub invariant-loop-index : goal.invariant-loop-index
invariant-loop-index l = IsTableOfLines l.program.threads (take l.index (map (λ line. line.now) l.lines)) l.entries.items
