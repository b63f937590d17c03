use Rattle.cert_pages.proofs.Vocabulary.{◌≡◌, ◌++◌, length, draft_text, texts_of, spell_gaps, gap_text, Whole}
use Rattle.cert_pages.proofs.writer.write_whole_gap.Given as goal

-- the text so far, and that of the trees to come
abbrev pub invariant-loop-walk : goal.invariant-loop-walk
invariant-loop-walk l = draft_text l.out ++ texts_of (gap_text Whole) l.walk ≡ draft_text l.fn.out ++ gap_text Whole l.tree

abbrev pub decreases-loop-walk : goal.decreases-loop-walk
decreases-loop-walk l = length (spell_gaps l.walk)
