use Rattle.cert_pages.proofs.Vocabulary.{◌≡◌, ◌++◌, length, draft_text, spell_gaps, gap_text, Early}
use Rattle.cert_pages.proofs.WrittenNodes.{left_text}
use Rattle.cert_pages.proofs.writer.write_early_gap.Given as goal

-- the text so far, and that of the trees to come, of the first of which some may be written
abbrev pub invariant-loop-walk : goal.invariant-loop-walk
invariant-loop-walk l = draft_text l.out ++ left_text l.inside l.walk ≡ draft_text l.fn.out ++ gap_text Early l.tree

abbrev pub decreases-loop-walk : goal.decreases-loop-walk
decreases-loop-walk l = length (spell_gaps l.walk)
