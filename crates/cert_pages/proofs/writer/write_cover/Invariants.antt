use Rattle.cert_pages.proofs.Vocabulary.{◌≡◌, ◌++◌, length, draft_text, spell_all, cover_text}
use Rattle.cert_pages.proofs.WrittenNodes.{trees_text}
use Rattle.cert_pages.proofs.writer.write_cover.Given as goal

-- the text so far, and that of the trees to come
abbrev pub invariant-loop-walk : goal.invariant-loop-walk
invariant-loop-walk l = draft_text l.out ++ trees_text l.walk ≡ draft_text l.fn.out ++ cover_text l.tree

abbrev pub decreases-loop-walk : goal.decreases-loop-walk
decreases-loop-walk l = length (spell_all l.walk)
