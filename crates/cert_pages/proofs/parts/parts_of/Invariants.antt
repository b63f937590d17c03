use Rattle.cert_pages.proofs.Vocabulary.{[], ◌∷◌, length, spell_all, LeadTo}
use Rattle.cert_pages.proofs.parts.parts_of.Given as goal

-- the parts so far, and the trees that are left
abbrev pub invariant-loop-walk : goal.invariant-loop-walk
invariant-loop-walk l = LeadTo (l.tree ∷ []) l.parts.items l.walk

abbrev pub decreases-loop-walk : goal.decreases-loop-walk
decreases-loop-walk l = length (spell_all l.walk)
