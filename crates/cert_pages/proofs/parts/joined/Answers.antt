use Rattle.cert_pages.proofs.Vocabulary.{◌++◌, ◌∷◌, [], subst, sym}
use Rattle.cert_pages.proofs.PartLaws.{IsTextOf, no_part, one_part}
use Rattle.cert_pages.proofs.parts.joined.Goals as goal

pub loop-part-init : goal.loop-part-init
loop-part-init c = subst (IsTextOf []) (sym c.new-text.ensures) no_part

pub loop-part-preserved : goal.loop-part-preserved
loop-part-preserved c =
    subst (IsTextOf (c.loop-part.yielded ++ c.in-Some.part ∷ [])) (sym c.in_ok-append.ensures)
    (one_part c.loop-part.yielded c.in-Some.part c.loop-part.text _ c.in_ok-into_text.ensures c.loop-part.invariant)
