use Rattle.cert_pages.proofs.Vocabulary.{◌∷◌, [], ◌<◌, length, subst, sym, List, arith, Cover, spell_all, TreePart, LeadTo}
use Rattle.std.proofs.lemmas.Bool.{iff_false}
use Rattle.cert_pages.proofs.PartLaws.{after_is_shorter, one_part_more}
use Rattle.cert_pages.proofs.parts.parts_of.Goals as goal

pub loop-walk-smaller : goal.loop-walk-smaller
loop-walk-smaller c =
    subst (λ (left : List Cover). length (spell_all left) < length (spell_all c.loop-walk.walk)) (sym c.pass_nodes.ensures)
    (after_is_shorter _ c.loop-walk.walk (iff_false c.is_done.ensures c.loop-walk-test.true) (omega arith))

pub loop-walk-preserved : goal.loop-walk-preserved
loop-walk-preserved c =
    subst (λ (parts : List TreePart). LeadTo (c.args.tree.now ∷ []) parts c.pass_nodes.new.walk) (sym c.in_ok-push.ensures.items)
    (one_part_more (c.args.tree.now ∷ []) c.loop-walk.parts.items _ c.loop-walk.walk c.pass_nodes.new.walk c.loop-walk.invariant c.ahead-start.ensures c.pass_nodes.ensures)
