use Rattle.rowless_sketches.proofs.Vocabulary.{sym, ◌∙◌, pair_by, not_by}
use Rattle.rowless_sketches.proofs.parts.Parts.is_pair.Goals as goal

pub returns-in-Some-access : goal.returns-in-Some-access
returns-in-Some-access c = pair_by c.args.self.now c.args.first c.args.second c.in-Some.x c.in-Some-access.y c.write_together.result
    (not_by _ _ c.is_same.ensures c.if-is_same.false) (not_by _ _ c.is_initial.ensures c.if-is_initial.false) (not_by _ _ c.is_initial-2.ensures c.if-is_initial-2.false)
    (sym c.access.ensures ∙ c.in-Some.is) (sym c.access-in-Some.ensures ∙ c.in-Some-access.is) c.write_together.ensures
