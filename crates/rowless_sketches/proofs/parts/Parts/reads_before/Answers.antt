use Rattle.rowless_sketches.proofs.Vocabulary.{sym, ◌∙◌, subst, same_Some, none-some, KnownFromReads, IsBefore, no, not_by}
use Rattle.rowless_sketches.proofs.parts.Parts.reads_before.Goals as goal

pub returns-in-None : goal.returns-in-None
returns-in-None c = no (KnownFromReads c.args.self.now.chosen c.args.read c.args.second c.args.write)
    (λ h. none-some h.0 (sym c.in-None.is ∙ (c.source.ensures h.0).1 h.1))

pub returns-then-not-is_same : goal.returns-then-not-is_same
returns-then-not-is_same c = (
  λ t. (c.in-Some.source, (c.source.ensures c.in-Some.source).0 c.in-Some.is, c.is_before.ensures.0 t, not_by _ _ c.is_same.ensures c.if-not-is_same.true),
  λ h. (let same = same_Some c.in-Some.source h.0 (sym c.in-Some.is ∙ (c.source.ensures h.0).1 h.1) in
      c.is_before.ensures.1 (subst (λ s. IsBefore c.args.self.now.chosen s c.args.second c.args.write) (sym same) h.2)),
)
