use Rattle.exec_axioms.proofs.Vocabulary.{◌≡◌, ◌∙◌, true, false, sym}
use Rattle.exec_axioms.proofs.OnlyOutcome.{need_whole}
use Rattle.exec_axioms.proofs.sketch.Sketch.must_end_whole.Goals as goal

pub returns-else-is_whole-clause-end : goal.returns-else-is_whole-clause-end
returns-else-is_whole-clause-end c =
    need_whole c.args.self.now c.args.shown.now c.requires (λ whole. let yes = c.is_whole.ensures.1 whole in let no : true ≡ false = sym yes ∙ c.if-is_whole.false in cc)
