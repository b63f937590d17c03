use Rattle.answers.proofs.Vocabulary.{refl, IfOk-weaker, prints_made, PrintsRefusal}
use Rattle.answers.proofs.refused.tell_refusal.Goals as goal

pub returns : goal.returns
returns g c =
    prints_made c.refusal_text-text.result 1 (PrintsRefusal c.args.json c.args.line) _ _ c.refuse.result
    (IfOk-weaker c.refusal_text-text.result _ _ (λ text is. (refl, is)) c.refusal_text-text.ensures) c.refuse.ensures
