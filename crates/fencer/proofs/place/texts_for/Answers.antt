use Rattle.fencer.proofs.Vocabulary.{List, Option, IfOk, subst, option_map, ℕ}
use Rattle.fencer.specs.Placements.{AreTextsFor}
use Rattle.fencer.proofs.place.texts_for.Goals as goal

pub returns-in-Some-clause-placed : goal.returns-in-Some-clause-placed
returns-in-Some-clause-placed g c =
    subst (λ (named : Option (List ℕ)). IfOk c.place_text.result (AreTextsFor named c.args.texts.now.litmus.items (option_map (λ text. text.items) c.args.texts.now.costs) c.args.asked.now.kind)) c.in-Some.ensures.value
    (rw (c.deref.ensures.value, c.as_deref-costs.ensures.value) at c.place_text.ensures.placed)
