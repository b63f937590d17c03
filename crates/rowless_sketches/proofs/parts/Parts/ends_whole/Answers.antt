use Rattle.rowless_sketches.proofs.Vocabulary.{◌≡◌, ◌∙◌, true, false, sym}
use Rattle.rowless_sketches.proofs.parts.Parts.ends_whole.Goals as goal

pub returns-then-not-is_whole : goal.returns-then-not-is_whole
returns-then-not-is_whole c = (λ t. absurd (let f : false ≡ true = t in cc), λ ends. sym c.if-not-is_whole.true ∙ c.is_whole.ensures.1 ends.0)

pub returns : goal.returns
returns c = (λ t. (c.is_whole.ensures.0 c.if-not-is_whole.false, c.ends_in.ensures.0 t), λ ends. c.ends_in.ensures.1 ends.1)
