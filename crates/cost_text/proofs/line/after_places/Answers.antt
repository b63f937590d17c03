use Rattle.cost_text.proofs.Vocabulary.{[], ◌∷◌, sym, begun, ended, digits_of}
use Rattle.cost_text.proofs.line.after_places.Goals as goal

pub loop-after-preserved : goal.loop-after-preserved
loop-after-preserved c places end reads = c.loop-after.invariant (digits_of c.in-Some.field-0-0 ∷ places) end (begun (sym c.in-Some.ensures.value) reads)

pub returns : goal.returns
returns c = c.loop-after.invariant [] c.loop-after.rest.now (ended (sym c.in_default.ensures.value))
