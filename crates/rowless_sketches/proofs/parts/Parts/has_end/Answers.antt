use Rattle.rowless_sketches.proofs.Vocabulary.{◌∙◌, sym}
use Rattle.rowless_sketches.proofs.MemoryEnds.{later_test}
use Rattle.rowless_sketches.proofs.parts.Parts.has_end.Goals as goal

pub returns-else-value-held : goal.returns-else-value-held
returns-else-value-held c =
    let (within, held) = c.in-Some-get.ensures.lookup.3 in
    later_test c.args.self.now c.args.shown.now c.args.memory.now c.args.event c.args.x c.requires.access c.has_later.result c.has_later.ensures c.requires.other c.in-Some.value c.in-Some.is within
    (λ same. c.if-value-held.false (c.value.ensures ∙ same ∙ sym (held 0)))
