use Rattle.text_tokens.proofs.Vocabulary.{◌∙◌, sym, ap, arith, length, inl}
use Rattle.text_tokens.proofs.Fronts.{unfinished, stray_mark}
use Rattle.text_tokens.proofs.lexer.mark_front.Goals as goal

pub returns-then-bytes-text : goal.returns-then-bytes-text
returns-then-bytes-text c = inl (unfinished c.args.bytes.now c.args.mark c.requires.some c.requires.first (omega (arith, ap length c.text-text.ensures)))

pub returns-else-bytes-text : goal.returns-else-bytes-text
returns-else-bytes-text c = stray_mark c.args.bytes.now c.args.mark c.text-text.result.now c.requires.some c.requires.first c.text-text.ensures (sym c.starts_with.ensures.value ∙ c.if-starts_with.false) (omega arith)
