use Rattle.text_tokens.proofs.Vocabulary.{◌∙◌, sym, slice_index}
use Rattle.text_tokens.proofs.{FirstBytes.no_word_byte, Fronts.stray_byte}
use Rattle.text_tokens.proofs.lexer.front_of.Goals as goal

pub returns-in-None : goal.returns-in-None
returns-in-None c =
    stray_byte c.args.bytes.now c.requires (sym c.is_white_space.ensures ∙ c.if-is_white_space.false)
    (no_word_byte (slice_index c.args.bytes.now 0) (sym c.is_letter.ensures ∙ c.if-is_letter.false) (sym c.is_ascii_digit.ensures.value ∙ c.if-is_ascii_digit.false)) c.if-first-eq45.false (sym c.in-None.ensures)
