use Rattle.text_tokens.proofs.Vocabulary.{◌∙◌, sym, ap, take, drop, is_ascii_digit}
use Rattle.text_tokens.proofs.{Prefixes.all_pass, Fronts.letter_behind, Fronts.number_begins, Fronts.number_past}
use Rattle.text_tokens.proofs.lexer.number_front.Goals as goal

pub returns-then-begins_with_letter : goal.returns-then-begins_with_letter
returns-then-begins_with_letter c = letter_behind c.args.bytes.now c.split_at.result.1.now c.requires (c.split_at.ensures.back ∙ ap (λ n. drop n c.args.bytes.now) c.digits_len.ensures.value) (sym c.begins_with_letter.ensures ∙ c.if-begins_with_letter.true)

pub value_up_to-requires : goal.value_up_to-requires
value_up_to-requires c = rw (c.split_at.ensures.front, c.digits_len.ensures.value) (all_pass is_ascii_digit c.args.bytes.now)

pub returns-in-Some : goal.returns-in-Some
returns-in-Some c =
    number_begins c.args.bytes.now c.split_at.result.0.now c.split_at.result.1.now c.in-Some.number c.requires (c.split_at.ensures.front ∙ ap (λ n. take n c.args.bytes.now) c.digits_len.ensures.value)
    (c.split_at.ensures.back ∙ ap (λ n. drop n c.args.bytes.now) c.digits_len.ensures.value) (sym c.begins_with_letter.ensures ∙ c.if-begins_with_letter.false) (sym c.in-Some.ensures.value)

pub returns-in-None : goal.returns-in-None
returns-in-None c = number_past c.args.bytes.now c.split_at.result.0.now c.requires (c.split_at.ensures.front ∙ ap (λ n. take n c.args.bytes.now) c.digits_len.ensures.value) (sym c.in-None.ensures.value)
