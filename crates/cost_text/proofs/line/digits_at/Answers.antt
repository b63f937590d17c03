use Rattle.cost_text.proofs.Vocabulary.{is_ascii_digit, all_pass}
use Rattle.cost_text.proofs.line.digits_at.Goals as goal

pub returns-then-len-gt0-clause-digits : goal.returns-then-len-gt0-clause-digits
returns-then-len-gt0-clause-digits c = rw (c.split_at.ensures.front, c.digits_len-len.ensures.value) (all_pass is_ascii_digit c.args.bytes.now)
