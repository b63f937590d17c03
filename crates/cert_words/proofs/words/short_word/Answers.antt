use Rattle.cert_words.proofs.Vocabulary.{refl, sym, ◌∙◌}
use Rattle.cert_words.proofs.WordLaws.{short_here}
use Rattle.cert_words.proofs.words.short_word.Goals as goal

pub returns-then-ends_word : goal.returns-then-ends_word
returns-then-ends_word c =
    short_here c.args.bytes.now _ c.in-len2-up.len_at_least refl c.if-space-eq32.true (sym c.is_inner.ensures ∙ c.if-is_inner.true) (sym c.ends_word.ensures ∙ c.if-ends_word.true)
