use Rattle.litmus_text.proofs.Vocabulary.{◌≡◌, ℕ, List, sym, ap, ◌∙◌, subst, Listing, gaps_in, IsFencedLitmus, moved_labels, body_of, ending_of, canonical_text, litmus_fenced_at, text_with}
use Rattle.litmus_text.proofs.CanonicalIsRead.{canonical_is_read}
use Rattle.litmus_text.proofs.writer.write_litmus.Goals as goal

pub returns-clause-text : goal.returns-clause-text
returns-clause-text c =
    let litmus = c.args.litmus.now in
    let labels = moved_labels (gaps_in litmus.program c.args.gaps.now) 0 litmus.labels in
    c.in_ok-text.ensures
    ∙ ap (λ (p : Listing). text_with litmus.name (body_of litmus.names labels p) (ending_of litmus.names.locations litmus.observed litmus.condition)) c.in_ok-fenced.ensures.value

pub returns-clause-again : goal.returns-clause-again
returns-clause-again c =
    let litmus = c.args.litmus.now in
    let gaps = c.args.gaps.now in
    let text : c.in_ok-text.text.items ≡ canonical_text (litmus_fenced_at gaps litmus) = returns-clause-text c in
    λ source is. subst (λ (bs : List ℕ). IsFencedLitmus bs (litmus_fenced_at gaps litmus)) (sym text) (canonical_is_read source litmus is gaps)
