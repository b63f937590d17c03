use Rattle.cert_pages.proofs.Vocabulary.{List, ℕ, [], ◌∷◌, ◌++◌, ap, ◌∙◌, append_assoc, codes, line, shown_line}
use Rattle.cert_pages.proofs.Writing.{on_ok}
use Rattle.cert_pages.proofs.words.push_early_head.Goals as goal

pub returns : goal.returns
returns c =
    let first : List ℕ = line (codes "FENCECERT") (codes "4" ∷ []) in
    let second : List ℕ = shown_line c.args.shown.now in
    on_ok c.push_shown_line.result (λ e. e ∙ ap (λ (w : List ℕ). w ++ second) c.in_ok-extend_from_slice.ensures.items ∙ append_assoc c.args.out.now.items first second) c.push_shown_line.ensures
