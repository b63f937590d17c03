use Rattle.cert_pages.proofs.Vocabulary.{List, ℕ, [], ◌∷◌, ◌++◌, map, ap, ◌∙◌, append_assoc, codes, numbers_of_set, line, place_word}
use Rattle.cert_pages.proofs.Writing.{on_ok}
use Rattle.cert_pages.proofs.words.push_second.Goals as goal

pub returns : goal.returns
returns c =
    let first : List ℕ = line (codes "FENCECERT") (codes "2" ∷ []) in
    let second : List ℕ = line (codes "shown") (map place_word (numbers_of_set c.args.names.now)) in
    on_ok c.push_shown.result (λ e. e ∙ ap (λ (w : List ℕ). w ++ second) c.in_ok-extend_from_slice.ensures.items ∙ append_assoc c.args.out.now.items first second) c.push_shown.ensures
