use Rattle.documents.proofs.Vocabulary.{◌∙◌, ℕ, List, [], ◌∷◌, ◌++◌, ap, sym, arith, slice_index, gap_value}
use Rattle.std.proofs.lemmas.List.FromFn.{map-range_with_len_more}
use Rattle.documents.proofs.answer.costs_array.Goals as goal

pub loop-gap-preserved : goal.loop-gap-preserved
loop-gap-preserved c =
    let said : ℕ → List ℕ = λ gap. gap_value c.args.program.now.threads c.args.lines.now gap (slice_index c.args.costs.now gap) in
    let n = c.loop-gap.gap in
    c.in_ok-add.ensures ∙ ap (λ (json : List ℕ). c.loop-gap.array ++ json ∷ []) c.in_ok-gap_value.ensures
    ∙ ap (λ (texts : List (List ℕ)). texts ++ said n ∷ []) c.loop-gap.invariant ∙ sym (map-range_with_len_more said 0 n n (omega arith))
