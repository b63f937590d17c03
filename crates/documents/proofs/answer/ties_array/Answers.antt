use Rattle.documents.proofs.Vocabulary.{◌≡◌, ◌∙◌, ◌<◌, ℕ, List, [], ◌∷◌, ◌++◌, ap, subst, sym, gaps_array}
use Rattle.std.proofs.Common.{◌≤◌}
use Rattle.std.specs.FinSet as set
use Rattle.gap_sets.specs.{Gaps.SetOfGaps, Ties.spread}
use Rattle.documents.proofs.TiedGaps.{none_told, one_told, tie_of}
use Rattle.documents.proofs.answer.ties_array.Goals as goal
use Rattle.documents.proofs.answer.ties_array.Goals.{then-len-gt1+in_ok-gap_names+in_ok-add, else-len-gt1}

pub loop-name-preserved : goal.loop-name-preserved
loop-name-preserved c =
    let threads = c.args.program.now.threads in
    let ties = c.args.ties.now in
    let n = c.loop-name.name in
    let tie_is : c.spread-tie.result ≡ tie_of threads ties n = c.spread-tie.ensures ∙ ap (spread ties) (c.with.ensures ∙ ap (λ (s : SetOfGaps). set.insert s n) c.empty.ensures) in
    elim c.if-len-gt1.branch [
      | then-len-gt1+in_ok-gap_names+in_ok-add w ↦
          let some : 1 < set.len (tie_of threads ties n) = subst (λ (s : SetOfGaps). 1 < set.len s) tie_is (subst (λ (k : ℕ). 1 < k) c.len.ensures.value w.if-len-gt1.true) in
          w.array-is ∙ w.in_ok-add.ensures
          ∙ ap (λ (json : List ℕ). c.loop-name.array ++ json ∷ []) (w.in_ok-gap_names.ensures ∙ ap (gaps_array threads) tie_is)
          ∙ ap (λ (texts : List (List ℕ)). texts ++ gaps_array threads (tie_of threads ties n) ∷ []) c.loop-name.invariant
          ∙ sym (one_told threads ties n some)
      | else-len-gt1 w ↦
          let one : set.len (tie_of threads ties n) ≤ 1 = subst (λ (s : SetOfGaps). set.len s ≤ 1) tie_is (subst (λ (k : ℕ). k ≤ 1) c.len.ensures.value w.if-len-gt1.false) in
          w.array-is ∙ c.loop-name.invariant ∙ sym (none_told threads ties n one)
    ]
