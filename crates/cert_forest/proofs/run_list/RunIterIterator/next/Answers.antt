use Rattle.cert_forest.proofs.FlatRunLaws.{ends_ascend}
use Rattle.cert_forest.proofs.Vocabulary.{ℕ, List, length, subst, AreEnds}
use Rattle.cert_forest.proofs.run_list.RunIterIterator.next.Goals as goal

pub part-run-requires-clause-within : goal.part-run-requires-clause-within
part-run-requires-clause-within c =
    let last = length c.self.inside.labels.now in
    let are = subst (λ (es : List ℕ). AreEnds c.self.inside.start es last) c.in-Some.ensures.cases.0 c.self.invariant in
    ends_ascend c.in-Some.end.now c.in-Some.others.now last are.1
