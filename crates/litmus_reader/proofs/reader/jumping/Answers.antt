use Rattle.litmus_reader.proofs.Vocabulary.{List, map, sym, subst, ◌∙◌, list_all, row_view, body_view, CodeLabel, all_labels, are_found, FindAllAs}
use Rattle.litmus_reader.proofs.Targets.{lost_is}
use Rattle.litmus_reader.proofs.reader.jumping.Goals as goal

pub returns-in-Some-clause-lost : goal.returns-in-Some-clause-lost
returns-in-Some-clause-lost c =
    let body = body_view c.args.body.now in
    let known : FindAllAs c.in_ok-targets.targets.items (all_labels body) = subst (λ (ls : List (List CodeLabel)). FindAllAs c.in_ok-targets.targets.items ls) c.requires c.in_ok-targets.ensures in
    lost_is body c.in_ok-targets.targets.items known
    (sym (λ i. list_all (are_found (c.as_slice.ensures.value i) 0) (map row_view (c.as_slice-2.ensures.value i))) ∙ c.in-Some.ensures.some)
