use Rattle.litmus_reader.proofs.Vocabulary.{◌+◌, List, [], ◌∷◌, ◌++◌, take, get_or, sym, subst, ◌∙◌, CodeLabel, FindsAs, FindAllAs, take_more}
use Rattle.litmus_reader.proofs.Targets.{find_push}
use Rattle.litmus_reader.proofs.jumps.targets_of.Goals as goal

pub loop-own-preserved : goal.loop-own-preserved
loop-own-preserved c =
    let i = c.loop-own.own-index in
    let labels = c.args.labels.now in
    let own = c.in_ok-new.field-0 in
    let finds : FindsAs own (get_or labels i c.own-item.result) = subst (λ (ls : List CodeLabel). FindsAs own ls) (c.as_slice.ensures ∙ c.own-item.is) c.in_ok-new.ensures in
    let pushed = find_push c.loop-own.targets.items (take i labels) own (get_or labels i c.own-item.result) c.loop-own.invariant finds in
    let more : FindAllAs (c.loop-own.targets.items ++ own ∷ []) (take (i + 1) labels) =
    subst (λ (ls : List (List CodeLabel)). FindAllAs (c.loop-own.targets.items ++ own ∷ []) ls) (sym (take_more labels i c.own-item.result c.loop-own-test.true)) pushed in
    subst (λ (ts : List (List CodeLabel)). FindAllAs ts (take (i + 1) labels)) (sym c.in_ok-push.ensures.items) more
