use Rattle.cert_forest.proofs.Vocabulary.{◌≡◌, ◌++◌, ◌∷◌, [], ap, ◌∙◌, cond, true, arith, is_ok, not}
use Rattle.cert_forest.proofs.FlatRunLaws.{runs_after, ends_after}
use Rattle.cert_forest.proofs.run_list.Runs.push.Goals as goal

pub invariant_of-self-else-is_err : goal.invariant_of-self-else-is_err
invariant_of-self-else-is_err c =
    let ok : is_ok c.push.result ≡ true = c.is_err.ensures.negation ∙ ap not c.if-is_err.false in
    ends_after c.self.inside.ends.items _ c.self.inside.labels.items _ c.args.labels.now c.len.result c.self.invariant c.in_ok-extend_from_slice.ensures.items (let a = c.len.ensures in let b = c.extend_from_slice.new.self.ok.0 in omega arith)
    (c.push.ensures.items ∙ ap (λ b. cond b (c.self.inside.ends.items ++ c.len.result ∷ []) c.self.inside.ends.items) ok)

pub returns-clause-ok : goal.returns-clause-ok
returns-clause-ok c =
    let ok : is_ok c.push.result ≡ true = c.is_err.ensures.negation ∙ ap not c.if-is_err.false in
    runs_after c.self.inside.ends.items _ c.self.inside.labels.items _ c.args.labels.now c.len.result c.self.invariant c.in_ok-extend_from_slice.ensures.items (let a = c.len.ensures in let b = c.extend_from_slice.new.self.ok.0 in omega arith)
    (c.push.ensures.items ∙ ap (λ b. cond b (c.self.inside.ends.items ++ c.len.result ∷ []) c.self.inside.ends.items) ok)
    ∙ ap (λ runs. runs ++ c.args.labels.now ∷ []) c.self.view_is
