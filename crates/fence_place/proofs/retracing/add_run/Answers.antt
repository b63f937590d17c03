use Rattle.fence_place.proofs.Vocabulary.{◌≡◌, ◌∙◌, ap, sym, subst, All-push, Foreign, AreOf, IsOfQuestion}
use Rattle.fence_place.proofs.retracing.add_run.Goals as goal

pub returns : goal.returns
returns c q of are =
    subst (AreOf q) (sym c.in_ok-push.ensures.items)
    (All-push (λ (run : Foreign). run.question ≡ q) c.args.runs.now.items c.in_ok-copy.field-0 are (ap (λ (run : Foreign). run.question) c.in_ok-copy.ensures ∙ subst (IsOfQuestion q) c.in-Split.is of))
