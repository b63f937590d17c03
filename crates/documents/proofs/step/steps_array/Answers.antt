use Rattle.documents.proofs.Vocabulary.{◌∙◌, ◌≡◌, ℕ, List, [], ◌∷◌, ◌++◌, map, take, get_or, ap, sym, subst, arith, map_more, map-append, IfOk-weaker, Label, Step, step_text, IsStep, AreStepsOf, array_text}
use Rattle.std.proofs.Math.Seq.{take-length}
use Rattle.documents.proofs.Steps.{one_more_step}
use Rattle.documents.proofs.step.steps_array.Goals as goal

pub loop-step-init : goal.loop-step-init
loop-step-init c = ([], tt, c.new-array.ensures)

pub loop-step-preserved : goal.loop-step-preserved
loop-step-preserved c =
    let steps = c.args.steps.now in
    let i = c.loop-step.step-index in
    let d = c.step-item.result in
    let label : Step → Label = λ step. step.label in
    let parts = c.loop-step.invariant.0 in
    let told = c.in_ok-step_value.ensures in
    let part = told.part in
    let is : IsStep (label (get_or steps i d)) part = subst (λ (s : Step). IsStep s.label part) c.step-item.is told.is in (
      parts ++ part ∷ [],
      rw (map_more label steps i d c.loop-step-test.true) (one_more_step (map label (take i steps)) parts (label (get_or steps i d)) part c.loop-step.invariant.1 is),
      c.in_ok-add.ensures ∙ ap (λ (json : List ℕ). c.loop-step.array ++ json ∷ []) told.printed
          ∙ ap (λ (texts : List (List ℕ)). texts ++ step_text part ∷ []) c.loop-step.invariant.2 ∙ sym (map-append step_text parts (part ∷ [])),
    )

pub returns : goal.returns
returns c =
    let steps = c.args.steps.now in
    let all : take c.loop-step.step-index steps ≡ steps = ap (λ (n : ℕ). take n steps) (omega arith) ∙ take-length steps in
    IfOk-weaker c.into_json.result _ _ (λ json is. (
      c.loop-step.invariant.0,
      subst (λ (ss : List Step). AreStepsOf (map (λ step. step.label) ss) c.loop-step.invariant.0) all c.loop-step.invariant.1,
      is ∙ ap array_text c.loop-step.invariant.2,
    )) c.into_json.ensures
