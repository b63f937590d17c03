use Rattle.survey_text.proofs.Vocabulary.{◌≡◌, ◌∙◌, ◌++◌, ℕ, List, [], ◌∷◌, ap, get_or, place_of, sym, Visit}
use Rattle.std.proofs.Common.{true}
use Rattle.std.specs.Global.{Vec}
use Rattle.survey_text.specs.Internal.Steps.{executes}
use Rattle.survey_text.proofs.Passing.{made_passing_more, made_passing_same}
use Rattle.survey_text.proofs.execution.executed_places.Goals as goal
use Rattle.survey_text.proofs.execution.executed_places.Goals.{then-executes+in_ok-push, else-executes}

pub loop-visit-preserved : goal.loop-visit-preserved
loop-visit-preserved c =
    let steps = c.args.steps.now in
    let visits = c.args.visits.now in
    let i = c.loop-visit.visit-index in
    let d : Visit = c.visit-item.result in
    let place : c.place_of-place.result ≡ place_of (get_or visits i d) = c.place_of-place.ensures ∙ ap place_of c.visit-item.is in
    let test : executes steps (place_of (get_or visits i d)) ≡ c.executes.result = ap (executes steps) (sym place) ∙ sym c.executes.ensures in
    elim c.if-executes.branch [
      | then-executes+in_ok-push w ↦
          ap (λ (v : Vec (ℕ × ℕ)). v.items) w.places-is ∙ w.in_ok-push.ensures.items
          ∙ ap (λ (p : ℕ × ℕ). c.loop-visit.places.items ++ p ∷ []) place
          ∙ ap (λ (ps : List (ℕ × ℕ)). ps ++ place_of (get_or visits i d) ∷ []) c.loop-visit.invariant
          ∙ sym (made_passing_more place_of (executes steps) visits i d c.loop-visit-test.true true (test ∙ w.if-executes.true))
      | else-executes w ↦
          ap (λ (v : Vec (ℕ × ℕ)). v.items) w.places-is ∙ c.loop-visit.invariant
          ∙ sym (made_passing_same place_of (executes steps) visits i d c.loop-visit-test.true (test ∙ w.if-executes.false))
    ]
