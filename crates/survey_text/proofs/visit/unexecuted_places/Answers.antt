use Rattle.survey_text.proofs.Vocabulary.{◌≡◌, ◌∙◌, ◌++◌, ℕ, List, [], ◌∷◌, ap, get_or, place_of, sym, Visit}
use Rattle.std.proofs.Common.{Bool, not, true}
use Rattle.std.specs.Global.{Vec}
use Rattle.std.specs.Prelude.{is_none}
use Rattle.survey_text.proofs.Passing.{passing_more, passing_same}
use Rattle.survey_text.proofs.visit.unexecuted_places.Goals as goal
use Rattle.survey_text.proofs.visit.unexecuted_places.Goals.{then-is_none+in_ok-push, else-is_none}

pub loop-visit-preserved : goal.loop-visit-preserved
loop-visit-preserved c =
    let visits = c.args.visits.now in
    let i = c.loop-visit.visit-index in
    let d : Visit = c.visit-item.result in
    let test : Visit → Bool = λ visit. is_none visit.run in
    let same : test (get_or visits i d) ≡ test d = ap test (sym c.visit-item.is) in
    elim c.if-is_none.branch [
      | then-is_none+in_ok-push w ↦
          ap (λ (v : Vec (ℕ × ℕ)). v.items) w.places-is ∙ w.in_ok-push.ensures.items
          ∙ ap (λ (visit : Visit). c.loop-visit.places.items ++ place_of visit ∷ []) c.visit-item.is
          ∙ ap (λ (ps : List (ℕ × ℕ)). ps ++ place_of (get_or visits i d) ∷ []) c.loop-visit.invariant
          ∙ sym (passing_more place_of test visits i d c.loop-visit-test.true true (same ∙ ap not (c.is_none.ensures ∙ ap not w.if-is_none.true)))
      | else-is_none w ↦
          ap (λ (v : Vec (ℕ × ℕ)). v.items) w.places-is ∙ c.loop-visit.invariant
          ∙ sym (passing_same place_of test visits i d c.loop-visit-test.true (same ∙ ap not (c.is_none.ensures ∙ ap not w.if-is_none.false)))
    ]
