-- The answer is never lost, and the best set of a state that is done is the answer.
use Rattle.search_core.proofs.Vocabulary.{◌≡◌, ◌⊎◌, true≢false, Option, Some, None, refl, sym, ◌∙◌, subst, inl, inr, IfSome, same_Some, SetOfGaps, Better, IsTheAnswer, Serving, SearchState, IsDone, IsReached, decided, IsLive, IsBestSet, TheAnswerIsNeverLost}
use Rattle.search_core.proofs.Vocabulary.{NoBetterSetIsLost, ADoneStateHasTheAnswer, the_answer, answer_exists}
use Rattle.search_core.proofs.{Sets.unserved, Sets.gap_set, Kept.Facts, Kept.facts_of}

pub no_better_is_lost : NoBetterSetIsLost
no_better_is_lost s gaps r of better = (facts_of s r).none_lost gaps of better

module _ (s : SearchState) (facts : Facts s) (gaps : SetOfGaps) (answer : IsTheAnswer s.question s.costs gaps) where
  -- where it is better than the best set: it serves, and nothing that serves is cheaper
  still_live : IfSome s.best (λ b. Better s.costs gaps b.gaps) → IsLive s.entries gaps
  still_live better = elim (facts.none_lost gaps answer.of_program better) [
    | inl left ↦ absurd (unserved s.question gaps left answer.serves)
    | inr (inl u) ↦ absurd (unserved s.question u.other (answer.least u.other u.of_program (inl u.cheaper)) u.serves)
    | inr (inr live) ↦ live
  ]

  never_lost : (best : Option Serving) → s.best ≡ best → IsBestSet s gaps ⊎ IsLive s.entries gaps
  never_lost None is = inr (still_live (subst (λ (o : Option Serving). IfSome o (λ b. Better s.costs gaps b.gaps)) (sym is) tt))
  never_lost (Some b) is =
      let serves = facts.best_serves b is in
      elim (decided s.costs gaps b.gaps (gap_set s.question.program facts.within gaps answer.of_program) (gap_set s.question.program facts.within b.gaps serves.1)) [
        | inl same ↦ inl (record { served = b; is_best = is; of_question = serves.0; same = sym same })
        | inr (inl better) ↦ inr (still_live (subst (λ (o : Option Serving). IfSome o (λ c. Better s.costs gaps c.gaps)) (sym is) better))
        | inr (inr worse) ↦ absurd (unserved s.question b.gaps (answer.least b.gaps serves.1 worse) serves.2)
      ]

pub the_answer_stays : TheAnswerIsNeverLost
the_answer_stays s gaps r answer = never_lost s (facts_of s r) gaps answer s.best refl

-- there is an answer, and where nothing is live it is the best set
pub done_has_answer : ADoneStateHasTheAnswer
done_has_answer s r done =
    let answer = answer_exists s.question s.costs (facts_of s r).within.shared.forward_jumps in
    let best : IsBestSet s (the_answer s.question s.costs) = elim (the_answer_stays s (the_answer s.question s.costs) r answer) [
      | inl best ↦ best
      | inr live ↦ absurd (true≢false (sym live.live ∙ done live.place live.entry live.there))
    ] in
    (the_answer s.question s.costs, best, answer)

-- the best set of a state that is done is there, and is the answer
pub best_is_answer : (s : SearchState) → IsReached s → IsDone s → (b : Serving) × (s.best ≡ Some b) × (b.question ≡ s.question) × IsTheAnswer s.question s.costs b.gaps
best_is_answer s r done =
    let (gaps, best, answer) = done_has_answer s r done in
    (best.served, best.is_best, best.of_question, subst (λ (g : SetOfGaps). IsTheAnswer s.question s.costs g) (sym best.same) answer)

-- so it is with the set that was found
pub found_is_answer : (s : SearchState) (b : Serving) → IsReached s → IsDone s → s.best ≡ Some b → (b.question ≡ s.question) × IsTheAnswer s.question s.costs b.gaps
found_is_answer s b r done is =
    let (c, at, of, answer) = best_is_answer s r done in
    let same : c ≡ b = same_Some c b (sym at ∙ is) in
    subst (λ (d : Serving). (d.question ≡ s.question) × IsTheAnswer s.question s.costs d.gaps) same (of, answer)
