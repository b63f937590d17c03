-- Runs that are replayed in turn, whose outcomes ascend.
use Rattle.std.proofs.Common.{◌≡◌, ◌↔◌, ℕ, zero, suc, List, [], ◌∷◌, ◌++◌, Some, Contains, slice_get, length, refl, sym, ap, ◌∙◌, subst, append_assoc, arith}
use Rattle.std.specs.List.{AllZip}
use Rattle.std.specs.declared.cmp.Ordering.TheVariants.{Less}
use Rattle.std.proofs.lemmas.List.Quantifiers.{all_pairs_push}
use Rattle.std.proofs.lemmas.Option.{same_Some, slice_get-get_or}
use Rattle.std.proofs.lemmas.Slice.Zip.{all_zipped_more}
use Rattle.tso_program.specs.declared.outcome.Outcome.{Outcome}
use Rattle.tso_program.specs.declared.question.Question.{Question}
use Rattle.tso_program.specs.Ordered.{outcome_cmp}
use Rattle.tso_machine.specs.declared.label.Label.{Label}
use Rattle.tso_machine.specs.Machine.{Machine}
use Rattle.tso_machine.specs.Outcomes.{AllowsShown, IsShownRun}
use Rattle.tree_laws.specs.Ascending.{Ascend, BelongsAt}

-- all but the last runs have these outcomes, which ascend
pub record HaveOutcomesBut (q : Question) (machine : Machine) (all left : List (List Label)) (outcomes : List Outcome) : Type 0 where
  pub front : List (List Label)
  pub whole : front ++ left ≡ all
  pub runs : AllZip (IsShownRun q machine) front outcomes
  pub ascend : Ascend outcomes

-- and one more
pub one_more : (q : Question) (machine : Machine) (all left rest : List (List Label)) (labels : List Label) (outcomes more : List Outcome) (o : Outcome) →
    left ≡ labels ∷ rest → HaveOutcomesBut q machine all left outcomes → IsShownRun q machine labels o → Ascend (outcomes ++ o ∷ []) → more ≡ outcomes ++ o ∷ [] →
    HaveOutcomesBut q machine all rest more
one_more q machine all left rest labels outcomes more o first so_far is_run up pushed = record {
  front = so_far.front ++ labels ∷ [];
  whole = append_assoc so_far.front (labels ∷ []) rest ∙ ap (λ (runs : List (List Label)). so_far.front ++ runs) (sym first) ∙ so_far.whole;
  runs = subst (AllZip (IsShownRun q machine) (so_far.front ++ labels ∷ [])) (sym pushed) (all_zipped_more (IsShownRun q machine) so_far.front outcomes labels o so_far.runs is_run);
  ascend = subst Ascend (sym pushed) up;
}

-- an outcome that belongs at the end comes last
pub last_ascends : (outcomes : List Outcome) (o : Outcome) (place : ℕ) → Ascend outcomes → BelongsAt outcomes o place → place ≡ length outcomes → Ascend (outcomes ++ o ∷ [])
last_ascends outcomes o place up belongs end = all_pairs_push (λ a b. outcome_cmp a b ≡ Less) outcomes o up (λ k d h. belongs.before k d (omega arith))

-- what stands beside a value of the second of two lists in step
pub zip_at_right : {A B : Type 0} (R : A → B → Type 0) (xs : List A) (ys : List B) (n : ℕ) (y : B) → AllZip R xs ys → slice_get ys n ≡ Some y → (x : A) × (slice_get xs n ≡ Some x) × R x y
zip_at_right R xs [] n y all e = absurd cc
zip_at_right R [] (b ∷ ys) n y all e = absurd all
zip_at_right R (a ∷ xs) (b ∷ ys) zero y all e = (a, refl, subst (R a) (same_Some b y e) all.0)
zip_at_right R (a ∷ xs) (b ∷ ys) (suc n) y all e = zip_at_right R xs ys n y all.1 e

-- the outcomes of runs are allowed, and so they are exactly those that are allowed where these are all there
pub exactly_allowed : (q : Question) (machine : Machine) (runs : List (List Label)) (outcomes : List Outcome) → AllZip (IsShownRun q machine) runs outcomes → ((o : Outcome) → AllowsShown q machine o → Contains outcomes o) →
    (o : Outcome) → Contains outcomes o ↔ AllowsShown q machine o
exactly_allowed q machine runs outcomes are all o = (
  λ (k, h, e). (let (labels, there, is_run) = zip_at_right (IsShownRun q machine) runs outcomes k o are (slice_get-get_or outcomes k o h ∙ ap Some e) in (labels, is_run)),
  all o,
)
