-- How the steps of a run go on by one.
use Rattle.tso_machine.proofs.Vocabulary.{◌≡◌, ℕ, ◌+◌, ◌<◌, take, length, get_or, List, [], ◌∷◌, ◌++◌, Some, sym, subst, AreSteps, IsStepBetween, Option, option_and_then, take_more, Listing, Label, Machine, State, step, run}
use Rattle.tso_machine.specs.declared.stepping.Step.{Step}

module _ (p : Listing) (mode : Machine) where
  one_more : (labels : List Label) (steps : List Step) (s before last : State) (label : Label) (made : Step) → AreSteps p mode s labels steps → run p mode s labels ≡ Some before
      → step p mode before label ≡ Some last → IsStepBetween before last label made → AreSteps p mode s (labels ++ label ∷ []) (steps ++ made ∷ [])
  one_more [] [] s before last label made so_far reached here is =
      let q : s ≡ before = cc in
      (last, subst (λ (z : State). step p mode z label ≡ Some last) (sym q) here, subst (λ (z : State). IsStepBetween z last label made) (sym q) is, tt)
  one_more [] (first ∷ steps) s before last label made so_far reached here is = absurd so_far
  one_more (l ∷ labels) [] s before last label made so_far reached here is = absurd so_far
  one_more (l ∷ labels) (first ∷ steps) s before last label made (next, one, between, rest) reached here is =
      (next, one, between, one_more labels steps next before last label made rest (on (step p mode s l) one reached) here is)
    where
      on : (o : Option State) → o ≡ Some next → option_and_then (λ z. run p mode z labels) o ≡ Some before → run p mode next labels ≡ Some before
      on o is_next r = subst (λ (x : Option State). option_and_then (λ z. run p mode z labels) x ≡ Some before) is_next r

  pub steps_on : (s : State) (labels : List Label) (n : ℕ) (d : Label) (steps : List Step) (before last : State) (made : Step) → n < length labels
      → AreSteps p mode s (take n labels) steps → run p mode s (take n labels) ≡ Some before
      → step p mode before (get_or labels n d) ≡ Some last → IsStepBetween before last (get_or labels n d) made → AreSteps p mode s (take (n + 1) labels) (steps ++ made ∷ [])
  steps_on s labels n d steps before last made h so_far reached here is =
      rw (take_more labels n d h) (one_more (take n labels) steps s before last (get_or labels n d) made so_far reached here is)
