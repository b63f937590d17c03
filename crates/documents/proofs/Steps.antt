-- Steps, one more; and the labels of the steps of a run.
use Rattle.documents.proofs.Vocabulary.{◌≡◌, List, [], ◌∷◌, ◌++◌, map, refl, Listing, Label, Step, StepPart, IsStep, AreStepsOf}
use Rattle.tso_machine.specs.{Machine.Machine, Machine.State, Steps.AreSteps}

pub one_more_step : (labels : List Label) (parts : List StepPart) (label : Label) (part : StepPart) → AreStepsOf labels parts → IsStep label part → AreStepsOf (labels ++ label ∷ []) (parts ++ part ∷ [])
one_more_step [] [] label part are is = (is, tt)
one_more_step [] (first ∷ parts) label part are is = absurd are
one_more_step (first ∷ labels) [] label part are is = absurd are
one_more_step (first ∷ labels) (one ∷ parts) label part are is = (are.0, one_more_step labels parts label part are.1 is)

-- the steps that labels make have these labels
pub labels_of_steps : (p : Listing) (machine : Machine) (s : State) (labels : List Label) (steps : List Step) → AreSteps p machine s labels steps → map (λ step. step.label) steps ≡ labels
labels_of_steps p machine s [] [] are = refl
labels_of_steps p machine s [] (made ∷ more) are = absurd are
labels_of_steps p machine s (label ∷ labels) [] are = absurd are
labels_of_steps p machine s (label ∷ labels) (made ∷ more) (next, one, between, rest) =
    let here : made.label ≡ label = between.labelled in
    let there : map (λ step. step.label) more ≡ labels = labels_of_steps p machine next labels more rest in
    λ i. here i ∷ there i
