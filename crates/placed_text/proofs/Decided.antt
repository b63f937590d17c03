-- What sequential runs decide of a condition, by the runs of a certificate.
use Rattle.placed_text.proofs.Vocabulary.{◌≡◌, ◌∙◌, ℕ, Bool, List, Option, ap, refl, subst, sym, Litmus, Listing, Shown, Label, show, IsPlacement, IsProblem, question_in, shown_as}
use Rattle.std.specs.Prelude.{◌↔◌, Contains, IsTrue}
use Rattle.std.specs.Cmp.{booleans_Decides}
use Rattle.std.proofs.Math.Bool.{beq}
use Rattle.tso_program.specs.{declared.outcome.Outcome.Outcome, Truth.truth, Limits.IsWithinLimits}
use Rattle.tso_program.specs.declared.shown.ShownKind.{ShownKind, TheVariants.Whole, TheVariants.Observed, TheVariants.Condition}
use Rattle.tso_program.proofs.ReadOff.{truths_told}
use Rattle.tso_machine.specs.Machine.{SequentialMachine, IsRun}
use Rattle.tso_machine.proofs.Refused.{one_outcome}
use Rattle.litmus_text.proofs.NamesTell.{IsSmall, small, same_truth as truth_by_names}
use Rattle.cover_solver.specs.Witnesses.{HasNoWitness}
use Rattle.cert_forest.specs.Certificates.{Certificate}
use Rattle.placed_text.specs.declared.problem.Problem.{Problem}
use Rattle.placed_text.specs.Verdicts.{Decides, deciding_truth}
use Rattle.placed_text.proofs.SequentialRuns.{listed_by, some_run_shows}

-- outcomes of which the same is shown have the same truth
same_truth : (source : Litmus Listing) (o other : Outcome) → IsSmall o → IsSmall other → (kind : ShownKind) → show (shown_as source kind) o ≡ show (shown_as source kind) other
    → truth o source.condition.formula ≡ truth other source.condition.formula
same_truth source o other few few_others Whole e = ap (λ (x : Outcome). truth x source.condition.formula) e
same_truth source o other few few_others Observed e = truth_by_names source.condition.formula source.observed o other few few_others e
same_truth source o other few few_others Condition e = (truths_told source.condition.formula o other).0 e

-- labels that are a run decide the condition where the formula has that truth at its outcome
pub by_outcome : (source : Litmus Listing) (labels : List Label) (o : Outcome) (met deciding : Bool) → IsRun source.program SequentialMachine labels o → met ≡ truth o source.condition.formula
    → deciding ≡ deciding_truth source.condition.quantifier → IsTrue (beq met deciding) ↔ Decides source labels
by_outcome source labels o met deciding is_run is of = (
  (λ same. (o, is_run, sym is ∙ (booleans_Decides met deciding).0 same ∙ of)),
  (λ (o', is_run', met'). (booleans_Decides met deciding).1
      (is ∙ ap (λ (x : Outcome). truth x source.condition.formula) (one_outcome source.program SequentialMachine labels o o' is_run is_run') ∙ met' ∙ sym of)),
)

-- where no run of the certificate decides it, none does
pub none_decides : (litmus : List ℕ) (costs : Option (List ℕ)) (kind : ShownKind) (problem : Problem) (c : Certificate) → IsProblem litmus costs kind problem
    → IsPlacement (question_in problem) problem.costs.costs c → ((labels : List Label) → Contains c.seq_runs labels → Decides problem.litmus labels → ⊥)
    → HasNoWitness problem.litmus.program SequentialMachine problem.litmus.condition.formula (deciding_truth problem.litmus.condition.quantifier)
none_decides litmus costs kind problem c is placed none labels (o, is_run, met) =
    let source = problem.litmus in
    let within : IsWithinLimits source.program.threads source.program.memory = is.of_text.1 in
    let listed = listed_by c.rule (question_in problem) problem.costs.costs c within placed.proof.valid in
    let (run, there, (whole, is_whole, same)) = some_run_shows (question_in problem) c.seq_runs (show problem.shown o) listed (labels, (o, is_run, refl)) in
    let alike : show (shown_as source kind) o ≡ show (shown_as source kind) whole = subst (λ (shown : Shown). show shown o ≡ show shown whole) is.shown same in
    let truths = same_truth source o whole (small source.program SequentialMachine labels o within is_run) (small source.program SequentialMachine run whole within is_whole) kind alike in
    none run there (whole, is_whole, sym truths ∙ met)
