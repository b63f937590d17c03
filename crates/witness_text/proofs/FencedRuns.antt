-- The runs that are found, with no gap fenced.
use Rattle.witness_text.proofs.Vocabulary.{◌≡◌, ℕ, true, false, List, sym, subst, refl, ◌∙◌, SetOfGaps, Listing, Outcome, All, truth, Label, one_outcome, IsWitness, TellsRun, StoreBufferMachine, IsRun, machine_of_model, ArePassed, machine_of, unfenced_machine}
use Rattle.witness_text.proofs.Vocabulary.{IsShownRunText, TellsWitness}
use Rattle.std.specs.FinSet as set
use Rattle.tso_program.specs.Fences.{Gaps}
use Rattle.tso_machine.specs.{declared.label.Model.Model, declared.replaying.Ended.Ended}
use Rattle.tso_machine.specs.declared.label.Model.TheVariants as models
use Rattle.tso_machine.proofs.Unfenced.{empty_fences_nothing}
use Rattle.tso_machine.proofs.GapsAvoided.{fenced_runs_avoid}
use Rattle.litmus_text.specs.Litmus.{Litmus}
use Rattle.documents.specs.{declared.run.Setting.TheVariants.Machine as OfMachine, declared.witness.Sought.Sought}
use Rattle.witness_text.specs.Internal.Replays.{IsReplayed}

-- a run with gaps fenced is one with none fenced
unfenced_run : (p : Listing) (model : Model) (gaps : SetOfGaps) (labels : List Label) (o : Outcome) → IsRun p (machine_of_model p gaps model) labels o → IsRun p (machine_of_model p set.empty model) labels o
unfenced_run p models.Sequential gaps labels o is_run = is_run
unfenced_run p models.Buffered gaps labels o is_run =
    subst (λ (g : Gaps). IsRun p (StoreBufferMachine g) labels o) (sym (empty_fences_nothing p)) ((fenced_runs_avoid p gaps labels o).0 is_run).0

-- none of the gaps that it passes is fenced
none_fenced : (p : Listing) (model : Model) (gaps : SetOfGaps) (labels : List Label) (o : Outcome) (ended : Ended) → IsRun p (machine_of_model p gaps model) labels o → IsReplayed p model labels ended
    → (gap : ℕ) → set.contains gaps gap ≡ true → set.contains ended.passed gap ≡ true → ⊥
none_fenced p models.Sequential gaps labels o ended is_run replayed gap fenced passed = (let no : true ≡ false = sym passed ∙ replayed.sequential refl gap in cc)
none_fenced p models.Buffered gaps labels o ended is_run replayed gap fenced passed =
    let passes = subst (λ (g : Gaps). ArePassed p (StoreBufferMachine g) labels ended.passed) (empty_fences_nothing p) replayed.passed in
    ((fenced_runs_avoid p gaps labels o).0 is_run).1 gap fenced ((passes gap).0 passed)

-- what is said of its replay says it
pub told_run : (source : Litmus Listing) (sought : Sought) (labels : List Label) (ended : Ended) (text run : List ℕ)
    → IsWitness source.program (machine_of source.program sought) source.condition.formula sought.meets labels → IsReplayed source.program sought.model labels ended
    → IsShownRunText source (unfenced_machine source.program sought) labels ended.outcome ended.passed text → TellsRun source All (OfMachine sought.model) labels ended.outcome ended.passed run → TellsWitness source sought text run
told_run source sought labels ended text run (o, fenced, met) replayed printed document =
    let p = source.program in
    let same : o ≡ ended.outcome = one_outcome p (unfenced_machine p sought) labels o ended.outcome (unfenced_run p sought.model sought.fences labels o fenced) replayed.run in
    record {
      labels = labels;
      outcome = ended.outcome;
      fenced = subst (λ (x : Outcome). IsRun p (machine_of p sought) labels x) same fenced;
      ends = replayed.run;
      met = subst (λ (x : Outcome). truth x source.condition.formula ≡ sought.meets) same met;
      passed = ended.passed;
      passes = replayed.passed;
      avoids = none_fenced p sought.model sought.fences labels o ended fenced replayed;
      printed = printed;
      document = document;
    }
