-- Whether labels are a run that is sought, by their replay.
use Rattle.witness_text.proofs.Vocabulary.{◌≡◌, ◌↔◌, Bool, false, List, IsTrue, ◌∙◌, ap, sym, booleans_Decides, Listing, Outcome, truth, Label, Machine, IsRun, IsWitness, no_fault, one_outcome}
use Rattle.std.proofs.Math.Bool.{beq}
use Rattle.tso_program.specs.{declared.atom.Atom.Atom, Tree.Tree}
use Rattle.tso_machine.specs.{declared.replaying.ReplayFault.ReplayFault, declared.replaying.ReplayFault.TheVariants.OutOfMemory, Faults.ReplayFaultIs}

module _ (p : Listing) (machine : Machine) (f : Tree Atom) (b : Bool) (labels : List Label) where
  -- labels that are a run are a witness where the formula has the truth at its outcome
  pub witness_by_outcome : (o : Outcome) (met : Bool) → IsRun p machine labels o → met ≡ truth o f → IsTrue (beq met b) ↔ IsWitness p machine f b labels
  witness_by_outcome o met is_run is = (
    (λ same. (o, is_run, sym is ∙ (booleans_Decides met b).0 same)),
    (λ (o', is_run', met'). (booleans_Decides met b).1 (is ∙ ap (λ (x : Outcome). truth x f) (one_outcome p machine labels o o' is_run is_run') ∙ met')),
  )

  -- labels that are refused are none
  pub no_witness : (why : ReplayFault) → ReplayFaultIs p machine labels why → (why ≡ OutOfMemory → ⊥) → IsTrue false ↔ IsWitness p machine f b labels
  no_witness why is others = ((λ no. cc), (λ (o, is_run, met). absurd (others (no_fault p machine labels o why is_run is))))
