-- What a table and a replay say of foreign runs.
use Rattle.oracle.proofs.Vocabulary.{◌≡◌, ◌↔◌, ℕ, Bool, true, false, IsTrue, List, Some, Contains, slice_get, sym, ap, ◌∙◌, Result, Ok, Err, IfOk, IfErr, is_ok, Question, StoreBufferMachine, no_gaps, Outcome, Label}
use Rattle.oracle.proofs.Vocabulary.{ReplayFaultIs, IsForeignRun, ForeignFaultIs, of_replay}
use Rattle.tso_machine.specs.declared.replaying.ReplayFault.{ReplayFault}
use Rattle.tso_machine.specs.declared.replaying.ReplayFault.TheVariants as replays
use Rattle.tso_machine.proofs.Refused.{no_fault}
use Rattle.tree_laws.specs.Ascending.{BelongsAt}
use Rattle.tree_laws.proofs.{Lists.found_is_here, AscendingSearched.not_there}
use Rattle.oracle.specs.declared.fault.ForeignFault.TheVariants as foreign

-- an outcome has a place in a list exactly if it is one of it
pub found_by : (outcomes : List Outcome) (o : Outcome) (place : Result ℕ ℕ) (b : Bool) → IfOk place (λ n. slice_get outcomes n ≡ Some o) → IfErr place (BelongsAt outcomes o) → b ≡ is_ok place →
    IsTrue b ↔ Contains outcomes o
found_by outcomes o (Ok n) b at none is = ((λ yes. found_is_here outcomes n o at), (λ has. is))
found_by outcomes o (Err n) b at belongs is = ((λ yes. (let no : false ≡ true = sym is ∙ yes in absurd cc)), (λ has. absurd (not_there outcomes o n belongs has)))

-- what a replay that is refused says of a foreign run
pub fault_of_foreign : (q : Question) (labels : List Label) (why : ReplayFault) → ReplayFaultIs q.program (StoreBufferMachine no_gaps) labels why → ForeignFaultIs q labels (of_replay why)
fault_of_foreign q labels (replays.NoSuchThread n) h = (h, (λ same. absurd cc))
fault_of_foreign q labels (replays.AtEnd n) h = (h, (λ same. absurd cc))
fault_of_foreign q labels (replays.BufferEmpty n) h = (h, (λ same. absurd cc))
fault_of_foreign q labels (replays.FenceWaits n) h = (h, (λ same. absurd cc))
fault_of_foreign q labels (replays.NotEnded n) h = (h, (λ same. absurd cc))
fault_of_foreign q labels replays.OutOfMemory h = tt

-- a foreign run is refused only when out of memory
pub no_fault_of_foreign : (q : Question) (labels : List Label) (why : ReplayFault) (o : Outcome) → ReplayFaultIs q.program (StoreBufferMachine no_gaps) labels why → IsForeignRun q labels o → of_replay why ≡ foreign.OutOfMemory
no_fault_of_foreign q labels why o h run = ap of_replay (no_fault q.program (StoreBufferMachine no_gaps) labels run.is_run.0 why run.is_run.1 h)
