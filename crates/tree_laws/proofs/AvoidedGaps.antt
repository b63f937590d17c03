-- A foreign run that passes no gap of a set leaves its outcome where the set is fenced.
use Rattle.std.specs.Prelude.{All}
use Rattle.tree_laws.proofs.Vocabulary.{List, SetOfGaps, Outcome, Question, Label, IsForeign, IsForeignRun, LeavesOutcome, PassesNoNameOf, SomePassesNone}
use Rattle.tso_machine.proofs.NamesPassed.{fenced_runs_pass_no_name}
use Rattle.std.proofs.lemmas.List.Elements.{All-contains}

pub leaves_outcome : (q : Question) (gaps : SetOfGaps) (labels : List Label) (o : Outcome) → IsForeignRun q labels o → PassesNoNameOf q gaps labels → LeavesOutcome q gaps
leaves_outcome q gaps labels o f none =
    let (whole, is_run, shown) = f.is_run in
    record { outcome = o; left = (labels, (whole, (fenced_runs_pass_no_name q gaps labels whole).1 (is_run, none), shown)); foreign = f.foreign }

pub avoided_leaves : (q : Question) (runs : List (List Label)) (gaps : SetOfGaps) → All (IsForeign q) runs → SomePassesNone q runs gaps → LeavesOutcome q gaps
avoided_leaves q runs gaps foreign (labels, here, none) = let (o, is_foreign) = All-contains (IsForeign q) runs labels foreign here in leaves_outcome q gaps labels o is_foreign none
