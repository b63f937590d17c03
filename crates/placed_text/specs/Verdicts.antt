-- What sequential runs decide of a condition: no fence changes that.
use Rattle.std.specs.Prelude.{◌≡◌, ℕ, Bool, true, false, List, Option, Some, None}
use Rattle.conditions.specs.declared.condition.Quantifier.{Quantifier}
use Rattle.conditions.specs.declared.condition.Quantifier.TheVariants as quantifiers
use Rattle.tso_program.specs.declared.listing.Listing.{Listing}
use Rattle.tso_program.specs.declared.shown.ShownKind.{ShownKind}
use Rattle.tso_machine.specs.declared.label.Label.{Label}
use Rattle.tso_machine.specs.Machine.{SequentialMachine}
use Rattle.cover_solver.specs.Witnesses.{HasNoWitness, IsWitness}
use Rattle.litmus_reader.specs.declared.litmus.Litmus.{Litmus}
use Rattle.documents.specs.declared.note.Note.{Note}
use Rattle.documents.specs.declared.note.NoteKind.{NoteKind}
use Rattle.documents.specs.declared.note.NoteKind.TheVariants as kinds
use Rattle.placed_text.specs.declared.problem.Problem.{Problem}
use Rattle.placed_text.specs.Problems.{IsProblem}

-- the truth of the formula by which one run decides a condition: a run that meets it is enough for `exists` and too many for
-- `~exists`, one that does not is too many for `forall`
abbrev pub deciding_truth : Quantifier → Bool
deciding_truth quantifiers.Exists = true
deciding_truth quantifiers.NotExists = true
deciding_truth quantifiers.Forall = false

-- the labels are a sequential run that decides the condition
abbrev pub Decides : Litmus Listing → List Label → Type 0
Decides source labels = IsWitness source.program SequentialMachine source.condition.formula (deciding_truth source.condition.quantifier) labels

abbrev pub SomeDecides : Litmus Listing → Type 0
SomeDecides source = (labels : List Label) × Decides source labels

-- what a note says of it: that no fence mends the condition, where it fails by such a run
abbrev pub verdict_kind : Quantifier → NoteKind
verdict_kind quantifiers.Exists = kinds.HappensSequentially
verdict_kind quantifiers.NotExists = kinds.NoFenceMends
verdict_kind quantifiers.Forall = kinds.NoFenceMends

-- whether the condition holds sequentially, by whether some run decides it
abbrev pub holds_by : Quantifier → Option Note → Bool
holds_by quantifiers.Exists None = false
holds_by quantifiers.Exists (Some note) = true
holds_by quantifiers.NotExists None = true
holds_by quantifiers.NotExists (Some note) = false
holds_by quantifiers.Forall None = true
holds_by quantifiers.Forall (Some note) = false

-- there is a note exactly where some sequential run decides the condition, and it says so
abbrev pub IsVerdict : Litmus Listing → Option Note → Type 0
IsVerdict source None = HasNoWitness source.program SequentialMachine source.condition.formula (deciding_truth source.condition.quantifier)
IsVerdict source (Some note) = SomeDecides source × (note.kind ≡ verdict_kind source.condition.quantifier)

-- of a problem, from whatever texts it is read
abbrev pub IsVerdictIn : Problem → Option Note → Type 0
IsVerdictIn problem verdict = (litmus : List ℕ) (costs : Option (List ℕ)) (kind : ShownKind) → IsProblem litmus costs kind problem → IsVerdict problem.litmus verdict
