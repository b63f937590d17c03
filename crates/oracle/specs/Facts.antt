-- What tables, foreign runs and serving sets keep.
use Rattle.std.specs.Prelude.{◌≡◌, List, All}
use Rattle.gap_sets.specs.Gaps.{SetOfGaps}
use Rattle.tso_program.specs.declared.outcome.Outcome.{Outcome}
use Rattle.tso_program.specs.declared.question.Question.{Question}
use Rattle.tso_machine.specs.declared.label.Label.{Label}
use Rattle.tso_machine.specs.Machine.{SequentialMachine, StoreBufferMachine}
use Rattle.tso_machine.specs.Outcomes.{gaps_named, ArePassedNames, Serves, IsForeignRun}
use Rattle.cert_forest.specs.Trees.{Cover}
use Rattle.tree_laws.specs.Certificates.{AreSequentialRuns}
use Rattle.tree_laws.specs.Laws.{IsSequentialList}
use Rattle.tree_laws.specs.Ascending.{Ascend}
use Rattle.tree_laws.specs.Covers.{IsWholeCover}

-- the sequential outcomes of a question, a run of each, and a tree
pub record Table : Type 0 where
  pub question : Question
  pub outcomes : List Outcome
  pub runs : List (List Label)
  pub tree : Cover

-- these are the question's sequential outcomes, ascending, each of them once
pub record IsListOf (q : Question) (outcomes : List Outcome) : Type 0 where
  pub ascend : Ascend outcomes
  pub exact : IsSequentialList q outcomes

-- the outcomes are all sequential ones, each with its run, and the tree shows that there are no others
pub record IsSequentialTable (table : Table) : Type 0 where
  pub listed : IsListOf table.question table.outcomes
  pub runs : AreSequentialRuns table.question table.runs table.outcomes
  pub tree : IsWholeCover table.question SequentialMachine table.outcomes table.tree

-- a question, a run of its program, what is shown of where that ends, and the names of the ties of which it passes a gap
pub record Foreign : Type 0 where
  pub question : Question
  pub labels : List Label
  pub outcome : Outcome
  pub passed : SetOfGaps

-- with no gap fenced the labels are a run, this is shown of its outcome and of that of no sequential run, and it passes these names
pub record IsForeignValue (run : Foreign) : Type 0 where
  pub foreign : IsForeignRun run.question run.labels run.outcome
  pub passed : ArePassedNames run.question run.labels run.passed

-- the runs are of the question
abbrev pub AreOf : Question → List Foreign → Type 0
AreOf q runs = All (λ run. run.question ≡ q) runs

-- a question, a set of names of its program's gaps, and a tree
pub record Serving : Type 0 where
  pub question : Question
  pub gaps : SetOfGaps
  pub tree : Cover

-- the set serves, and the tree shows it over the sequential outcomes
pub record IsServing (s : Serving) : Type 0 where
  pub serves : Serves s.question s.gaps
  pub tree : (outcomes : List Outcome) → IsListOf s.question outcomes → IsWholeCover s.question (StoreBufferMachine (gaps_named s.question s.gaps)) outcomes s.tree
