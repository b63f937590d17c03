-- When a certificate is valid (this project's own definitions; docs/definitions.md).
use Rattle.std.specs.Prelude.{◌≡◌, ℕ, List, Contains, length, All}
use Rattle.std.specs.List.{AllZip}
use Rattle.gap_sets.specs.Gaps.{SetOfGaps}
use Rattle.gap_sets.specs.Order.{total}
use Rattle.gap_sets.specs.Regions.{all_sets}
use Rattle.gap_sets.specs.Ties.{IsAllowed, names_in}
use Rattle.tso_program.specs.declared.outcome.Outcome.{Outcome}
use Rattle.tso_program.specs.declared.question.Question.{Question}
use Rattle.tso_program.specs.declared.listing.Listing.{Listing}
use Rattle.tso_program.specs.Listings.{gap_count}
use Rattle.tso_program.specs.Fences.{gaps_in}
use Rattle.tso_program.specs.Shown.{asked_with}
use Rattle.tso_machine.specs.declared.label.Label.{Label}
use Rattle.tso_machine.specs.Machine.{SequentialMachine, StoreBufferMachine, no_gaps}
use Rattle.tso_machine.specs.Outcomes.{IsShownRun, AreGapsOf}
use Rattle.dataflow_laws.specs.DeadLoads.{IsWithoutDeadLoads}
use Rattle.candidate_executions.specs.Sketches.{empty_sketch}
use Rattle.cert_forest.specs.Certificates.{Certificate}
use Rattle.cert_forest.specs.Rule.{Rule, TheVariants.Whole, TheVariants.Early}
use Rattle.cert_forest.specs.Shows.{shows_of}
use Rattle.tree_laws.specs.CoverTrees.{IsValidCoverBy}
use Rattle.tree_laws.specs.GapTrees.{IsValidGap}

-- as many outcomes as runs, and each is what is shown of the outcome of its run of the sequential machine
abbrev pub AreSequentialRuns : Question → List (List Label) → List Outcome → Type 0
AreSequentialRuns q runs outcomes = AllZip (IsShownRun q SequentialMachine) runs outcomes

-- a run of the store buffer machine with no gap fenced, and what is shown of its outcome is not in the list
abbrev pub IsRunOutside : Question → List Outcome → List Label → Type 0
IsRunOutside q outcomes labels = (o : Outcome) × IsShownRun q (StoreBufferMachine no_gaps) labels o × (¬ Contains outcomes o)

-- the question that a rule judges has the property: the question itself, or early the one of the program without its dead loads
abbrev pub IsJudged : Rule → Question → (Question → Type 0) → Type 0
IsJudged Whole q P = P q
IsJudged Early q P = (slim : Listing) × IsWithoutDeadLoads q.program q.shown slim × P (asked_with q.ties slim q.shown)

-- the names of the certificate's set, which has all gaps of their ties
abbrev pub names_of : Question → Certificate → SetOfGaps
names_of q c = names_in q.ties c.gaps

-- the set is one of the program's gaps, all or none of each tie
pub record HasRightSet (q : Question) (gaps : SetOfGaps) : Type 0 where
  pub of_program : AreGapsOf q.program gaps
  pub allowed : IsAllowed q.ties gaps

-- the certificate is valid for this question and the costs of the program's gaps, its cover trees by its rule
pub record IsValidCertificateOf (q : Question) (costs : List ℕ) (c : Certificate) : Type 0 where
  pub shown : c.shown ≡ shows_of q.shown
  pub right_set : HasRightSet q c.gaps
  pub one_cost_each : length costs ≡ gap_count q.program.threads
  pub cost : c.cost ≡ total costs (names_of q c)
  pub outcomes : List Outcome
  pub replayed : AreSequentialRuns q c.seq_runs outcomes
  pub sequential : IsValidCoverBy c.rule q SequentialMachine outcomes c.seq_tree (empty_sketch q.program)
  pub foreign : All (IsRunOutside q outcomes) c.runs
  pub fenced : IsValidCoverBy c.rule q (StoreBufferMachine (gaps_in q.program c.gaps)) outcomes c.fenced_tree (empty_sketch q.program)
  pub least : IsValidGap q costs (names_of q c) c.runs c.gap_tree all_sets

-- the certificate is valid for the question that its rule judges: the set, its cost and what is shown are the same for both
abbrev pub IsValidCertificate : Question → List ℕ → Certificate → Type 0
IsValidCertificate q costs c = IsJudged c.rule q (λ judged. IsValidCertificateOf judged costs c)
