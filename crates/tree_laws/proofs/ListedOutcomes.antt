-- Where the empty sketch is covered the list has every outcome of the machine.
use Rattle.tree_laws.proofs.Vocabulary.{List, [], ◌∷◌, Contains, sym, ap, ◌∙◌, subst, inl, inr, ◌≡◌, Outcome, JumpForward, Label, Machine, SequentialMachine, StoreBufferMachine, empty_sketch, Cover, Rule, IsValidCoverBy, IsCovered, AreSequentialRuns}
use Rattle.tree_laws.proofs.Vocabulary.{Question, show, IsShownRun, IsSequentialOutcome, empty_is_a_sketch, ACoveredListHasEachOutcome, AValidTreeMakesTheSequentialList, AValidFencedTreeServes}
use Rattle.candidate_executions.proofs.{FromRuns.RunsAreCandidates.every_run_is_a_completion, Candidates.LastWrites.outcomes_are_one}
use Rattle.tso_machine.specs.Outcomes.{gaps_named}
use Rattle.tso_machine.proofs.SequentialIsBuffered.{sequential_is_allowed}
use Rattle.tree_laws.proofs.{Lists.none_here, Lists.first_or_later, CoveredSketches.valid_covers_by}

pub listed : ACoveredListHasEachOutcome
listed q mode outcomes o forward covered (labels, (whole, is_run, shown)) =
    let (c, completes, has) = every_run_is_a_completion q.program mode labels whole forward is_run in
    let (known, in_list, (other, has_too, same)) = covered c completes in
    let one : whole ≡ other = outcomes_are_one q.program mode c whole other completes.is_candidate has has_too in
    subst (λ (x : Outcome). Contains outcomes x) (sym (shown ∙ ap (show q.shown) one ∙ sym same)) in_list

-- a valid tree covers the sketch with no choice
covered_from_nothing : (rule : Rule) (q : Question) (mode : Machine) (outcomes : List Outcome) (tree : Cover) → JumpForward q.program.threads →
    IsValidCoverBy rule q mode outcomes tree (empty_sketch q.program) → IsCovered q mode outcomes (empty_sketch q.program)
covered_from_nothing rule q mode outcomes tree forward valid = valid_covers_by rule q mode outcomes tree (empty_sketch q.program) forward (empty_is_a_sketch q.program mode) valid

-- the outcomes of sequential runs are sequential
of_runs : (q : Question) (runs : List (List Label)) (outcomes : List Outcome) (o : Outcome) → AreSequentialRuns q runs outcomes → Contains outcomes o → IsSequentialOutcome q o
of_runs q [] [] o replayed here = absurd (none_here o here)
of_runs q (labels ∷ runs) (x ∷ xs) o (is_run, others) here = elim (first_or_later x xs o here) [
  | inl e ↦ (labels, subst (IsShownRun q SequentialMachine labels) e is_run)
  | inr later ↦ of_runs q runs xs o others later
]
of_runs q runs outcomes o replayed here = absurd replayed

pub sequential_list : (rule : Rule) → AValidTreeMakesTheSequentialList rule
sequential_list rule q runs outcomes tree forward replayed valid o = (
  of_runs q runs outcomes o replayed,
  listed q SequentialMachine outcomes o forward (covered_from_nothing rule q SequentialMachine outcomes tree forward valid),
)

pub fenced_tree_serves : (rule : Rule) → AValidFencedTreeServes rule
fenced_tree_serves rule q gaps outcomes tree forward list valid o =
    let mode : Machine = StoreBufferMachine (gaps_named q gaps) in (
      (λ allowed. (list o).0 (listed q mode outcomes o forward (covered_from_nothing rule q mode outcomes tree forward valid) allowed)),
      sequential_is_allowed q (gaps_named q gaps) o,
    )
