-- The sequential runs of a valid certificate show each outcome that a sequential run shows.
use Rattle.placed_text.proofs.Vocabulary.{◌∷◌, ℕ, List, [], subst, sym, Question, Listing, Shown, Label, asked, asked_with, IsShownRun}
use Rattle.std.specs.Prelude.{Contains}
use Rattle.std.proofs.Common.{inl, inr}
use Rattle.tso_program.specs.{declared.outcome.Outcome.Outcome, Limits.IsWithinLimits}
use Rattle.tso_machine.specs.Machine.{SequentialMachine}
use Rattle.tso_machine.specs.Outcomes.{IsSequentialOutcome}
use Rattle.cover_solver.specs.DeadLoads.{Places, drop_loads, AreDead}
use Rattle.cover_solver.proofs.{DeadLoadsKept.runs_kept, DeadLoadsKept.outcomes_kept, DroppedLimits.stay_within}
use Rattle.cert_forest.specs.Certificates.{Certificate}
use Rattle.cert_forest.specs.Rule.{Rule, TheVariants.Whole, TheVariants.Early}
use Rattle.tree_laws.specs.Certificates.{AreSequentialRuns, IsJudged, IsValidCertificateOf}
use Rattle.tree_laws.specs.Laws.{IsSequentialList}
use Rattle.tree_laws.proofs.Lists.{none_here, first_is_here, later_is_here, first_or_later}
use Rattle.tree_laws.proofs.ListedOutcomes.{sequential_list}

-- a list with an outcome of each run, which has exactly the sequential outcomes
pub record AreListed (q : Question) (runs : List (List Label)) : Type 0 where
  pub outcomes : List Outcome
  pub replayed : AreSequentialRuns q runs outcomes
  pub list : IsSequentialList q outcomes

-- what runs without dead loads show is shown of them with these
kept : (p : Listing) (shown : Shown) (here : Places) (dead : AreDead p shown here) (runs : List (List Label)) (outcomes : List Outcome)
    → AreSequentialRuns (asked (drop_loads here p) shown) runs outcomes → AreSequentialRuns (asked p shown) runs outcomes
kept p shown here dead [] [] are = tt
kept p shown here dead [] (o ∷ outcomes) are = absurd are
kept p shown here dead (run ∷ runs) [] are = absurd are
kept p shown here dead (run ∷ runs) (o ∷ outcomes) (is, are) = ((runs_kept p shown here SequentialMachine run o dead).0 is, kept p shown here dead runs outcomes are)

listed_with : (ties : List ℕ) (p : Listing) (shown : Shown) (here : Places) (dead : AreDead p shown here) (runs : List (List Label))
    → AreListed (asked_with ties (drop_loads here p) shown) runs → AreListed (asked_with ties p shown) runs
listed_with ties p shown here dead runs listed = record {
  outcomes = listed.outcomes;
  replayed = kept p shown here dead runs listed.outcomes listed.replayed;
  list = λ o. (
    λ held. (outcomes_kept p shown here SequentialMachine o dead).0 ((listed.list o).0 held),
    λ allowed. (listed.list o).1 ((outcomes_kept p shown here SequentialMachine o dead).1 allowed),
  );
}

listed_whole : (q : Question) (costs : List ℕ) (c : Certificate) → IsWithinLimits q.program.threads q.program.memory → IsValidCertificateOf q costs c → AreListed q c.seq_runs
listed_whole q costs c within valid = record {
  outcomes = valid.outcomes;
  replayed = valid.replayed;
  list = sequential_list c.rule q c.seq_runs valid.outcomes c.seq_tree within.shared.forward_jumps valid.replayed valid.sequential;
}

-- the runs of a certificate are listed, by either rule
pub listed_by : (rule : Rule) (q : Question) (costs : List ℕ) (c : Certificate) → IsWithinLimits q.program.threads q.program.memory → IsJudged rule q (λ judged. IsValidCertificateOf judged costs c) → AreListed q c.seq_runs
listed_by Whole q costs c within valid = listed_whole q costs c within valid
listed_by Early q costs c within (slim, (here, are, is), valid) =
    let few : IsWithinLimits slim.threads slim.memory = subst (λ (p : Listing). IsWithinLimits p.threads p.memory) (sym is) (stay_within q.program here within) in
    listed_with q.ties q.program q.shown here (λ t k h. (are t k).0 h) c.seq_runs
    (subst (λ (p : Listing). AreListed (asked_with q.ties p q.shown) c.seq_runs) is (listed_whole (asked_with q.ties slim q.shown) costs c few valid))

-- one of the runs shows an outcome of the list
run_of : (q : Question) (runs : List (List Label)) (outcomes : List Outcome) (o : Outcome) → AreSequentialRuns q runs outcomes → Contains outcomes o
    → (labels : List Label) × Contains runs labels × IsShownRun q SequentialMachine labels o
run_of q [] [] o are held = absurd (none_here o held)
run_of q [] (x ∷ xs) o are held = absurd are
run_of q (run ∷ runs) [] o are held = absurd are
run_of q (run ∷ runs) (x ∷ xs) o (is, are) held = elim (first_or_later x xs o held) [
  | inl same ↦ (run, first_is_here run runs, subst (IsShownRun q SequentialMachine run) same is)
  | inr later ↦ let (labels, there, shows) = run_of q runs xs o are later in (labels, later_is_here run runs labels there, shows)
]

pub some_run_shows : (q : Question) (runs : List (List Label)) (o : Outcome) → AreListed q runs → IsSequentialOutcome q o → (labels : List Label) × Contains runs labels × IsShownRun q SequentialMachine labels o
some_run_shows q runs o listed allowed = run_of q runs listed.outcomes o listed.replayed ((listed.list o).1 allowed)
