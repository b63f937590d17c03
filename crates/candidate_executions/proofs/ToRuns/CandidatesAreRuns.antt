-- A consistent candidate has a run along each order of its accesses, and so every one is the candidate of a run.
use Rattle.candidate_executions.proofs.Vocabulary.{List, Listing, Outcome, Label, Machine, SequentialMachine, StoreBufferMachine, IsRun, Event, Candidate, access, IsCandidate, HasOutcome, Edge, IsConsistent, labels_along, followed_union, IsCandidateOf}
use Rattle.candidate_executions.proofs.Vocabulary.{EveryCandidateIsARun, EveryOrderIsARun}
use Rattle.candidate_executions.specs.declared.event.Kind.TheVariants as union
use Rattle.candidate_executions.proofs.{ToRuns.Linear.IsLinear, ToRuns.Linear.order_is_linear, ToRuns.Linear.linear, ToRuns.CandidatesHaveRuns.IsRunAlong, ToRuns.CandidatesHaveRuns.runs_along}
use Rattle.candidate_executions.proofs.{ToRuns.SequentialOrders.runs_directly_along, ToRuns.MarksOfOrders.candidate_of_order}

pub linear_is_run : (p : Listing) (mode : Machine) (c : Candidate) (o : Outcome) (order : List Event) → IsCandidate p mode c → IsConsistent p mode c →
    IsLinear (access p mode c) (Edge p mode c (followed_union mode)) order → HasOutcome p mode c o → IsRunAlong p mode c order (labels_along p mode c.given (λ t. 0) order) o
linear_is_run p SequentialMachine c o order is ok linear out = runs_directly_along p c o order is ok linear out
linear_is_run p (StoreBufferMachine gaps) c o order is ok linear out = runs_along p gaps c o order is ok.0 linear out

abbrev along : (p : Listing) (mode : Machine) (c : Candidate) (order : List Event) → List Label
along p mode c order = labels_along p mode c.given (λ t. 0) order

run_of : (p : Listing) (mode : Machine) (c : Candidate) (o : Outcome) (order : List Event) → IsCandidate p mode c → IsConsistent p mode c →
    IsLinear (access p mode c) (Edge p mode c (followed_union mode)) order → HasOutcome p mode c o → IsRun p mode (along p mode c order) o × IsCandidateOf p mode (along p mode c order) c
run_of p mode c o order is ok linear out =
    let (runs, shows) = linear_is_run p mode c o order is ok linear out in
    (runs, candidate_of_order p mode c is (followed_union mode) (along p mode c order) order linear shows)

pub every_order : EveryOrderIsARun
every_order p mode c order o is ok ordered out = run_of p mode c o order is ok (order_is_linear p mode c order ordered) out

pub every_candidate : EveryCandidateIsARun
every_candidate p SequentialMachine c o is ok out = let (order, l) = linear p SequentialMachine c union.Sequential ok in let (runs, of) = run_of p SequentialMachine c o order is ok l out in (along p SequentialMachine c order, runs, of)
every_candidate p (StoreBufferMachine gaps) c o is ok out = let (order, l) = linear p (StoreBufferMachine gaps) c union.Global ok.1 in let (runs, of) = run_of p (StoreBufferMachine gaps) c o order is ok l out in (along p (StoreBufferMachine gaps) c order, runs, of)
