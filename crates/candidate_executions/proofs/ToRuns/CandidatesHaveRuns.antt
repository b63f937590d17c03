-- A consistent candidate with fenced gaps has a run of the store buffer machine along each order that the union Global allows.
use Rattle.candidate_executions.proofs.Vocabulary.{◌≡◌, ℕ, ◌<◌, ◌≤◌, List, [], slice_index, map, refl, sym, ap, ◌∙◌, subst, arith, length, same_Some, fun_ext, range_with_len, length-map-range_with_len, get_or-map-range_with_len, same_number_lists, Listing}
use Rattle.candidate_executions.proofs.Vocabulary.{Local, code_of, Gaps, Outcome, Machine, StoreBufferMachine, State, start, IsRun, outcome_at, Label, Access, Event, Initial, At, Candidate, trace_of, access, IsCandidate, EndsWith, HasOutcome, Edge, IsAcyclic}
use Rattle.candidate_executions.proofs.Vocabulary.{labels_along, first_origins, marks_of}
use Rattle.candidate_executions.specs.declared.event.Kind.TheVariants as union
use Rattle.candidate_executions.proofs.{FromRuns.MarksAlong.shown_along, Orders.AcyclicIsOrdered.In, Candidates.LastWrites.one_end, ToRuns.Linear.IsLinear}
use Rattle.candidate_executions.proofs.{ToRuns.Standing.at, ToRuns.Standing.G, ToRuns.Standing.W, ToRuns.StandingOn.mode, ToRuns.StandingOn.final}
use Rattle.candidate_executions.proofs.{ToRuns.EventsAreReached.Goal, ToRuns.EventsAreReached.Sim, ToRuns.RunsAreFinished.sim_all, Candidates.NothingIntoInitial.no_edge}

module _ (p : Listing) (gaps : Gaps) (c : Candidate) (is : IsCandidate p (StoreBufferMachine gaps) c) (loc : IsAcyclic (Edge p (StoreBufferMachine gaps) c union.Location)) where
  -- at the start everything is to come
  pub begin : (order : List Event) → IsLinear (at p gaps c is loc) (G p gaps c is loc) order → Sim p gaps c is loc (start p) first_origins (λ t. 0) order
  begin order linear = record {
    threads = λ t. (
      length (code_of p.threads t),
      record {
        done = 0;
        section = 0;
        queue = [];
        given = c.given t;
        plays = λ i. record { accesses = (trace_of p (mode p gaps c is loc) c t).accesses; last = final p gaps c is loc t; unused = ((is.whole t).1) i };
        counts = refl;
        past = λ j m a b. absurd (omega arith);
        behind = λ i y a b. linear.holds t i y a;
        plain = λ i y a b. absurd (omega arith);
        buffer_is = refl;
        waits_are = refl;
        count_is = refl;
        queued = λ q j a. absurd cc;
        in_queue = λ j b. absurd (omega arith);
        rising = λ q r i j n a. absurd cc;
        early = λ j y a b. absurd (omega arith);
      },
    );
    shared = record {
      has = λ l. record {
        event = Initial l;
        origin_is = refl;
        writes = (_, refl, refl, refl);
        past = linear.no_initial l;
        last = λ d w a n. written d l w a n;
      };
      known = linear.known;
      initial = linear.no_initial;
      ordered = linear.ordered;
      distinct = linear.distinct;
      closed = closed;
    };
  }
    where
      closed : (d e : Event) → (In d order → ⊥) → In e order → G p gaps c is loc e d → ⊥
      closed (Initial l) e n h g = no_edge p (StoreBufferMachine gaps) c is union.Global e l g
      closed (At t i) e n h g = n (linear.holds t i g.1 g.3)

      written : (d : Event) (l w : ℕ) → W p gaps c is loc d l w → (In d order → ⊥) → c.rank d ≤ c.rank (Initial l)
      written (Initial k) l w a n = let z : k ≡ l = ap (λ (z : Access). z.location) (same_Some _ a.0 a.1) ∙ a.2 in let y : c.rank (Initial k) ≡ c.rank (Initial l) = ap (λ x. c.rank (Initial x)) z in omega arith
      written (At t i) l w a n = absurd (n (linear.holds t i a.0 a.1))

-- the outcome of a candidate is that of a state which has its registers and its last writes
pub same_outcome : (p : Listing) (mode : Machine) (c : Candidate) (o : Outcome) (last : State) → IsCandidate p mode c → HasOutcome p mode c o →
    ((t : ℕ) → last.locals t ≡ (trace_of p mode c t).last) → ((l : ℕ) → EndsWith p mode c l (last.memory l)) → o ≡ outcome_at p last
same_outcome p mode c o last is out locals ends = λ i. record { registers = registers i; memory = memory i }
  where
    registers : o.registers ≡ (outcome_at p last).registers
    registers = out.registers ∙ ap (λ f. map f (range_with_len 0 (length p.threads))) (fun_ext (λ t. sym (ap (λ (z : Local). z.registers) (locals t))))

    memory : o.memory ≡ (outcome_at p last).memory
    memory = same_number_lists o.memory (outcome_at p last).memory (out.long ∙ sym (length-map-range_with_len last.memory 0 (length p.memory)))
        (λ k h. let n : k < length p.memory = subst (λ z. k < z) out.long h in
        one_end p mode c is k (slice_index o.memory k) (last.memory k) (out.memory k n) (ends k)
        ∙ sym (get_or-map-range_with_len last.memory 0 (length p.memory) k k 0 n (omega arith)))

-- a run with the outcome, which shows what the events show
abbrev pub IsRunAlong : Listing → Machine → Candidate → List Event → List Label → Outcome → Type 0
IsRunAlong p mode c order labels o = IsRun p mode labels o × (marks_of p mode labels ≡ shown_along (access p mode c) c order)

-- what a run comes to is the outcome
pub with_outcome : (p : Listing) (machine : Machine) (gaps : Gaps) (c : Candidate) (o : Outcome) (is : IsCandidate p (StoreBufferMachine gaps) c) (loc : IsAcyclic (Edge p (StoreBufferMachine gaps) c union.Location)) →
    HasOutcome p (StoreBufferMachine gaps) c o → (order : List Event) (labels : List Label) → Goal p gaps c is loc machine (start p) first_origins order labels →
    IsRun p machine labels o × (marks_of p machine labels ≡ shown_along (access p (StoreBufferMachine gaps) c) c order)
with_outcome p machine gaps c o is loc out order labels (last, r, f, m) =
    ((last, r, (λ t. (rw (f.0 t).0 (is.whole t).0, (f.0 t).1)), same_outcome p (StoreBufferMachine gaps) c o last is out (λ t. (f.0 t).0) f.1), m)

-- along each order that the union Global allows
pub runs_along : (p : Listing) (gaps : Gaps) (c : Candidate) (o : Outcome) (order : List Event) → IsCandidate p (StoreBufferMachine gaps) c → IsAcyclic (Edge p (StoreBufferMachine gaps) c union.Location) →
    IsLinear (access p (StoreBufferMachine gaps) c) (Edge p (StoreBufferMachine gaps) c union.Global) order → HasOutcome p (StoreBufferMachine gaps) c o → IsRunAlong p (StoreBufferMachine gaps) c order (labels_along p (StoreBufferMachine gaps) c.given (λ t. 0) order) o
runs_along p gaps c o order is loc linear out =
    with_outcome p (StoreBufferMachine gaps) gaps c o is loc out order (labels_along p (StoreBufferMachine gaps) c.given (λ t. 0) order) (sim_all p gaps c is loc order (start p) first_origins (λ t. 0) (begin p gaps c is loc order linear))
