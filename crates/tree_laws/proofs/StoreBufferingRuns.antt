-- Store buffering: the runs of its certificate, and what they pass.
use Rattle.std.proofs.Common.{◌≡◌, ℕ, zero, suc, ◌<◌, ◌≤◌, true, false, List, [], ◌∷◌, Some, Contains, All, length, slice_index, slice_index_or, ◌+◌, refl, sym, ap, ◌∙◌, arith, lit<}
use Rattle.tree_laws.proofs.Vocabulary.{All-nil, All-cons, Stop, Outcome, action, gap_number, Label, store_buffering, waiting_stores, PassesName, AreSequentialRuns, IsRunOutside, SequentialMachine, StoreBufferMachine, no_gaps, State, start, run, HasEnded}
use Rattle.tree_laws.proofs.Vocabulary.{passes, first_first, second_first, stores_first, sequential_runs, second_waits, first_waits}
use Rattle.tso_program.proofs.Gaps.{gap_below, gap_same}
use Rattle.tso_machine.specs.declared.label.Pending.{Pending}
use Rattle.tso_machine.proofs.{Runs.no_action, Runs.no_stores, Refused.run_keeps}
use Rattle.tree_laws.proofs.StoreBufferingCovered.{question, end_of, outcomes}

-- a thread's next action and its waiting stores, at the end
abbrev IsDone : State → ℕ → Type 0
IsDone s t = (action store_buffering.threads t (s.locals t) ≡ Stop) × (s.buffers t ≡ [])

-- the two threads are at their ends, and there is no other
ended : (labels : List Label) (last : State) → run store_buffering (StoreBufferMachine no_gaps) (start store_buffering) labels ≡ Some last → IsDone last 0 → IsDone last 1 → HasEnded store_buffering last
ended labels last runs first second zero = first
ended labels last runs first second (suc zero) = second
ended labels last runs first second (suc (suc t)) =
    let out : length store_buffering.threads ≤ suc (suc t) = omega arith in
    (no_action store_buffering (suc (suc t)) (last.locals (suc (suc t))) out, run_keeps store_buffering (suc (suc t)) out no_gaps labels (start store_buffering) last refl runs)

-- in the sequential machine no store waits, so the run has ended
ended_in_turn : (labels : List Label) (last : State) → run store_buffering SequentialMachine (start store_buffering) labels ≡ Some last →
    action store_buffering.threads 0 (last.locals 0) ≡ Stop → action store_buffering.threads 1 (last.locals 1) ≡ Stop → HasEnded store_buffering last
ended_in_turn labels last runs first second t = (done t, ap (λ (f : ℕ → List Pending). f t) (no_stores store_buffering labels (start store_buffering) last runs))
  where
    done : (t : ℕ) → action store_buffering.threads t (last.locals t) ≡ Stop
    done zero = first
    done (suc zero) = second
    done (suc (suc t)) = no_action store_buffering (suc (suc t)) (last.locals (suc (suc t))) (omega arith)

pub replayed : AreSequentialRuns question sequential_runs outcomes
replayed = (
  (end_of 0 1, (_, refl, ended_in_turn first_first _ refl refl refl, refl), refl),
  (
    (end_of 1 0, (_, refl, ended_in_turn second_first _ refl refl refl, refl), refl),
    ((end_of 1 1, (_, refl, ended_in_turn stores_first _ refl refl refl, refl), refl), tt),
  ),
)

-- the sum of both EAX
abbrev registers_sum : Outcome → ℕ
registers_sum o = slice_index (slice_index_or o.registers 0 []) 0 + slice_index (slice_index_or o.registers 1 []) 0

differ : (o q : Outcome) → registers_sum q ≡ 0 → 0 < registers_sum o → o ≡ q → ⊥
differ o q none some same = let sums : registers_sum o ≡ registers_sum q = ap registers_sum same in omega arith

-- both loads give 0 in no sequential run
outside : ¬ Contains outcomes (end_of 0 0)
outside (zero, h, e) = differ (end_of 0 1) (end_of 0 0) refl (lit< tt) e
outside (suc zero, h, e) = differ (end_of 1 0) (end_of 0 0) refl (lit< tt) e
outside (suc (suc zero), h, e) = differ (end_of 1 1) (end_of 0 0) refl (lit< tt) e
outside (suc (suc (suc k)), h, e) = absurd (omega arith)

abbrev pub runs : List (List Label)
runs = waiting_stores ∷ second_waits ∷ first_waits ∷ []

pub all_outside : All (IsRunOutside question outcomes) runs
all_outside = All-cons (IsRunOutside question outcomes) waiting_stores (second_waits ∷ first_waits ∷ []) (end_of 0 0, (end_of 0 0, (_, refl, ended waiting_stores _ refl (refl, refl) (refl, refl), refl), refl), outside)
    (All-cons (IsRunOutside question outcomes) second_waits (first_waits ∷ []) (end_of 0 0, (end_of 0 0, (_, refl, ended second_waits _ refl (refl, refl) (refl, refl), refl), refl), outside)
    (All-cons (IsRunOutside question outcomes) first_waits [] (end_of 0 0, (end_of 0 0, (_, refl, ended first_waits _ refl (refl, refl) (refl, refl), refl), refl), outside)
    (All-nil (IsRunOutside question outcomes))))

-- there are two gaps
pub passed_below : (labels : List Label) (gap : ℕ) → PassesName question labels gap → gap < 2
passed_below labels gap (own, is, (t, k, number, passed)) = omega (arith, is, gap_below store_buffering.threads t k own number)

-- a gap that is not passed at its place is not passed
not_at_place : (labels : List Label) (u j gap : ℕ) → gap_number store_buffering.threads u j ≡ Some gap → passes store_buffering (StoreBufferMachine no_gaps) (start store_buffering) labels u j ≡ false →
    ¬ PassesName question labels gap
not_at_place labels u j gap there none (own, is, (t, k, number, passed)) =
    let (thread, place) = gap_same store_buffering.threads t k u j gap (number ∙ ap Some is) there in
    let at : passes store_buffering (StoreBufferMachine no_gaps) (start store_buffering) labels t k ≡ passes store_buffering (StoreBufferMachine no_gaps) (start store_buffering) labels u j =
    λ i. passes store_buffering (StoreBufferMachine no_gaps) (start store_buffering) labels (thread i) (place i) in
    let no_way : true ≡ false = sym passed ∙ at ∙ none in cc

pub both_passed : (gap : ℕ) → gap < 2 → PassesName question waiting_stores gap
both_passed zero h = (0, refl, (0, 1, refl, refl))
both_passed (suc zero) h = (1, refl, (1, 1, refl, refl))
both_passed (suc (suc gap)) h = absurd (omega arith)

pub second_passed : PassesName question second_waits 1
second_passed = (1, refl, (1, 1, refl, refl))

pub first_passed : PassesName question first_waits 0
first_passed = (0, refl, (0, 1, refl, refl))

pub first_not_passed : ¬ PassesName question second_waits 0
first_not_passed = not_at_place second_waits 0 1 0 refl refl

pub second_not_passed : ¬ PassesName question first_waits 1
second_not_passed = not_at_place first_waits 1 1 1 refl refl
