-- What the steps of a run execute, and runs that are added.
use Rattle.survey_text.proofs.Vocabulary.{◌≡◌, ◌∙◌, ◌+◌, ◌<◌, ◌≤◌, ℕ, List, [], ◌∷◌, ◌++◌, Some, None, All, map, length, get_or, append-nil, refl, sym, subst, ap, arith, Listing, Label, Visit, IsVisit, place_of}
use Rattle.std.proofs.Common.{Bool, true, false, inl, inr, ap₂, ◌||◌, ◌&&◌, ◌==◌, ◌↔◌}
use Rattle.std.specs.Prelude.{Contains, is_some, option_and_then, slice_get}
use Rattle.std.proofs.lemmas.Bool.{and_parts, cases_eq, or_right}
use Rattle.std.proofs.lemmas.Bool.Decides.{nat_tests}
use Rattle.std.proofs.lemmas.Option.{get_or_from_slice_get, slice_get-get_or}
use Rattle.std.specs.List.{list_any}
use Rattle.std.proofs.lemmas.List.Folds.{Any-from_list_any}
use Rattle.std.proofs.lemmas.List.Elements.{All-append, All-nil, All-push, Contains-append_left, Contains-push}
use Rattle.program_streams.proofs.Kept.{kept_in}
use Rattle.tso_machine.specs.declared.label.Label.{TheVariants.Exec, TheVariants.Flush}
use Rattle.tso_machine.specs.declared.stepping.{Step.Step, ThreadState.ThreadState}
use Rattle.tso_machine.specs.Faults.{thread_of}
use Rattle.tso_machine.specs.Machine.{SequentialMachine, IsRun, State, run, start, step}
use Rattle.tso_machine.specs.Steps.{AreSteps, IsStepBetween}
use Rattle.sequential_states.specs.Executions.{IsAnswer, IsExecutedBy, IsRunThrough}
use Rattle.documents.specs.declared.survey.ExecutedRun.{ExecutedRun}
use Rattle.survey_text.specs.ExecutedRuns.{AreExecutedRuns, IsExecutedRun, IsShown}
use Rattle.survey_text.specs.Internal.Steps.{AddsRun, IsRunWith, executes, executes_at, has_place, is_of, is_same, is_shown}

-- ---- what a step executes

same_number : (a b : ℕ) → (a == b) ≡ true → a ≡ b
same_number a b e = grind (arith, nat_tests)

is_itself : (a : ℕ) → (a == a) ≡ true
is_itself a = grind (arith, nat_tests)

of_label : (label : Label) (t : ℕ) → is_of label t ≡ true → label ≡ Exec t
of_label (Exec u) t e = ap Exec (same_number u t e)
of_label (Flush u) t e = absurd cc

-- the step executes the instruction: it is its thread's next one at the state before
of_step : (before after : State) (label : Label) (made : Step) (t k : ℕ) → IsStepBetween before after label made → executes_at (t, k) made ≡ true → (label ≡ Exec t) × ((before.locals t).place ≡ k)
of_step before after label made t k between e =
    let (own, placed) = and_parts (is_of made.label t) (made.before.local.place == k) e in
    let is : label ≡ Exec t = sym between.labelled ∙ of_label made.label t own in
    (is, ap (λ (u : ℕ). (before.locals u).place) (sym (ap thread_of is)) ∙ sym (ap (λ (thread : ThreadState). thread.local.place) between.from) ∙ same_number made.before.local.place k placed)

-- and where it is, the step does
by_step : (before after : State) (made : Step) (t k : ℕ) → IsStepBetween before after (Exec t) made → (before.locals t).place ≡ k → executes_at (t, k) made ≡ true
by_step before after made t k between is =
    let placed : made.before.local.place ≡ k = ap (λ (thread : ThreadState). thread.local.place) between.from ∙ is in
    subst (λ (l : Label). (is_of l t && (made.before.local.place == k)) ≡ true) (sym between.labelled)
    (subst (λ (n : ℕ). ((t == t) && (n == k)) ≡ true) (sym placed) (ap (λ (b : Bool). b && (k == k)) (is_itself t) ∙ is_itself k))

-- ---- what the steps of labels execute

-- one of the labels is thread t's at a state, on the way from this one, where instruction k is the thread's next
record ExecutedFrom (p : Listing) (s : State) (labels : List Label) (t k : ℕ) : Type 0 where
  before : List Label
  after : List Label
  split : labels ≡ before ++ Exec t ∷ after
  state : State
  reached : run p SequentialMachine s before ≡ Some state
  next : (state.locals t).place ≡ k

-- one step, and then others
run_after : (p : Listing) (s next : State) (label : Label) (before : List Label) → step p SequentialMachine s label ≡ Some next → run p SequentialMachine s (label ∷ before) ≡ run p SequentialMachine next before
run_after p s next label before goes = ap (option_and_then (λ (z : State). run p SequentialMachine z before)) goes

module _ (p : Listing) (t k : ℕ) where
  first_or_later : (s next : State) (label : Label) (labels : List Label) (made : Step) (more : List Step) → step p SequentialMachine s label ≡ Some next → IsStepBetween s next label made
      → (executes more (t, k) ≡ true → ExecutedFrom p next labels t k) → (b : Bool) → executes_at (t, k) made ≡ b → (b || executes more (t, k)) ≡ true → ExecutedFrom p s (label ∷ labels) t k
  first_or_later s next label labels made more goes between later true is e =
      let (own, placed) = of_step s next label made t k between is in
      record { before = []; after = labels; split = ap (λ (l : Label). l ∷ labels) own; state = s; reached = refl; next = placed }
  first_or_later s next label labels made more goes between later false is e =
      let on = later e in
      record {
        before = label ∷ on.before;
        after = on.after;
        split = ap (λ (ls : List Label). label ∷ ls) on.split;
        state = on.state;
        reached = run_after p s next label on.before goes ∙ on.reached;
        next = on.next;
      }

  executed_in : (s : State) (labels : List Label) (steps : List Step) → AreSteps p SequentialMachine s labels steps → executes steps (t, k) ≡ true → ExecutedFrom p s labels t k
  executed_in s [] [] are e = absurd cc
  executed_in s [] (made ∷ more) are e = absurd are
  executed_in s (label ∷ labels) [] are e = absurd are
  executed_in s (label ∷ labels) (made ∷ more) (next, goes, between, rest) e =
      first_or_later s next label labels made more goes between (executed_in next labels more rest) (executes_at (t, k) made) refl e

  executes_in : (s : State) (before after : List Label) (steps : List Step) (state : State) → AreSteps p SequentialMachine s (before ++ Exec t ∷ after) steps → run p SequentialMachine s before ≡ Some state → (state.locals t).place ≡ k → executes steps (t, k) ≡ true
  executes_in s [] after [] state are reached is = absurd are
  executes_in s [] after (made ∷ more) state (next, goes, between, rest) reached is =
      let same : s ≡ state = (let z : Some s ≡ Some state = reached in cc) in
      ap (λ (b : Bool). b || executes more (t, k)) (by_step s next made t k between (ap (λ (z : State). (z.locals t).place) same ∙ is))
  executes_in s (label ∷ before) after [] state are reached is = absurd are
  executes_in s (label ∷ before) after (made ∷ more) state (next, goes, between, rest) reached is =
      let on : run p SequentialMachine next before ≡ Some state = sym (run_after p s next label before goes) ∙ reached in
      or_right (executes_at (t, k) made) (executes more (t, k)) (executes_in next before after more state rest on is)

  -- the steps from the start execute exactly what their labels do
  pub execute_exactly : (labels : List Label) (steps : List Step) → AreSteps p SequentialMachine (start p) labels steps → (executes steps (t, k) ≡ true) ↔ IsExecutedBy p labels t k
  execute_exactly labels steps are = (
    λ e. (let by = executed_in (start p) labels steps are e in record { before = by.before; after = by.after; split = by.split; state = by.state; reached = by.reached; next = by.next }),
    λ by. executes_in (start p) by.before by.after steps by.state (subst (λ (ls : List Label). AreSteps p SequentialMachine (start p) ls steps) by.split are) by.reached by.next,
  )

-- ---- runs that have an instruction

-- an element that passes a test
some_passes : {X : Type 0} (test : X → Bool) (xs : List X) → list_any test xs ≡ true → (x : X) × Contains xs x × (test x ≡ true)
some_passes test xs some = let a = Any-from_list_any test xs some in (a.1, (a.0, a.2, a.3), a.4)

same_place : (place other : ℕ × ℕ) → is_same place other ≡ true → other ≡ place
same_place place other same =
    let (threads, numbers) = and_parts (place.0 == other.0) (place.1 == other.1) same in
    ap₂ (λ (t k : ℕ). (t, k)) (sym (same_number place.0 other.0 threads)) (sym (same_number place.1 other.1 numbers))

-- an instruction that one of the runs has is shown by it
shown_by : (runs : List ExecutedRun) (visit : Visit) → is_shown runs visit ≡ true → IsShown runs visit
shown_by runs visit shown =
    let (run, there, has) = some_passes (has_place (place_of visit)) runs shown in
    let (other, listed, same) = some_passes (is_same (place_of visit)) run.places.items has in
    λ some. (run, there, subst (λ (place : ℕ × ℕ). Contains run.places.items place) (same_place (place_of visit) other same) listed)

-- what is shown of an instruction that was found at a place holds of the one there
module _ (runs : List ExecutedRun) (visits : List Visit) (at : ℕ) (found : Visit) (is : found ≡ get_or visits at found) where
  shown_there : IsShown runs found → (visit : Visit) → slice_get visits at ≡ Some visit → IsShown runs visit
  shown_there shown visit e = subst (λ (v : Visit). IsShown runs v) (is ∙ get_or_from_slice_get visits at visit found e) shown

  -- where no run executes it
  pub none_to_show : found.run ≡ None → (visit : Visit) → slice_get visits at ≡ Some visit → IsShown runs visit
  none_to_show none = shown_there (λ some. (let no : false ≡ true = ap is_some (sym none) ∙ some in absurd cc))

  -- where one of the runs has it
  pub shown_already : is_shown runs found ≡ true → (visit : Visit) → slice_get visits at ≡ Some visit → IsShown runs visit
  shown_already shown = shown_there (shown_by runs found shown)

-- ---- runs that are added

-- nothing is added
pub adds_nothing : (p : Listing) (visits : List Visit) (at : ℕ) (runs : List ExecutedRun) → ((visit : Visit) → slice_get visits at ≡ Some visit → IsShown runs visit) → AddsRun p visits at runs runs
adds_nothing p visits at runs shown = record { more = []; longer = sym (append-nil runs); each = All-nil (IsExecutedRun p (map place_of visits)); shown = shown }

-- the run through the instruction is added
module _ (p : Listing) (visits : List Visit) (at : ℕ) (d : Visit) (there : at < length visits) (labels : List Label) (found : (get_or visits at d).run ≡ Some labels) (is : IsVisit p (get_or visits at d)) where
  through : IsRunThrough p labels (get_or visits at d).thread (get_or visits at d).instruction
  through = subst (IsAnswer p (get_or visits at d).thread (get_or visits at d).instruction) found is

  pub adds_run : (before after : List ExecutedRun) (added : ExecutedRun) → IsRunWith p labels (map place_of visits) added → after ≡ before ++ added ∷ [] → AddsRun p visits at before after
  adds_run before after added with_run longer =
      let (outcome, is_run, executed) = through in
      let of_added : IsExecutedRun p (map place_of visits) added = record {
        outcome = outcome;
        is_run = subst (λ (ls : List Label). IsRun p SequentialMachine ls outcome) (sym with_run.labelled) is_run;
        is_executed = with_run.is_executed;
        exact = λ t k. subst (λ (ls : List Label). (with_run.is_executed (t, k) ≡ true) ↔ IsExecutedBy p ls t k) (sym with_run.labelled) (with_run.exact t k);
        places = with_run.places;
      } in
      let test : with_run.is_executed (place_of (get_or visits at d)) ≡ true = (with_run.exact (get_or visits at d).thread (get_or visits at d).instruction).1 executed in
      let listed : Contains added.places.items (place_of (get_or visits at d)) =
      subst (λ (ps : List (ℕ × ℕ)). Contains ps (place_of (get_or visits at d))) (sym with_run.places) (kept_in place_of with_run.is_executed visits (map place_of visits) at d refl there test) in
      record {
        more = added ∷ [];
        longer = longer;
        each = All-push (IsExecutedRun p (map place_of visits)) [] added (All-nil (IsExecutedRun p (map place_of visits))) of_added;
        shown = λ visit e some. (
          added,
          subst (λ (rs : List ExecutedRun). Contains rs added) (sym longer) (Contains-push before added),
          subst (λ (v : Visit). Contains added.places.items (place_of v)) (get_or_from_slice_get visits at visit d e) listed,
        );
      }

-- what is shown by some runs is shown by these and others
shown_by_more : (runs more : List ExecutedRun) (visit : Visit) → IsShown runs visit → IsShown (runs ++ more) visit
shown_by_more runs more visit shown some = let (run, there, has) = shown some in (run, Contains-append_left runs more run there, has)

-- the runs so far are such, and show the first so many instructions
pub record AreRunsSoFar (p : Listing) (visits : List Visit) (at : ℕ) (runs : List ExecutedRun) : Type 0 where
  pub each : All (IsExecutedRun p (map place_of visits)) runs
  pub all : (i : ℕ) (visit : Visit) → i < at → slice_get visits i ≡ Some visit → IsShown runs visit

pub no_runs : (p : Listing) (visits : List Visit) → AreRunsSoFar p visits 0 []
no_runs p visits = record { each = All-nil (IsExecutedRun p (map place_of visits)); all = λ i visit lt is. absurd (omega arith) }

pub one_more : (p : Listing) (visits : List Visit) (at : ℕ) (before after : List ExecutedRun) → AreRunsSoFar p visits at before → AddsRun p visits at before after → AreRunsSoFar p visits (at + 1) after
one_more p visits at before after are adds = record {
  each = subst (All (IsExecutedRun p (map place_of visits))) (sym adds.longer) (All-append (IsExecutedRun p (map place_of visits)) before adds.more are.each adds.each);
  all = λ i visit lt is. elim (cases_eq i at) [
    | inl same ↦ adds.shown visit (subst (λ (j : ℕ). slice_get visits j ≡ Some visit) same is)
    | inr other ↦ subst (λ (rs : List ExecutedRun). IsShown rs visit) (sym adds.longer) (shown_by_more before adds.more visit (are.all i visit (omega arith) is))
  ];
}

pub all_shown : (p : Listing) (visits : List Visit) (at : ℕ) (runs : List ExecutedRun) → length visits ≤ at → AreRunsSoFar p visits at runs → AreExecutedRuns p visits runs
all_shown p visits at runs done are = record { each = are.each; all = λ i d lt. are.all i (get_or visits i d) (omega arith) (slice_get-get_or visits i d lt) }
