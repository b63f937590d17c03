-- Dead loads change nothing that is shown, no gap that is passed, and no answer.
use Rattle.std.proofs.Common.{◌≡◌, ℕ, ◌<◌, Bool, false, List, Option, Some, None, refl, sym, ap, ◌∙◌, subst}
use Rattle.std.specs.FinSet as set
use Rattle.gap_sets.specs.Gaps.{SetOfGaps}
use Rattle.tso_program.specs.declared.listing.Listing.{Listing}
use Rattle.tso_program.specs.declared.outcome.Outcome.{Outcome}
use Rattle.tso_program.specs.declared.shown.Shown.{Shown}
use Rattle.gap_sets.specs.Ties.{spread}
use Rattle.tso_program.specs.Listings.{gap_count}
use Rattle.tso_program.specs.declared.question.Question.{Question}
use Rattle.tso_program.specs.Shown.{asked, asked_with, show}
use Rattle.tso_machine.specs.declared.label.Label.{Label}
use Rattle.tso_machine.specs.Machine.{Machine, SequentialMachine, StoreBufferMachine, no_gaps, State, start, run, HasEnded, outcome_at}
use Rattle.tso_machine.specs.Modes.{Passes}
use Rattle.tso_machine.specs.Outcomes.{gaps_named, IsShownRun, AllowsShown, Serves, IsTheAnswer, LeavesOutcome, AreGapsOf}
use Rattle.std.specs.Option.{option_map_or}
use mathlib.Core.Path.{fun_ext}
use Rattle.dataflow_laws.specs.DeadLoads.{Places, drop_loads, AreDead}
use Rattle.dataflow_laws.specs.Laws.{DeadLoadsKeepRuns, DeadLoadsKeepPasses, DeadLoadsKeepPassedGaps, DeadLoadsKeepOutcomes, DeadLoadsKeepForeignRuns, DeadLoadsKeepServing, DeadLoadsKeepTheAnswer}
use Rattle.dataflow_laws.proofs.DroppedPlaces.{gaps_kept}
use Rattle.dataflow_laws.proofs.SameRegisters.{stops_alike}
use Rattle.dataflow_laws.proofs.SameSteps.{Alike, AlikeIfAny, acts, run_alike, passes_alike, start_alike}
use Rattle.dataflow_laws.proofs.SameShown.{shown_same}

module _ (p : Listing) (shown : Shown) (here : Places) (dead : AreDead p shown here) where
  abbrev q : Listing
  q = drop_loads here p

  other_state : (s : State) (o : Option State) → AlikeIfAny p shown (Some s) o → (z : State) × (o ≡ Some z) × Alike p shown s z
  other_state s None h = absurd h
  other_state s (Some z) h = (z, refl, h)

  one_state : (z : State) (o : Option State) → AlikeIfAny p shown o (Some z) → (s : State) × (o ≡ Some s) × Alike p shown s z
  one_state z None h = absurd h
  one_state z (Some s) h = (s, refl, h)

  ended_too : (s z : State) → Alike p shown s z → HasEnded p s → HasEnded q z
  ended_too s z h ended t = (
    (stops_alike p shown t _ _ (acts p shown here dead s.locals z.locals h.each t)).0 (ended t).0,
    ap (λ f. f t) (sym h.buffers) ∙ (ended t).1,
  )

  ended_before : (s z : State) → Alike p shown s z → HasEnded q z → HasEnded p s
  ended_before s z h ended t = (
    (stops_alike p shown t _ _ (acts p shown here dead s.locals z.locals h.each t)).1 (ended t).0,
    ap (λ f. f t) h.buffers ∙ (ended t).1,
  )

  alike : (mode : Machine) (labels : List Label) → AlikeIfAny p shown (run p mode (start p) labels) (run q mode (start q) labels)
  alike mode labels = run_alike p shown here dead mode labels (start p) (start q) (start_alike p shown here dead)

  forth : (mode : Machine) (labels : List Label) (o : Outcome) → IsShownRun (asked p shown) mode labels o → IsShownRun (asked q shown) mode labels o
  forth mode labels o (whole, (last, r, ended, e), is) =
      let (z, made, h) = other_state last (run q mode (start q) labels) (subst (λ x. AlikeIfAny p shown x (run q mode (start q) labels)) r (alike mode labels)) in
      (outcome_at q z, (z, made, ended_too last z h ended, refl), is ∙ ap (show shown) e ∙ shown_same p shown here last z h (λ t. (ended t).0))

  back : (mode : Machine) (labels : List Label) (o : Outcome) → IsShownRun (asked q shown) mode labels o → IsShownRun (asked p shown) mode labels o
  back mode labels o (whole, (last, r, ended, e), is) =
      let (s, made, h) = one_state last (run p mode (start p) labels) (subst (λ x. AlikeIfAny p shown (run p mode (start p) labels) x) r (alike mode labels)) in
      let before = ended_before s last h ended in
      (outcome_at p s, (s, made, before, refl), is ∙ ap (show shown) e ∙ sym (shown_same p shown here s last h (λ t. (before t).0)))

pub runs_kept : DeadLoadsKeepRuns
runs_kept p shown here mode labels o dead = (back p shown here dead mode labels o, forth p shown here dead mode labels o)

pub passes_kept : DeadLoadsKeepPasses
passes_kept p shown here mode labels t k dead = sym (passes_alike p shown here dead mode labels (start p) (start (drop_loads here p)) t k (start_alike p shown here dead))

pub passed_gaps_kept : DeadLoadsKeepPassedGaps
passed_gaps_kept p shown here mode labels gaps dead = (
  λ are gap. (
    λ there. to_p gap ((are gap).0 there),
    λ passed. (are gap).1 (to_q gap passed),
  ),
  λ are gap. (
    λ there. to_q gap ((are gap).0 there),
    λ passed. (are gap).1 (to_p gap passed),
  ),
)
  where
    to_p : (gap : ℕ) → Passes (drop_loads here p) mode (start (drop_loads here p)) labels gap → Passes p mode (start p) labels gap
    to_p gap (t, k, number, passed) = (t, k, sym ((gaps_kept p here).1 t k) ∙ number, sym (passes_kept p shown here mode labels t k dead) ∙ passed)

    to_q : (gap : ℕ) → Passes p mode (start p) labels gap → Passes (drop_loads here p) mode (start (drop_loads here p)) labels gap
    to_q gap (t, k, number, passed) = (t, k, (gaps_kept p here).1 t k ∙ number, passes_kept p shown here mode labels t k dead ∙ passed)

pub outcomes_kept : DeadLoadsKeepOutcomes
outcomes_kept p shown here mode o dead = (
  λ (labels, is). (labels, back p shown here dead mode labels o is),
  λ (labels, is). (labels, forth p shown here dead mode labels o is),
)

-- ---- two questions with the same gaps and the same outcomes

record SameQuestion (a b : Question) : Type 0 where
  pub count : gap_count a.program.threads ≡ gap_count b.program.threads
  pub numbers : gaps_named a ≡ gaps_named b
  pub outcomes : (mode : Machine) (o : Outcome) → AllowsShown a mode o → AllowsShown b mode o
  pub others : (mode : Machine) (o : Outcome) → AllowsShown b mode o → AllowsShown a mode o

turned : (a b : Question) → SameQuestion a b → SameQuestion b a
turned a b h = record { count = sym h.count; numbers = sym h.numbers; outcomes = h.others; others = h.outcomes }

module _ (a b : Question) (h : SameQuestion a b) where
  -- with the set fenced
  fenced : (gaps : SetOfGaps) (o : Outcome) → AllowsShown a (StoreBufferMachine (gaps_named a gaps)) o → AllowsShown b (StoreBufferMachine (gaps_named b gaps)) o
  fenced gaps o is = subst (λ (f : SetOfGaps → ℕ → ℕ → Bool). AllowsShown b (StoreBufferMachine (f gaps)) o) h.numbers (h.outcomes (StoreBufferMachine (gaps_named a gaps)) o is)

  fenced_back : (gaps : SetOfGaps) (o : Outcome) → AllowsShown b (StoreBufferMachine (gaps_named b gaps)) o → AllowsShown a (StoreBufferMachine (gaps_named a gaps)) o
  fenced_back gaps o is = subst (λ (f : SetOfGaps → ℕ → ℕ → Bool). AllowsShown a (StoreBufferMachine (f gaps)) o) (sym h.numbers) (h.others (StoreBufferMachine (gaps_named b gaps)) o is)

  serving : (gaps : SetOfGaps) → Serves a gaps → Serves b gaps
  serving gaps serves o = (
    λ left. h.outcomes SequentialMachine o ((serves o).0 (fenced_back gaps o left)),
    λ sequential. fenced gaps o ((serves o).1 (h.others SequentialMachine o sequential)),
  )

  gaps_of : (gaps : SetOfGaps) → AreGapsOf a.program gaps → AreGapsOf b.program gaps
  gaps_of gaps of gap there = subst (λ n. gap < n) h.count (of gap there)

  leaving : (gaps : SetOfGaps) → LeavesOutcome a gaps → LeavesOutcome b gaps
  leaving gaps l = record { outcome = l.outcome; left = fenced gaps l.outcome l.left; foreign = λ sequential. l.foreign (h.others SequentialMachine l.outcome sequential) }

  gaps_back : (gaps : SetOfGaps) → AreGapsOf b.program gaps → AreGapsOf a.program gaps
  gaps_back gaps of gap there = subst (λ n. gap < n) (sym h.count) (of gap there)

  answering : (costs : List ℕ) (gaps : SetOfGaps) → IsTheAnswer a costs gaps → IsTheAnswer b costs gaps
  answering costs gaps is = record {
    of_program = gaps_of gaps is.of_program;
    serves = serving gaps is.serves;
    least = λ other of better. leaving other (is.least other (gaps_back other of) better);
  }

same_question : (ties : List ℕ) (p : Listing) (shown : Shown) (here : Places) → AreDead p shown here → SameQuestion (asked_with ties (drop_loads here p) shown) (asked_with ties p shown)
same_question ties p shown here dead = record {
  count = (gaps_kept p here).0;
  numbers = fun_ext (λ gaps. fun_ext (λ t. fun_ext (λ k. ap (λ o. option_map_or (set.contains (spread ties gaps)) o false) ((gaps_kept p here).1 t k))));
  outcomes = λ mode o. (outcomes_kept p shown here mode o dead).0;
  others = λ mode o. (outcomes_kept p shown here mode o dead).1;
}

pub foreign_kept : DeadLoadsKeepForeignRuns
foreign_kept p shown ties here labels o dead = (
  λ is. record {
    is_run = (runs_kept p shown here (StoreBufferMachine no_gaps) labels o dead).0 is.is_run;
    foreign = λ sequential. is.foreign ((outcomes_kept p shown here SequentialMachine o dead).1 sequential);
  },
  λ is. record {
    is_run = (runs_kept p shown here (StoreBufferMachine no_gaps) labels o dead).1 is.is_run;
    foreign = λ sequential. is.foreign ((outcomes_kept p shown here SequentialMachine o dead).0 sequential);
  },
)

pub serving_kept : DeadLoadsKeepServing
serving_kept p shown ties here gaps dead =
    let h = same_question ties p shown here dead in (serving _ _ h gaps, serving _ _ (turned _ _ h) gaps)

pub answer_kept : DeadLoadsKeepTheAnswer
answer_kept p shown ties here costs gaps dead =
    let h = same_question ties p shown here dead in (answering _ _ h costs gaps, answering _ _ (turned _ _ h) costs gaps)
