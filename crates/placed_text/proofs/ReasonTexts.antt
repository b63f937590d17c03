-- Reasons one after the other.
use Rattle.placed_text.proofs.Vocabulary.{◌≡◌, ◌∙◌, ◌==◌, ◌<◌, ℕ, suc, Bool, List, [], ◌∷◌, ◌++◌, true, false, arith, length, ap, refl, sym, subst, map, concat, filter, range_with_len, nat_tests, append-nil, map-append, SetOfGaps, IsGapSet, TiedCosts, names_in, Question, asked}
use Rattle.placed_text.proofs.Vocabulary.{Listing, Shown, Label, Without, TellsRun, TellsWhy, printed_of, numbers_of_set, MAX_GAPS, show, IsForeignRun, IsReplayOf, IsShownRun, Litmus, LeftOut, Told, IsReason, IsReasonOf, AreReasons, told_lines, TellsReasons}
use Rattle.placed_text.proofs.Vocabulary.{none_line, reasons_or_none, IsReasonText}
use Rattle.std.proofs.lemmas.List.Folds.{concat-append}
use Rattle.std.specs.FinSet as set
use Rattle.tso_program.specs.{declared.outcome.Outcome.Outcome, declared.shown.Shown.TheVariants.All}
use Rattle.tso_machine.specs.{declared.label.Model.TheVariants.Buffered, declared.replaying.Ended.Ended, FenceLaws.PassesNoGapOf, Machine.StoreBufferMachine, Machine.no_gaps, Machine.IsRun}
use Rattle.tso_machine.proofs.Refused.{one_outcome}
use Rattle.tso_machine.proofs.GapsAvoided.{fenced_runs_avoid}
use Rattle.tree_laws.specs.Laws.{IsForeign}
use Rattle.documents.specs.Documents.{IsWhyDocument}

-- a run whose passed gaps are not in the set passes none of it; one of which some are does not
pub passes_none : (p : Listing) (labels : List Label) (ended : Ended) (gaps : SetOfGaps) → IsReplayOf (asked p All) Buffered labels ended
    → ((gap : ℕ) × (set.contains ended.passed gap ≡ true) × (set.contains gaps gap ≡ true) → ⊥) → PassesNoGapOf p gaps labels
passes_none p labels ended gaps replay apart gap there passes = apart (gap, (replay.passed gap).1 passes, there)

pub passes_one : (p : Listing) (labels : List Label) (ended : Ended) (gaps : SetOfGaps) → IsReplayOf (asked p All) Buffered labels ended
    → (gap : ℕ) × (set.contains ended.passed gap ≡ true) × (set.contains gaps gap ≡ true) → PassesNoGapOf p gaps labels → ⊥
passes_one p labels ended gaps replay (gap, passed, there) none = none gap there ((replay.passed gap).0 passed)

-- a replay of which all is shown ends in its outcome
ends_in : (p : Listing) (labels : List Label) (ended : Ended) → IsReplayOf (asked p All) Buffered labels ended → IsRun p (StoreBufferMachine no_gaps) labels ended.outcome
ends_in p labels ended replay = (let (whole, is_run, same) = replay.is_run in subst (λ (o : Outcome). IsRun p (StoreBufferMachine no_gaps) labels o) (sym same) is_run)

-- of the outcome of a run is shown what a run with these labels shows
shown_of_run : (q : Question) (labels : List Label) (o whole : Outcome) → IsShownRun q (StoreBufferMachine no_gaps) labels o → IsRun q.program (StoreBufferMachine no_gaps) labels whole → o ≡ show q.shown whole
shown_of_run q labels o whole (ended, is_run, shows) ends = shows ∙ ap (λ (x : Outcome). show q.shown x) (one_outcome q.program (StoreBufferMachine no_gaps) labels ended whole is_run ends)

-- the lines of a foreign run that passes no gap of the other ties are a reason
pub reason_of : (source : Litmus Listing) (shown : Shown) (left_out : LeftOut) (gap : ℕ) (labels : List Label) (ended : Ended) (told : Told) → IsForeign (asked source.program shown) labels
    → PassesNoGapOf source.program left_out.others labels → IsReplayOf (asked source.program All) Buffered labels ended
    → set.contains left_out.tie gap ≡ true → set.contains ended.passed gap ≡ true → IsReasonText source shown left_out gap labels ended.outcome ended.passed told.0
    → TellsRun source (printed_of shown) (Without gap) labels ended.outcome ended.passed told.1 → IsReasonOf source shown left_out told
reason_of source shown left_out gap labels ended told (o, is) none replay of_tie passes_it printed document =
    let q = asked source.program shown in
    let ends = ends_in source.program labels ended replay in
    record {
      labels = labels;
      outcome = ended.outcome;
      ends = ends;
      foreign = subst (λ (o : Outcome). IsForeignRun q labels o) (shown_of_run q labels o ended.outcome is.is_run ends) is;
      fenced = (ended.outcome, (fenced_runs_avoid source.program left_out.others labels ended.outcome).1 (ends, none), refl);
      passed = ended.passed;
      passes = replay.passed;
      gap = gap;
      of_tie = of_tie;
      passes_it = passes_it;
      printed = printed;
      document = document;
    }

-- the gaps are in the set, and gap numbers
abbrev pub AreHeld : SetOfGaps → List ℕ → Type 0
AreHeld gaps [] = Unit {0}
AreHeld gaps (gap ∷ more) = ((set.contains gaps gap ≡ true) × (gap < MAX_GAPS)) × AreHeld gaps more

held_next : (gaps : SetOfGaps) → IsGapSet gaps → (gap : ℕ) (more : List ℕ) → AreHeld gaps (filter (set.contains gaps) more) → (b : Bool) → set.contains gaps gap ≡ b → AreHeld gaps (filter (set.contains gaps) (gap ∷ more))
held_next gaps small gap more rest true e = rw e ((e, small gap e), rest)
held_next gaps small gap more rest false e = rw e rest

held_of : (gaps : SetOfGaps) → IsGapSet gaps → (numbers : List ℕ) → AreHeld gaps (filter (set.contains gaps) numbers)
held_of gaps small [] = tt
held_of gaps small (gap ∷ more) = held_next gaps small gap more (held_of gaps small more) (set.contains gaps gap) refl

-- as those of the set are
pub numbers_are_held : (gaps : SetOfGaps) → IsGapSet gaps → AreHeld gaps (numbers_of_set gaps)
unfolding numbers_of_set
numbers_are_held gaps small = held_of gaps small (range_with_len 0 MAX_GAPS)

-- the first is, and those after it are
pub first_held : (gaps : SetOfGaps) (left : List ℕ) (gap : ℕ) (more : List ℕ) → left ≡ gap ∷ more → AreHeld gaps left → ((set.contains gaps gap ≡ true) × (gap < MAX_GAPS)) × AreHeld gaps more
first_held gaps left gap more is held = subst (AreHeld gaps) is held

-- the line of the answer and what follows it, and the document
pub says_why : (source : Litmus Listing) (shown : Shown) (costs : TiedCosts) (gaps : SetOfGaps) (line all text : List ℕ) (document : List (List ℕ)) (runs : List (List ℕ))
    → TellsReasons source shown costs.ties (names_in costs.ties gaps) (numbers_of_set (names_in costs.ties gaps)) all runs
    → text ≡ line ++ reasons_or_none shown all → IsWhyDocument source shown costs gaps runs document → TellsWhy source shown costs gaps line text document
says_why source shown costs gaps line all text document runs (reasons, each, lines, are) printed told = record {
  reasons = reasons;
  each = each;
  printed = printed ∙ ap (λ (t : List ℕ). line ++ reasons_or_none shown t) lines;
  told = subst (λ (rs : List (List ℕ)). IsWhyDocument source shown costs gaps rs document) are told;
}

pub not_zero : (n : ℕ) → (suc n == 0) ≡ true → ⊥
not_zero n e = grind (arith, nat_tests)

-- of a text without a byte, and of one with some
pub none_said : (shown : Shown) (text : List ℕ) → (length text == 0) ≡ true → none_line shown ≡ reasons_or_none shown text
none_said shown [] none = refl
none_said shown (byte ∷ bytes) none = absurd (not_zero (length bytes) none)

pub some_said : (shown : Shown) (text : List ℕ) → (length text == 0) ≡ false → text ≡ reasons_or_none shown text
some_said shown [] some = absurd cc
some_said shown (byte ∷ bytes) some = refl

-- one more
pub one_more_reason : (source : Litmus Listing) (shown : Shown) (ties : List ℕ) (names : SetOfGaps) (so_far : List ℕ) (reasons : List Told) (name : ℕ) (told : Told)
    → AreReasons source shown ties names so_far reasons → IsReason source shown ties names name told → AreReasons source shown ties names (so_far ++ name ∷ []) (reasons ++ told ∷ [])
one_more_reason source shown ties names [] [] name told are is = (is, tt)
one_more_reason source shown ties names (n ∷ so_far) (r ∷ reasons) name told are is = (are.0, one_more_reason source shown ties names so_far reasons name told are.1 is)
one_more_reason source shown ties names so_far reasons name told are is = absurd are

lines_more : (reasons : List Told) (told : Told) → told_lines (reasons ++ told ∷ []) ≡ told_lines reasons ++ told.0
lines_more reasons told =
    ap (λ (ts : List (List ℕ)). concat ts) (map-append (λ (r : Told). r.0) reasons (told ∷ [])) ∙ concat-append (map (λ (r : Told). r.0) reasons) (told.0 ∷ [])
    ∙ ap (λ (t : List ℕ). told_lines reasons ++ t) (append-nil told.0)

-- the texts with one more
pub tells_more : (source : Litmus Listing) (shown : Shown) (ties : List ℕ) (names : SetOfGaps) (so_far : List ℕ) (all : List ℕ) (runs : List (List ℕ)) (name : ℕ) (told : Told)
    → TellsReasons source shown ties names so_far all runs → IsReason source shown ties names name told
    → TellsReasons source shown ties names (so_far ++ name ∷ []) (all ++ told.0) (runs ++ told.1 ∷ [])
tells_more source shown ties names so_far all runs name told (reasons, are, lines, runs_are) reason = (
  reasons ++ told ∷ [],
  one_more_reason source shown ties names so_far reasons name told are reason,
  ap (λ (t : List ℕ). t ++ told.0) lines ∙ sym (lines_more reasons told),
  ap (λ (rs : List (List ℕ)). rs ++ told.1 ∷ []) runs_are ∙ sym (map-append (λ (r : Told). r.1) reasons (told ∷ [])),
)
