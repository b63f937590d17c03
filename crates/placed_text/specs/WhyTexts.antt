-- Why the fences of a placement are needed, by texts.
use Rattle.std.specs.Prelude.{◌≡◌, ℕ, Bool, true, false, List, [], ◌∷◌, ◌++◌, Option, codes, map}
use Rattle.std.specs.List.{concat}
use Rattle.std.specs.FinSet as set
use Rattle.gap_sets.specs.Gaps.{SetOfGaps, numbers_of_set}
use Rattle.gap_sets.specs.Order.{total}
use Rattle.gap_sets.specs.Ties.{names_in, spread}
use Rattle.gap_sets.specs.declared.ties.TiedCosts.{TiedCosts}
use Rattle.tso_program.specs.declared.listing.Listing.{Listing}
use Rattle.tso_program.specs.declared.outcome.Outcome.{Outcome}
use Rattle.tso_program.specs.declared.shown.Shown.{Shown, TheVariants.All, TheVariants.Only, TheVariants.Truth}
use Rattle.tso_program.specs.declared.shown.ShownKind.{ShownKind}
use Rattle.tso_program.specs.Fences.{gaps_in}
use Rattle.tso_program.specs.Shown.{asked, show}
use Rattle.tso_machine.specs.declared.label.Label.{Label}
use Rattle.tso_machine.specs.Machine.{Machine, StoreBufferMachine, no_gaps, IsRun}
use Rattle.tso_machine.specs.Modes.{ArePassed}
use Rattle.tso_machine.specs.Outcomes.{IsForeignRun, IsShownRun, IsTheAnswer}
use Rattle.tso_program.specs.Truth.{truth}
use Rattle.litmus_reader.specs.declared.litmus.Litmus.{Litmus}
use Rattle.litmus_reader.specs.Texts.{IsLitmus}
use Rattle.litmus_reader.specs.Shown.{shown_as}
use Rattle.litmus_text.specs.GivenCosts.{AreGiven}
use Rattle.report.specs.Answers.{answer_line, printed_labels, outcome_line, passed_line, without_line}
use Rattle.documents.specs.declared.run.Setting.TheVariants.{Without}
use Rattle.documents.specs.declared.note.Note.{Note}
use Rattle.documents.specs.Documents.{IsWhyDocument}
use Rattle.documents.specs.Runs.{TellsRun}
use Rattle.placed_text.specs.declared.reasons.LeftOut.{LeftOut}
use Rattle.placed_text.specs.MarkedTables.{IsMarkedTableOf}
use Rattle.placed_text.specs.PlacedTexts.{tied_question}
use Rattle.placed_text.specs.Verdicts.{IsVerdict}

-- what is said of an outcome that no sequential run has, and of an answer without a gap
abbrev pub is_foreign : List ℕ
is_foreign = codes "No sequential run has this outcome." ++ 10 ∷ []

-- what is said of an outcome that meets the condition's formula, and of one that does not
abbrev pub met_line : Bool → List ℕ
met_line true = codes "This run meets the condition's formula." ++ 10 ∷ []
met_line false = codes "This run does not meet the condition's formula; registers or memory end as they sequentially cannot." ++ 10 ∷ []

-- what is said of a run that meets the condition's formula, or does not, as no sequential run does
abbrev pub alone_line : Bool → List ℕ
alone_line true = codes "This run meets the condition's formula, and no sequential run does." ++ 10 ∷ []
alone_line false = codes "This run does not meet the condition's formula, and each sequential run does." ++ 10 ∷ []

-- what is said of an outcome that no sequential run has, and whether it meets the condition's formula
abbrev pub foreign_lines : Shown → Bool → List ℕ
foreign_lines All meets = is_foreign ++ met_line meets
foreign_lines (Only names) meets = is_foreign ++ met_line meets
foreign_lines (Truth formula) meets = alone_line meets

-- what is printed of the outcome: all of it where only a truth is shown
abbrev pub printed_of : Shown → Shown
printed_of All = All
printed_of (Only names) = Only names
printed_of (Truth formula) = All

-- what is said of an answer without a gap
abbrev pub none_line : Shown → List ℕ
none_line All = codes "Every store buffer outcome is sequential." ++ 10 ∷ []
none_line (Only names) = codes "Every store buffer outcome is sequential in what is compared." ++ 10 ∷ []
none_line (Truth formula) = codes "Store buffers do not change the condition's verdict." ++ 10 ∷ []

-- what a run leaves, the gaps that it passes, that no sequential run leaves this, and whether it meets the condition
abbrev pub ending_text : Litmus Listing → Shown → Outcome → SetOfGaps → List ℕ
ending_text source shown outcome passed =
    outcome_line source.names (printed_of shown) outcome ++ passed_line source.program passed ++ foreign_lines shown (truth outcome source.condition.formula)

-- the gaps of a tie, and a run with its table and how it ends
abbrev pub reason_text : Litmus Listing → Shown → SetOfGaps → List Label → List ℕ → Outcome → SetOfGaps → List ℕ
reason_text source shown tie labels table outcome passed =
    without_line source.program tie ++ printed_labels labels ++ table ++ ending_text source shown outcome passed

-- store buffers, with the gaps of the other ties fenced
abbrev pub others_fenced : Listing → LeftOut → Machine
others_fenced p left_out = StoreBufferMachine (gaps_in p left_out.others)

-- the text is that of a run, with the table of its steps where the gaps of the other ties are fenced, in which this gap is marked
abbrev pub IsReasonText : Litmus Listing → Shown → LeftOut → ℕ → List Label → Outcome → SetOfGaps → List ℕ → Type 0
IsReasonText source shown left_out gap labels outcome passed text =
    (table : List ℕ) × IsMarkedTableOf source (others_fenced source.program left_out) labels gap table × (text ≡ reason_text source shown left_out.tie labels table outcome passed)

-- the lines of a reason, and what the document says of its run
abbrev pub Told : Type 0
Told = List ℕ × List ℕ

-- Why a tie is needed: the lines have the labels of a run that is one with no gap fenced and with the gaps of the other ties
-- fenced, its outcome, of which is shown what no sequential run shows, and the gaps that it passes, among them one of the tie; the
-- document has that run, outcome and gaps too.
pub record IsReasonOf (source : Litmus Listing) (shown : Shown) (left_out : LeftOut) (told : Told) : Type 0 where
  pub labels : List Label
  pub outcome : Outcome
  pub ends : IsRun source.program (StoreBufferMachine no_gaps) labels outcome
  pub foreign : IsForeignRun (asked source.program shown) labels (show shown outcome)
  pub fenced : IsShownRun (asked source.program shown) (others_fenced source.program left_out) labels (show shown outcome)
  pub passed : SetOfGaps
  pub passes : ArePassed source.program (StoreBufferMachine no_gaps) labels passed
  pub gap : ℕ
  pub of_tie : set.contains left_out.tie gap ≡ true
  pub passes_it : set.contains passed gap ≡ true
  pub printed : IsReasonText source shown left_out gap labels outcome passed told.0
  pub document : TellsRun source (printed_of shown) (Without gap) labels outcome passed told.1

-- the tie of a name, and the gaps of the other names of a set
abbrev pub without_name : List ℕ → SetOfGaps → ℕ → LeftOut
without_name ties names name = record { tie = spread ties (set.insert set.empty name); others = spread ties (set.remove names name) }

-- why the tie of a name of a set is needed
abbrev pub IsReason : Litmus Listing → Shown → List ℕ → SetOfGaps → ℕ → Told → Type 0
IsReason source shown ties names name told = IsReasonOf source shown (without_name ties names name) told

-- one for each of these names, in order
abbrev pub AreReasons : Litmus Listing → Shown → List ℕ → SetOfGaps → List ℕ → List Told → Type 0
AreReasons source shown ties names [] [] = Unit {0}
AreReasons source shown ties names [] (told ∷ more) = ⊥
AreReasons source shown ties names (name ∷ more) [] = ⊥
AreReasons source shown ties names (name ∷ more) (told ∷ reasons) = IsReason source shown ties names name told × AreReasons source shown ties names more reasons

-- the lines of reasons, one after the other
abbrev pub told_lines : List Told → List ℕ
told_lines reasons = concat (map (λ told. told.0) reasons)

-- what the document says of each
abbrev pub runs_of : List Told → List (List ℕ)
runs_of reasons = map (λ told. told.1) reasons

-- the text and the runs have one for each of these names, in order
abbrev pub TellsReasons : Litmus Listing → Shown → List ℕ → SetOfGaps → List ℕ → List ℕ → List (List ℕ) → Type 0
TellsReasons source shown ties names numbers text runs =
    (reasons : List Told) × AreReasons source shown ties names numbers reasons × (text ≡ told_lines reasons) × (runs ≡ runs_of reasons)

-- the text of the reasons; where it has no byte, the line that no gap is needed
abbrev pub reasons_or_none : Shown → List ℕ → List ℕ
reasons_or_none shown [] = none_line shown
reasons_or_none shown (byte ∷ bytes) = byte ∷ bytes

-- the text has the line, and why each tie of the gaps is needed; the document has the gaps, their costs, and the same runs
pub record TellsWhy (source : Litmus Listing) (shown : Shown) (costs : TiedCosts) (gaps : SetOfGaps) (line text : List ℕ) (document : List (List ℕ)) : Type 0 where
  pub reasons : List Told
  pub each : AreReasons source shown costs.ties (names_in costs.ties gaps) (numbers_of_set (names_in costs.ties gaps)) reasons
  pub printed : text ≡ line ++ reasons_or_none shown (told_lines reasons)
  pub told : IsWhyDocument source shown costs gaps (runs_of reasons) document

-- What the text tells: the litmus text stands for this program, its gaps have these costs and ties, these gaps are those of the names
-- that are the answer; the text has the line of the answer, and why each tie of it is needed. The document says the same, and the verdict
-- what sequential runs decide.
pub record IsWhyText (litmus : List ℕ) (costs : Option (List ℕ)) (kind : ShownKind) (text : List ℕ) (document : List (List ℕ)) (verdict : Option Note) : Type 0 where
  pub source : Litmus Listing
  pub of_text : IsLitmus litmus source
  pub gap_costs : TiedCosts
  pub given : AreGiven source.program costs gap_costs
  pub names : SetOfGaps
  pub gaps : SetOfGaps
  pub of_names : gaps ≡ spread gap_costs.ties names
  pub answer : IsTheAnswer (tied_question source kind gap_costs) gap_costs.costs names
  pub told : TellsWhy source (shown_as source kind) gap_costs gaps (answer_line source.program (shown_as source kind) gaps (total gap_costs.costs names)) text document
  pub decided : IsVerdict source verdict
