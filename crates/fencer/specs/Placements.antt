-- What is printed for a placement, and what its files hold. `files` says what files hold before it, and `left` what they hold
-- afterwards, where that is known.
use Rattle.std.specs.Prelude.{◌≡◌, ℕ, Bool, List, ◌++◌, Option, None, Some, codes, nat_lt, string_bytes}
use Rattle.std.specs.FinSet as set
use Rattle.program_streams.specs.declared.fault.FileFault.{FileFault}
use Rattle.program_streams.specs.FileLines.{file_line}
use Rattle.tso_program.specs.declared.shown.ShownKind.{ShownKind}
use Rattle.fencer_words.specs.declared.job.Placement.{Placement}
use Rattle.fencer_words.specs.CommandFiles.{name_of}
use Rattle.placed_text.specs.declared.fault.TextFault.{TextFault}
use Rattle.placed_text.specs.declared.fault.TextFault.TheVariants as fault
use Rattle.placed_text.specs.declared.writing.PlacedText.{PlacedText}
use Rattle.placed_text.specs.PlacedTexts.{IsAnswerText, IsPlacedText}
use Rattle.placed_text.specs.TextFaults.{HasNoPlacedText}
use Rattle.report.specs.Faults.{refused, litmus_line, costs_line}
use Rattle.answers.specs.declared.delivery.Answer.{Answer}
use Rattle.answers.specs.declared.inserted.Unkept.{Unkept}
use Rattle.answers.specs.Deliveries.{AreTwoNames, IsDelivered, KeepAllFiles}
use Rattle.answers.specs.Documented.{printed as either}
use Rattle.answers.specs.Inserted.{HoldsInserted, IsInserted, IsNotKept, unkept_line}
use Rattle.answers.specs.InputTexts.{AreTexts, HasNoTexts}
use Rattle.answers.specs.Notes.{IsNoted}
use Rattle.answers.specs.Refused.{RefusalSays}
use Rattle.answers.specs.Statuses.{check_status}

-- a text that isn't read is reported as a fault of its part
abbrev pub text_fault_line : TextFault → List ℕ
text_fault_line (fault.Read why) = litmus_line why
text_fault_line (fault.CostText why) = costs_line why
text_fault_line fault.Workers = refused (codes "place 1 Workers")
text_fault_line fault.OutOfMemory = refused (codes "place 5 OutOfMemory")

-- ---- what is placed

-- the texts say what is placed in the program of a litmus text, and where a file is named for the certificate, its text is one
abbrev pub AreTextsFor : Option (List ℕ) → List ℕ → Option (List ℕ) → ShownKind → PlacedText → Type 0
AreTextsFor None litmus costs kind found = IsAnswerText litmus costs kind found.texts
AreTextsFor (Some name) litmus costs kind found = IsPlacedText litmus costs kind found

-- What is delivered of what is placed: the lines are the answer and the program with its fences, or in their place the document with
-- its notes; the first file that is written has the program, the second the certificate; with a check the status is 3 where the
-- answer has a gap.
pub record DeliversTexts (found : PlacedText) (check json : Bool) (answer : Answer) : Type 0 where
  pub document : List ℕ
  pub noted : IsNoted found.texts.verdict found.texts.document document
  pub printed : answer.lines.items ≡ either json (found.texts.answer.items ++ found.texts.program.items) document
  pub ends : answer.status ≡ check_status check (nat_lt 0 (set.len found.texts.gaps))
  pub as_asked : answer.json ≡ json
  pub program : answer.first ≡ found.texts.program.items
  pub proof : answer.second ≡ found.certificate

-- what is delivered of what is placed in the program of a litmus text, and that text with the fences put in
pub record PrintsPlacement (q : Placement) (litmus : List ℕ) (costs : Option (List ℕ)) (answer : Answer) (inserted : Option (List ℕ)) : Type 0 where
  pub found : PlacedText
  pub placed : AreTextsFor (name_of q.certificate) litmus costs q.kind found
  pub delivered : DeliversTexts found q.check q.json answer
  pub put_in : IsInserted (name_of q.insert) found.texts.program.items inserted

-- The litmus text with the fences put in is kept, where a file is named for it, and what else is placed is delivered; the first is
-- still held where its file is none of those that are written after it. Or the text is not kept, which is reported.
pub data AreDelivered (q : Placement) (answer : Answer) (inserted : Option (List ℕ)) (files left : List ℕ → Option (List ℕ)) : ℕ → List ℕ → Type 0 where
  all : (status : ℕ) (text : List ℕ) → (AreTwoNames (name_of q.insert) (name_of q.output) → AreTwoNames (name_of q.insert) (name_of q.certificate) → HoldsInserted (name_of q.insert) inserted left)
      → IsDelivered (name_of q.output) (name_of q.certificate) left answer status text → AreDelivered q answer inserted files left status text
  unkept_for : (why : Unkept) (text : List ℕ) → IsNotKept (name_of q.insert) inserted files left why → RefusalSays q.json (unkept_line why) text → AreDelivered q answer inserted files left 1 text

-- ---- answers, each with its status

-- the answer to texts; or why there is no answer, and then no file is changed
pub data IsJudged (q : Placement) (litmus : List ℕ) (costs : Option (List ℕ)) (files left : List ℕ → Option (List ℕ)) : ℕ → List ℕ → Type 0 where
  placed : (answer : Answer) (inserted : Option (List ℕ)) (status : ℕ) (text : List ℕ) → PrintsPlacement q litmus costs answer inserted
      → AreDelivered q answer inserted files left status text → IsJudged q litmus costs files left status text
  refused_for : (why : TextFault) (text : List ℕ) → HasNoPlacedText litmus costs q.workers why → RefusalSays q.json (text_fault_line why) text → KeepAllFiles files left → IsJudged q litmus costs files left 1 text

-- the answer to what is asked; or why a file isn't read, and then no file is changed
pub data IsPlaced (q : Placement) (input : Option (List ℕ)) (files left : List ℕ → Option (List ℕ)) : ℕ → List ℕ → Type 0 where
  of_texts : (litmus : List ℕ) (costs : Option (List ℕ)) (status : ℕ) (text : List ℕ) → AreTexts (string_bytes q.litmus) (name_of q.costs) input files litmus costs
      → IsJudged q litmus costs files left status text → IsPlaced q input files left status text
  no_texts : (why : FileFault) (text : List ℕ) → HasNoTexts (string_bytes q.litmus) (name_of q.costs) input files why → RefusalSays q.json (file_line why) text → KeepAllFiles files left → IsPlaced q input files left 1 text
