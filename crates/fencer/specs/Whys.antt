-- What is printed for a question why the fences of a placement are needed.
use Rattle.std.specs.Prelude.{ℕ, List, Option, string_bytes}
use Rattle.program_streams.specs.declared.fault.FileFault.{FileFault}
use Rattle.program_streams.specs.FileLines.{file_line}
use Rattle.fencer_words.specs.declared.job.WhyQuery.{WhyQuery}
use Rattle.fencer_words.specs.CommandFiles.{name_of}
use Rattle.documents.specs.declared.note.Note.{Note}
use Rattle.placed_text.specs.declared.fault.TextFault.{TextFault}
use Rattle.placed_text.specs.TextFaults.{HasNoPlacedText}
use Rattle.placed_text.specs.WhyTexts.{IsWhyText}
use Rattle.answers.specs.declared.delivery.Answer.{Answer}
use Rattle.answers.specs.Deliveries.{IsDelivered, KeepAllFiles}
use Rattle.answers.specs.Documented.{DeliversNoted}
use Rattle.answers.specs.InputTexts.{AreTexts, HasNoTexts}
use Rattle.fencer.specs.Placements.{text_fault_line}
use Rattle.answers.specs.Refused.{RefusalSays}

-- what is delivered: a text with a run for each gap of the answer, or its document with what sequential runs decide, and the page of
-- the document
pub record Explains (q : WhyQuery) (litmus : List ℕ) (costs : Option (List ℕ)) (answer : Answer) : Type 0 where
  pub lines : List ℕ
  pub document : List (List ℕ)
  pub verdict : Option Note
  pub told : IsWhyText litmus costs q.placement.kind lines document verdict
  pub delivered : DeliversNoted 0 q.placement.json (name_of q.page) lines document verdict answer

-- The answer to texts, with its status: what is delivered, where the files that are named for the page and the graphs hold it; or that
-- one can't be written. Of the graphs nothing is said. Or why there is no answer, and then no file is changed.
pub data IsExplainedText (q : WhyQuery) (litmus : List ℕ) (costs : Option (List ℕ)) (files left : List ℕ → Option (List ℕ)) : ℕ → List ℕ → Type 0 where
  explained : (answer : Answer) (status : ℕ) (text : List ℕ) → Explains q litmus costs answer
      → IsDelivered (name_of q.page) (name_of q.graphs) left answer status text → IsExplainedText q litmus costs files left status text
  refused_for : (why : TextFault) (text : List ℕ) → HasNoPlacedText litmus costs q.placement.workers why → RefusalSays q.placement.json (text_fault_line why) text → KeepAllFiles files left → IsExplainedText q litmus costs files left 1 text

-- the answer to what is asked; or why a file isn't read, and then no file is changed
pub data IsExplained (q : WhyQuery) (input : Option (List ℕ)) (files left : List ℕ → Option (List ℕ)) : ℕ → List ℕ → Type 0 where
  of_texts : (litmus : List ℕ) (costs : Option (List ℕ)) (status : ℕ) (text : List ℕ) → AreTexts (string_bytes q.placement.litmus) (name_of q.placement.costs) input files litmus costs
      → IsExplainedText q litmus costs files left status text → IsExplained q input files left status text
  no_texts : (why : FileFault) (text : List ℕ) → HasNoTexts (string_bytes q.placement.litmus) (name_of q.placement.costs) input files why → RefusalSays q.placement.json (file_line why) text → KeepAllFiles files left → IsExplained q input files left 1 text
