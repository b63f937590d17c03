-- The answer to a question about the text of a file.
use Rattle.std.specs.Prelude.{ℕ, Bool, List, Option}
use Rattle.program_streams.specs.declared.fault.FileFault.{FileFault}
use Rattle.program_streams.specs.declared.files.TheConstants.{TEXT_LIMIT}
use Rattle.program_streams.specs.Files.{AreOfFile, IsFileFault}
use Rattle.program_streams.specs.FileLines.{file_line}
use Rattle.answers.specs.declared.refusals.AnswerFault.{AnswerFault}
use Rattle.answers.specs.Refusals.{refusal_line}
use Rattle.answers.specs.Refused.{RefusalSays}

-- The answer, with its status, where `Answers` says with which status which lines answer a text, and `Refuses` why none may: such
-- lines, or the line of such a refusal, or that of why the file isn't read; with `json` the document of the refusal in place of its
-- line.
pub data IsAnswerTo (Answers : List ℕ → ℕ → List ℕ → Type 0) (Refuses : List ℕ → AnswerFault → Type 0) (json : Bool) (path : List ℕ) (input : Option (List ℕ)) (files : List ℕ → Option (List ℕ)) : ℕ → List ℕ → Type 0 where
  answered : (bytes : List ℕ) (status : ℕ) (lines : List ℕ) → AreOfFile TEXT_LIMIT path input files bytes → Answers bytes status lines → IsAnswerTo Answers Refuses json path input files status lines
  refused : (bytes : List ℕ) (why : AnswerFault) (text : List ℕ) → AreOfFile TEXT_LIMIT path input files bytes → Refuses bytes why → RefusalSays json (refusal_line why) text → IsAnswerTo Answers Refuses json path input files 1 text
  no_file : (why : FileFault) (text : List ℕ) → IsFileFault TEXT_LIMIT path input files why → RefusalSays json (file_line why) text → IsAnswerTo Answers Refuses json path input files 1 text
