-- What is printed for a trace.
use Rattle.std.specs.Prelude.{◌≡◌, ℕ, List, ◌++◌, Option, None, string_bytes}
use Rattle.std.specs.FinSet as set
use Rattle.tso_program.specs.declared.listing.Listing.{Listing}
use Rattle.program_streams.specs.declared.fault.FileFault.{FileFault}
use Rattle.program_streams.specs.declared.files.TheConstants.{TEXT_LIMIT}
use Rattle.program_streams.specs.Files.{AreOfFile, IsFileFault}
use Rattle.program_streams.specs.FileLines.{file_line}
use Rattle.fencer_words.specs.declared.job.TraceQuery.{TraceQuery}
use Rattle.fencer_words.specs.CommandFiles.{name_of}
use Rattle.documents.specs.Documents.{IsTraceDocument}
use Rattle.tso_machine.specs.declared.label.Label.{Label}
use Rattle.tso_machine.specs.declared.label.Model.{Model}
use Rattle.tso_machine.specs.Modes.{machine_of_model}
use Rattle.litmus_text.specs.Litmus.{Litmus}
use Rattle.run_views.specs.Tables.{IsTableOf}
use Rattle.answers.specs.declared.delivery.Answer.{Answer}
use Rattle.answers.specs.declared.refusals.AnswerFault.{AnswerFault}
use Rattle.answers.specs.Deliveries.{IsDelivered, KeepAllFiles}
use Rattle.answers.specs.Documented.{DeliversNoted}
use Rattle.answers.specs.Refusals.{refusal_line}
use Rattle.answers.specs.Refused.{RefusalSays}
use Rattle.answers.specs.Replays.{label_words_text, PrintsRun, HasNoRun}

-- the table is that of the steps that the labels make in the unfenced program
abbrev pub IsTraceTable : Litmus Listing → Model → List Label → List ℕ → Type 0
IsTraceTable litmus model = IsTableOf litmus (machine_of_model litmus.program set.empty model)

-- the lines are that table, and after it an ending
abbrev pub AreTraceLines : Litmus Listing → Model → List Label → List ℕ → List ℕ → Type 0
AreTraceLines litmus model labels ending lines = (table : List ℕ) × IsTraceTable litmus model labels table × (lines ≡ table ++ ending)

-- the lines are the table of a run, and after it those that a replay prints of it; the document is that of the same run
pub record PrintsTrace (model : Model) (labels bytes lines : List ℕ) (document : List (List ℕ)) : Type 0 where
  pub ending : List ℕ
  pub run : PrintsRun model labels bytes ending
  pub printed : AreTraceLines run.litmus model run.steps ending lines
  pub told : IsTraceDocument run.litmus model run.steps run.outcome run.passed document

-- what is delivered: the lines or the document, and the page of the document
pub record DeliversTrace (q : TraceQuery) (bytes : List ℕ) (answer : Answer) : Type 0 where
  pub lines : List ℕ
  pub document : List (List ℕ)
  pub traced : PrintsTrace q.run.model (label_words_text q.run.labels.items) bytes lines document
  pub delivered : DeliversNoted 0 q.json (name_of q.page) lines document None answer

-- The answer to the text of a trace, with its status: what is delivered, where the files that are named for the page and the graph
-- hold it; or that one can't be written. Of the graph nothing is said. Or the line of a refusal, and then no file is changed.
pub data IsTraceOf (q : TraceQuery) (bytes : List ℕ) (files left : List ℕ → Option (List ℕ)) : ℕ → List ℕ → Type 0 where
  traced : (answer : Answer) (status : ℕ) (text : List ℕ) → DeliversTrace q bytes answer
      → IsDelivered (name_of q.page) (name_of q.graph) left answer status text → IsTraceOf q bytes files left status text
  refused_for : (why : AnswerFault) (text : List ℕ) → HasNoRun q.run.model (label_words_text q.run.labels.items) bytes why → RefusalSays q.json (refusal_line why) text → KeepAllFiles files left → IsTraceOf q bytes files left 1 text

-- the answer to a trace; or why its file isn't read, and then no file is changed
pub data IsTrace (q : TraceQuery) (input : Option (List ℕ)) (files left : List ℕ → Option (List ℕ)) : ℕ → List ℕ → Type 0 where
  of_text : (bytes : List ℕ) (status : ℕ) (text : List ℕ) → AreOfFile TEXT_LIMIT (string_bytes q.run.litmus) input files bytes
      → IsTraceOf q bytes files left status text → IsTrace q input files left status text
  no_text : (why : FileFault) (text : List ℕ) → IsFileFault TEXT_LIMIT (string_bytes q.run.litmus) input files why → RefusalSays q.json (file_line why) text → KeepAllFiles files left → IsTrace q input files left 1 text
