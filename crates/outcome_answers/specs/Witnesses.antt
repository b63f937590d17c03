-- What is printed for a run of which the condition's formula has some truth.
use Rattle.std.specs.Prelude.{ℕ, Bool, List, Option, None, string_bytes}
use Rattle.program_streams.specs.declared.fault.FileFault.{FileFault}
use Rattle.program_streams.specs.declared.files.TheConstants.{TEXT_LIMIT}
use Rattle.program_streams.specs.Files.{AreOfFile, IsFileFault}
use Rattle.program_streams.specs.FileLines.{file_line}
use Rattle.fencer_words.specs.declared.job.WitnessQuery.{WitnessQuery}
use Rattle.fencer_words.specs.CommandFiles.{name_of}
use Rattle.oracle.specs.declared.fault.SolveFault.TheVariants as solve
use Rattle.report.specs.Faults.{litmus_line}
use Rattle.witness_text.specs.declared.fault.WitnessFault.{WitnessFault}
use Rattle.witness_text.specs.declared.fault.WitnessFault.TheVariants as fault
use Rattle.witness_text.specs.WitnessTexts.{IsWitnessText, HasNoWitnessText}
use Rattle.answers.specs.declared.delivery.Answer.{Answer}
use Rattle.answers.specs.Deliveries.{IsDelivered, KeepAllFiles}
use Rattle.answers.specs.Documented.{DeliversNoted}
use Rattle.answers.specs.Refusals.{no_gap_line, solve_line}
use Rattle.answers.specs.Refused.{RefusalSays}
use Rattle.answers.specs.Statuses.{check_status}

-- the line of why no run is shown
abbrev pub witness_line : WitnessFault → List ℕ
witness_line (fault.Read why) = litmus_line why
witness_line (fault.NoSuchGap t k) = no_gap_line t k
witness_line fault.OutOfMemory = solve_line solve.OutOfMemory

-- what is delivered: a run that is sought, or that there is none, or the document of it, and the page of the document; with a
-- check the status is 3 where a run is found
pub record ShowsWitness (q : WitnessQuery) (bytes : List ℕ) (answer : Answer) : Type 0 where
  pub found : Bool
  pub lines : List ℕ
  pub document : List (List ℕ)
  pub told : IsWitnessText bytes q.model q.meets q.fences.items found lines document
  pub delivered : DeliversNoted (check_status q.check found) q.json (name_of q.page) lines document None answer

-- The answer to a text, with its status: what is delivered, where the files that are named for the page and the graph hold it; or
-- that one can't be written. Of the graph nothing is said. Or why no run is shown, and then no file is changed.
pub data IsWitnessOf (q : WitnessQuery) (bytes : List ℕ) (files left : List ℕ → Option (List ℕ)) : ℕ → List ℕ → Type 0 where
  shown : (answer : Answer) (status : ℕ) (text : List ℕ) → ShowsWitness q bytes answer
      → IsDelivered (name_of q.page) (name_of q.graph) left answer status text → IsWitnessOf q bytes files left status text
  refused_for : (why : WitnessFault) (text : List ℕ) → HasNoWitnessText bytes q.fences.items why → RefusalSays q.json (witness_line why) text → KeepAllFiles files left → IsWitnessOf q bytes files left 1 text

-- the answer to what is asked; or why its file isn't read, and then no file is changed
pub data IsWitnessShown (q : WitnessQuery) (input : Option (List ℕ)) (files left : List ℕ → Option (List ℕ)) : ℕ → List ℕ → Type 0 where
  of_text : (bytes : List ℕ) (status : ℕ) (text : List ℕ) → AreOfFile TEXT_LIMIT (string_bytes q.litmus) input files bytes
      → IsWitnessOf q bytes files left status text → IsWitnessShown q input files left status text
  no_text : (why : FileFault) (text : List ℕ) → IsFileFault TEXT_LIMIT (string_bytes q.litmus) input files why → RefusalSays q.json (file_line why) text → KeepAllFiles files left → IsWitnessShown q input files left 1 text
