-- What is printed of the files of a survey. `files` says what files hold.
use Rattle.std.specs.Prelude.{◌≡◌, ◌==◌, ◌||◌, ◌&&◌, ℕ, Bool, true, false, List, [], ◌∷◌, ◌++◌, Option, Some, None, codes, length, map, nat_lt, not, replicate, string_bytes, take, if◌then◌else◌}
use Rattle.std.specs.Io.KnownBytes.{Appends}
use Rattle.std.specs.List.{list_any}
use Rattle.std.specs.Str.{bytes_eq}
use Rattle.program_streams.specs.declared.fault.FileFault.{FileFault}
use Rattle.program_streams.specs.declared.files.TheConstants.{TEXT_LIMIT}
use Rattle.program_streams.specs.Files.{AreOfFile, IsFileFault, ReadsOfInput}
use Rattle.program_streams.specs.FileLines.{file_line}
use Rattle.tso_program.specs.declared.listing.Listing.{Listing}
use Rattle.tso_program.specs.Listings.{gap_count}
use Rattle.litmus_text.specs.Litmus.{Litmus}
use Rattle.litmus_text.specs.ReadFault.{ReadFault}
use Rattle.litmus_text.specs.Texts.{IsLitmus}
use Rattle.fencer_words.specs.declared.job.SurveyOptions.{SurveyOptions}
use Rattle.fencer_words.specs.declared.job.SurveyQuery.{SurveyQuery}
use Rattle.placed_text.specs.declared.fault.TextFault.{TextFault}
use Rattle.placed_text.specs.TextFaults.{HasNoPlacedText, IsRefusedText}
use Rattle.survey_text.specs.declared.finding.SurveyText.{SurveyText}
use Rattle.survey_text.specs.Surveys.{IsSurveyText}
use Rattle.fencer.specs.declared.surveys.Block.{Block}
use Rattle.documents.specs.Documents.{IsRefusalDocument}
use Rattle.answers.specs.Documented.{printed}
use Rattle.answers.specs.Notes.{IsNoted}
use Rattle.gap_list.specs.TiedFiles.{IsTiedFile}
use Rattle.fencer.specs.Placements.{text_fault_line}
use Rattle.answers.specs.Statuses.{check_status}

-- ---- one file

-- `file NAME`, and a text after it
abbrev pub block_text : List ℕ → List ℕ → List ℕ
block_text name text = codes "file " ++ name ++ 10 ∷ text

-- `row ROW NAME`, the same in a few words
abbrev pub row_line : List ℕ → List ℕ → List ℕ
row_line name row = codes "row " ++ row ++ 32 ∷ name ++ 10 ∷ []

abbrev pub refused_row : List ℕ
refused_row = codes "refused"

-- the status of what is found: 3 where the condition fails sequentially or, where that is not allowed, an instruction is executed by
-- no sequential run
abbrev pub survey_status : Bool → SurveyText → ℕ
survey_status allow_unexecuted told = check_status true (told.fails || (told.has_unexecuted && not allow_unexecuted))

-- the name of a file as messages have it
abbrev pub shown_name : List ℕ → List ℕ
shown_name name = if bytes_eq name (codes "-") then codes "<stdin>" else name

-- why nothing is found: the file's name and a line, or the document of the line, which names the file
abbrev pub RefusedBlock : Bool → List ℕ → List ℕ → List ℕ → Type 0
RefusedBlock false name line text = text ≡ block_text name line
RefusedBlock true name line text = (document : IsRefusalDocument line text) × (document.remark.file ≡ shown_name name)

-- the block says that the file is refused, for the reason that this line gives
pub record IsRefused (json : Bool) (name line : List ℕ) (block : Block) : Type 0 where
  pub ends : block.status ≡ 1
  pub printed : RefusedBlock json name line block.lines.items
  pub summed : block.row.items ≡ row_line name refused_row

-- the block says what is found, or the document says it with its notes
pub record IsFound (options : SurveyOptions) (name : List ℕ) (told : SurveyText) (block : Block) : Type 0 where
  pub document : List ℕ
  pub noted : IsNoted told.verdict told.document document
  pub ends : block.status ≡ survey_status options.allow_unexecuted told
  pub said : block.lines.items ≡ printed options.json (block_text name told.lines.items) document
  pub summed : block.row.items ≡ row_line name told.row.items

-- the text of costs by which a text's program is looked at: none, or a cost file of gaps which go together, where each gap costs 1,
-- unless the text is refused for another reason than memory; of which gaps go together nothing is said
abbrev pub AreTied : Bool → List ℕ → Option (List ℕ) → Type 0
AreTied false bytes costs = costs ≡ None
AreTied true bytes None = (why : ReadFault) × IsRefusedText bytes why
AreTied true bytes (Some file) = (source : Litmus Listing) × IsLitmus bytes source × IsTiedFile source.program (replicate (gap_count source.program.threads) 1) file

-- what is printed of a file with this text, with its status: what is found of its program, or why nothing is
pub data IsBlockOfText (options : SurveyOptions) (name bytes : List ℕ) : ℕ → List ℕ → List ℕ → Type 0 where
  found : (told : SurveyText) (costs : Option (List ℕ)) (document : List ℕ) → AreTied options.ties bytes costs → IsSurveyText name bytes costs told → IsNoted told.verdict told.document document
      → IsBlockOfText options name bytes (survey_status options.allow_unexecuted told) (printed options.json (block_text name told.lines.items) document) (row_line name told.row.items)
  refused_for : (why : TextFault) (costs : Option (List ℕ)) (text : List ℕ) → AreTied options.ties bytes costs → HasNoPlacedText bytes costs options.workers why → RefusedBlock options.json name (text_fault_line why) text → IsBlockOfText options name bytes 1 text (row_line name refused_row)

-- what is printed of the file of a name, with its status; or why it isn't read
pub data IsBlock (options : SurveyOptions) (files : List ℕ → Option (List ℕ)) (name : List ℕ) (input : Option (List ℕ)) : ℕ → List ℕ → List ℕ → Type 0 where
  of_text : (bytes : List ℕ) (status : ℕ) (text row : List ℕ) → AreOfFile TEXT_LIMIT name input files bytes → IsBlockOfText options name bytes status text row → IsBlock options files name input status text row
  no_text : (why : FileFault) (text : List ℕ) → IsFileFault TEXT_LIMIT name input files why → RefusedBlock options.json name (file_line why) text → IsBlock options files name input 1 text (row_line name refused_row)

-- ---- all files

-- the status of blocks with these statuses: 1 where a file is refused, otherwise 3 where a fault is found in one, otherwise 0
abbrev pub status_by : Bool → Bool → ℕ
status_by is_refused fails = if is_refused then 1 else check_status true fails

abbrev pub worst : List ℕ → ℕ
worst statuses = status_by (list_any (λ status. status == 1) statuses) (list_any (λ status. status == 3) statuses)

-- A block and a row for each file, one after the other, with the statuses of the blocks; each reads what the input has left, and `left`
-- is what it has left after the last.
pub data AreBlocks (options : SurveyOptions) (files : List ℕ → Option (List ℕ)) (input : Option (List ℕ)) : List (List ℕ) → Option (List ℕ) → List ℕ → List ℕ → List ℕ → Type 0 where
  none : AreBlocks options files input [] input [] [] []
  more : (names : List (List ℕ)) (name : List ℕ) (mid left : Option (List ℕ)) (statuses : List ℕ) (status : ℕ) (text block rows row : List ℕ)
      → AreBlocks options files input names mid statuses text rows → IsBlock options files name mid status block row → ReadsOfInput TEXT_LIMIT name mid left
      → AreBlocks options files input (names ++ name ∷ []) left (statuses ++ status ∷ []) (text ++ block) (rows ++ row)

-- after the blocks of several files their table, but not after documents
abbrev pub heading_line : List ℕ
heading_line = codes "table sequential buffered unexecuted condition answer file\n"

abbrev pub table_text : Bool → ℕ → List ℕ → List ℕ
table_text json count rows = if not json && nat_lt 1 count then heading_line ++ rows else []

-- What is printed, with its status: the blocks of all files and their table; or, where memory is wanting for what comes next, the
-- blocks of the first so many files, with status 1.
pub data IsSurvey (asked : SurveyQuery) (input : Option (List ℕ)) (files : List ℕ → Option (List ℕ)) : ℕ → List ℕ → Type 0 where
  of_all : (left : Option (List ℕ)) (statuses blocks rows : List ℕ) → AreBlocks asked.options files input (map string_bytes asked.files.items) left statuses blocks rows
      → IsSurvey asked input files (worst statuses) (blocks ++ table_text asked.options.json (length asked.files.items) rows)
  of_first : (count : ℕ) (left : Option (List ℕ)) (statuses blocks rows : List ℕ) → AreBlocks asked.options files input (take count (map string_bytes asked.files.items)) left statuses blocks rows
      → IsSurvey asked input files 1 blocks

-- the blocks of these files were written, and nothing else; this is their status
pub record AreWritten (options : SurveyOptions) (files : List ℕ → Option (List ℕ)) (input : Option (List ℕ)) (names : List (List ℕ)) (left : Option (List ℕ)) (status : ℕ) (rows : List ℕ) (old new : Option (List ℕ)) : Type 0 where
  pub statuses : List ℕ
  pub blocks : List ℕ
  pub are : AreBlocks options files input names left statuses blocks rows
  pub ends : status ≡ worst statuses
  pub written : Appends old new blocks

-- ---- what is read of the input

-- for the files of these names, one after the other
pub data ReadsOfFiles : List (List ℕ) → Option (List ℕ) → Option (List ℕ) → Type 0 where
  nothing : (old : Option (List ℕ)) → ReadsOfFiles [] old old
  one_more : (names : List (List ℕ)) (name : List ℕ) (old mid new : Option (List ℕ)) → ReadsOfFiles names old mid → ReadsOfInput TEXT_LIMIT name mid new → ReadsOfFiles (names ++ name ∷ []) old new

-- for the first so many of these files: for all of them, unless memory runs out
abbrev pub ReadsOfSomeFiles : List (List ℕ) → Option (List ℕ) → Option (List ℕ) → Type 0
ReadsOfSomeFiles names old new = (count : ℕ) × ReadsOfFiles (take count names) old new
