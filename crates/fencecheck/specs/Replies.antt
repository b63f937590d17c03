-- What the program prints for a command line and an input, and with which status.
use Rattle.std.specs.Prelude.{◌≡◌, ◌≢◌, ℕ, List, [], ◌∷◌, ◌++◌, Option, Some, None, codes}
use Rattle.program_streams.specs.declared.fault.FileFault.{FileFault}
use Rattle.program_streams.specs.Files.{AreOfFile, AreOfFileIfNamed, AreWithin, IsFileFault, IsNamedFileFault, IsTooLong}
use Rattle.program_streams.specs.Streams.{HoldsBytes, IsReadFault}
use Rattle.program_streams.specs.FileLines.{file_line}
use Rattle.program_streams.specs.Versions.{version_line}
use Rattle.program_streams.specs.declared.files.TheConstants.{TEXT_LIMIT}
use Rattle.fencecheck.specs.declared.parts.TheConstants.{CERTIFICATE_LIMIT}
use Rattle.fencecheck.specs.Inputs.{ArePartsOf, IsTooLongInput}
use Rattle.fencecheck.specs.Verdicts.{IsVerdict}

-- how the program is called, what it prints and with which status
abbrev pub usage_text : List ℕ
usage_text =
    codes "usage: fencecheck LITMUS CERTIFICATE [COSTS]\n"
    ++ (codes "Judges whether a certificate proves which gaps of a program are its cheapest places for MFENCE.\n"
    ++ (codes "Prints `accepted cost N set T:K ..` with status 0, or a refusal in one line with status 1.\n"
    ++ (codes "LITMUS is a litmus file, or - for standard input; COSTS says what gaps cost, 1 each without it.\n"
    ++ (codes "Without arguments the litmus text, and the certificate after it, are read from standard input.\n"
    ++ (codes "Refusals are explained in docs/formats.md.\n"
    ++ (codes "Example: fencecheck examples/SB.litmus examples/SB.cert\n"))))))

-- The reply to an input alone: a litmus text and a certificate after it, with each gap of cost 1. An input with a part that is too
-- long is refused, whatever comes after the bytes that show it.
pub data IsVerdictOnInput (input : Option (List ℕ)) : ℕ → List ℕ → Type 0 where
  judged : (bytes litmus certificate : List ℕ) (status : ℕ) (text : List ℕ) → HoldsBytes input bytes → ArePartsOf bytes litmus certificate
      → IsVerdict litmus certificate None status text → IsVerdictOnInput input status text
  no_input : (why : FileFault) → IsReadFault (IsTooLongInput input) why → IsVerdictOnInput input 1 (file_line why)

-- the names of a litmus file, of a certificate's and maybe of one of costs
pub record JudgedFiles : Type 0 where
  pub litmus : List ℕ
  pub certificate : List ℕ
  pub costs : Option (List ℕ)

-- what the files of these names hold; `-` as the litmus file is the input
pub record AreOfFiles (names : JudgedFiles) (input : Option (List ℕ)) (files : List ℕ → Option (List ℕ)) (litmus certificate : List ℕ) (costs : Option (List ℕ)) : Type 0 where
  pub of_litmus : AreOfFile TEXT_LIMIT names.litmus input files litmus
  pub of_certificate : AreWithin CERTIFICATE_LIMIT (files names.certificate) certificate
  pub of_costs : AreOfFileIfNamed TEXT_LIMIT names.costs files costs

-- why a file isn't read: the first that isn't, where those before it are
pub data IsFilesFault (names : JudgedFiles) (input : Option (List ℕ)) (files : List ℕ → Option (List ℕ)) (why : FileFault) : Type 0 where
  no_litmus : IsFileFault TEXT_LIMIT names.litmus input files why → IsFilesFault names input files why
  no_certificate : (litmus : List ℕ) → AreOfFile TEXT_LIMIT names.litmus input files litmus
      → IsReadFault (IsTooLong CERTIFICATE_LIMIT (files names.certificate)) why → IsFilesFault names input files why
  no_costs : (litmus certificate : List ℕ) → AreOfFile TEXT_LIMIT names.litmus input files litmus
      → AreWithin CERTIFICATE_LIMIT (files names.certificate) certificate → IsNamedFileFault TEXT_LIMIT names.costs files why → IsFilesFault names input files why

-- the reply to files
pub data IsReplyToFiles (names : JudgedFiles) (input : Option (List ℕ)) (files : List ℕ → Option (List ℕ)) : ℕ → List ℕ → Type 0 where
  judged : (litmus certificate : List ℕ) (costs : Option (List ℕ)) (status : ℕ) (text : List ℕ) → AreOfFiles names input files litmus certificate costs
      → IsVerdict litmus certificate costs status text → IsReplyToFiles names input files status text
  no_file : (why : FileFault) → IsFilesFault names input files why → IsReplyToFiles names input files 1 (file_line why)

-- the lines that say how the program is called
abbrev pub IsUsage : ℕ → List ℕ → Type 0
IsUsage status text = (status ≡ 2) × (text ≡ usage_text)

-- the reply to one word: `--version` asks for the version
pub data IsReplyToWord (word : List ℕ) : ℕ → List ℕ → Type 0 where
  version : word ≡ codes "--version" → IsReplyToWord word 0 (version_line (codes "fencecheck"))
  misused : (status : ℕ) (text : List ℕ) → word ≢ codes "--version" → IsUsage status text → IsReplyToWord word status text

-- what the program prints for the words after its name, an input and files, with which status
abbrev pub IsCheckOutput : List (List ℕ) → Option (List ℕ) → (List ℕ → Option (List ℕ)) → ℕ → List ℕ → Type 0
IsCheckOutput [] input files = IsVerdictOnInput input
IsCheckOutput (word ∷ []) input files = IsReplyToWord word
IsCheckOutput (litmus ∷ certificate ∷ []) input files = IsReplyToFiles (record { litmus = litmus; certificate = certificate; costs = None }) input files
IsCheckOutput (litmus ∷ certificate ∷ costs ∷ []) input files = IsReplyToFiles (record { litmus = litmus; certificate = certificate; costs = Some costs }) input files
IsCheckOutput (litmus ∷ certificate ∷ costs ∷ word ∷ words) input files = IsUsage
