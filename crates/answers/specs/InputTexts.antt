-- The texts of a program and of its costs, by the names of their files; `files` says what files hold.
use Rattle.std.specs.Prelude.{ℕ, List, Option}
use Rattle.program_streams.specs.declared.fault.FileFault.{FileFault}
use Rattle.program_streams.specs.declared.files.TheConstants.{TEXT_LIMIT}
use Rattle.program_streams.specs.Files.{AreOfFile, AreOfFileIfNamed, IsFileFault, IsNamedFileFault}

-- what the files hold that are read; `-` as the litmus file is the input
pub record AreTexts (name : List ℕ) (cost_name : Option (List ℕ)) (input : Option (List ℕ)) (files : List ℕ → Option (List ℕ)) (litmus : List ℕ) (costs : Option (List ℕ)) : Type 0 where
  pub of_litmus : AreOfFile TEXT_LIMIT name input files litmus
  pub of_costs : AreOfFileIfNamed TEXT_LIMIT cost_name files costs

-- why one of them isn't read; the litmus file comes first
pub data HasNoTexts (name : List ℕ) (cost_name : Option (List ℕ)) (input : Option (List ℕ)) (files : List ℕ → Option (List ℕ)) (why : FileFault) : Type 0 where
  no_litmus : IsFileFault TEXT_LIMIT name input files why → HasNoTexts name cost_name input files why
  no_costs : (litmus : List ℕ) → AreOfFile TEXT_LIMIT name input files litmus → IsNamedFileFault TEXT_LIMIT cost_name files why → HasNoTexts name cost_name input files why
