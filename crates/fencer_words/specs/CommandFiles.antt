-- The files that a job names, and where their names clash.
use Rattle.std.specs.Prelude.{ℕ, Bool, false, ◌||◌, List, Option, Some, None, codes, option_map, string_bytes, if◌then◌else◌}
use Rattle.std.specs.Str.{bytes_eq}
use Rattle.std.specs.declared.string.String.{String}
use Rattle.fencer_words.specs.declared.job.Job.{Job, TheVariants.Replay, TheVariants.Trace, TheVariants.Outcomes, TheVariants.Place, TheVariants.Why, TheVariants.Gaps, TheVariants.Witness, TheVariants.Survey}

-- the name of a file, where one is given
abbrev pub name_of : {Z : Type 0} → Option (String Z) → Option (List ℕ)
name_of name = option_map string_bytes name

-- the litmus file, where it is not the program's input
abbrev pub file_of_litmus : List ℕ → Option (List ℕ)
file_of_litmus litmus = if bytes_eq litmus (codes "-") then None else Some litmus

-- the files that are read, the litmus file and that of costs, and those that are written, where they are named
pub record FileNames : Type 0 where
  pub litmus : Option (List ℕ)
  pub costs : Option (List ℕ)
  pub first : Option (List ℕ)
  pub second : Option (List ℕ)
  pub third : Option (List ℕ)

-- the third file that a job writes has the litmus text with the fences put in
abbrev pub third_of : Job → Option (List ℕ)
third_of (Place asked) = name_of asked.insert
third_of _ = None

-- none is named
abbrev pub no_files : FileNames
no_files = record { litmus = None; costs = None; first = None; second = None; third = None }

-- of a job: the first file that is written has the fenced program or the page, the second the certificate or the graphs
abbrev pub files_of : Job → FileNames
files_of (Replay asked) = record { litmus = file_of_litmus (string_bytes asked.litmus); costs = None; first = None; second = None; third = None }
files_of (Trace asked) = record { litmus = file_of_litmus (string_bytes asked.run.litmus); costs = None; first = name_of asked.page; second = name_of asked.graph; third = None }
files_of (Outcomes asked) = record { litmus = file_of_litmus (string_bytes asked.litmus); costs = None; first = None; second = None; third = None }
files_of (Place asked) = record { litmus = file_of_litmus (string_bytes asked.litmus); costs = name_of asked.costs; first = name_of asked.output; second = name_of asked.certificate; third = name_of asked.insert }
files_of (Why asked) = record { litmus = file_of_litmus (string_bytes asked.placement.litmus); costs = name_of asked.placement.costs; first = name_of asked.page; second = name_of asked.graphs; third = None }
files_of (Gaps asked) = record { litmus = file_of_litmus (string_bytes asked.litmus); costs = name_of asked.costs; first = None; second = None; third = None }
files_of (Witness asked) = record { litmus = file_of_litmus (string_bytes asked.litmus); costs = None; first = name_of asked.page; second = name_of asked.graph; third = None }
files_of (Survey asked) = no_files

-- both names are given, and are the same
abbrev pub is_same : Option (List ℕ) → Option (List ℕ) → Bool
is_same None other = false
is_same (Some name) None = false
is_same (Some name) (Some other) = bytes_eq name other

-- a file that is written is one that is read, or is written twice
abbrev pub has_clash : FileNames → Bool
has_clash names =
    is_same names.first names.litmus
    || (is_same names.first names.costs
    || (is_same names.second names.litmus
    || (is_same names.second names.costs
    || (is_same names.first names.second
    || (is_same names.third names.litmus
    || (is_same names.third names.costs
    || (is_same names.third names.first || is_same names.third names.second)))))))
