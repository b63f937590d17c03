-- The document of a run of which the condition's formula has some truth.
use Rattle.std.specs.Prelude.{ℕ, Bool, List, [], ◌∷◌, ◌++◌, Option, Some, None, codes}
use Rattle.conditions.specs.declared.condition.Quantifier.{Quantifier}
use Rattle.tso_program.specs.declared.listing.Listing.{Listing}
use Rattle.report.specs.Litmus.{Litmus}
use Rattle.json_text.specs.Texts.{member, null_text, truth_text}
use Rattle.documents.specs.declared.run.Setting.TheVariants.{Machine}
use Rattle.documents.specs.declared.witness.Sought.{Sought}
use Rattle.documents.specs.Documents.{IsDocument}
use Rattle.json_values.specs.Gaps.{gaps_array}
use Rattle.documents.specs.Runs.{setting_member}
use Rattle.json_values.specs.Sayings.{IsSaying, verb_of}
use Rattle.json_values.specs.declared.sayings.Scope.TheVariants.{NoRun, ThisRun}

-- the text of a run, or that there is none
abbrev pub run_or_null : Option (List ℕ) → List ℕ
run_or_null None = null_text
run_or_null (Some run) = run

-- which run is sought
abbrev pub sought_members : Listing → Sought → List (List ℕ)
sought_members p sought =
    setting_member p (Machine sought.model) ∷ member (codes "fences") (gaps_array p.threads sought.fences) ∷ member (codes "meets_condition") (truth_text sought.meets) ∷ []

-- in the words of the condition's quantifier, what a run is that is found, and that there is none
abbrev pub verb_of_witness : Quantifier → Bool → Option (List ℕ) → List ℕ
verb_of_witness quantifier meets None = verb_of quantifier NoRun meets
verb_of_witness quantifier meets (Some run) = verb_of quantifier ThisRun meets

-- and the text of one, if there is one
abbrev pub witness_members : Listing → Sought → Option (List ℕ) → List ℕ → List (List ℕ)
witness_members p sought run says = sought_members p sought ++ member (codes "run") (run_or_null run) ∷ member (codes "says") says ∷ []

abbrev pub IsWitnessDocument : Litmus Listing → Sought → Option (List ℕ) → List (List ℕ) → Type 0
IsWitnessDocument source sought run document =
    (says : List ℕ) × IsSaying source.condition.quantifier (verb_of_witness source.condition.quantifier sought.meets run) says
    × IsDocument source (codes "witness") (witness_members source.program sought run says) document
