-- Machines with some gaps fenced.
use Rattle.std.specs.Prelude.{ℕ, List, [], ◌∷◌, codes, nat_lt, if◌then◌else◌}
use Rattle.std.specs.FinSet as set
use Rattle.gap_sets.specs.Gaps.{SetOfGaps}
use Rattle.tso_program.specs.declared.listing.Listing.{Listing}
use Rattle.json_text.specs.Texts.{member}
use Rattle.documents.specs.declared.fenced_model.FencedModel.{FencedModel}
use Rattle.documents.specs.declared.run.Setting.TheVariants.{Machine}
use Rattle.json_values.specs.Gaps.{gaps_array}
use Rattle.documents.specs.Runs.{setting_member}

-- the gaps that are fenced, where there are any
abbrev pub fences_members : Listing → SetOfGaps → List (List ℕ)
fences_members p fences = if nat_lt 0 (set.len fences) then member (codes "fences") (gaps_array p.threads fences) ∷ [] else []

-- the machine, and the gaps that are fenced, where there are any
abbrev pub machine_members : Listing → FencedModel → List (List ℕ)
machine_members p machine = setting_member p (Machine machine.model) ∷ fences_members p machine.fences
