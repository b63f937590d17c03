-- The definitions at an example: the certificate of store buffering.
use Rattle.std.specs.Prelude.{ℕ, List, [], ◌∷◌}
use Rattle.tso_program.specs.declared.shown.Shown.TheVariants.{All}
use Rattle.tso_program.specs.Shown.{asked}
use Rattle.tso_machine.specs.Examples.{store_buffering}
use Rattle.cert_forest.specs.Trees.{Bound}
use Rattle.cert_forest.specs.StoreBuffering.{certificate}
use Rattle.gap_sets.specs.Regions.{all_sets}
use Rattle.tree_laws.specs.GapTrees.{IsValidGap}
use Rattle.tree_laws.specs.Certificates.{IsValidCertificate}
use Rattle.tree_laws.specs.Laws.{IsProved}

-- each gap costs 1
abbrev pub costs : List ℕ
costs = 1 ∷ 1 ∷ []

-- the certificate is valid, so both gaps are the answer; and a tree of one node is valid too, a bound by the two of its runs that pass one gap each
pub record StoreBufferingIsCertified : Type 0 where
  pub valid : IsValidCertificate (asked store_buffering All) costs certificate
  pub proved : IsProved (asked store_buffering All) costs certificate
  pub bounded : IsValidGap (asked store_buffering All) costs certificate.gaps certificate.runs (Bound (1 ∷ 2 ∷ [])) all_sets
