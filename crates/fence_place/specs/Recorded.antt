-- The record of a search as a certificate has it: the runs of its splits, and its gap tree.
use Rattle.std.specs.Prelude.{◌≡◌, ◌≢◌, ℕ, zero, suc, ◌+◌, true, List, [], ◌∷◌, Some, slice_get, length}
use Rattle.std.specs.List.{AllPairs}
use Rattle.gap_sets.specs.Regions.{open_gaps}
use Rattle.tso_machine.specs.declared.label.Label.{Label}
use Rattle.cert_forest.specs.Trees.{Gap, Split, Bound, GapTrees, NoGap, MoreGaps}
use Rattle.oracle.specs.Facts.{Foreign}
use Rattle.search_core.specs.declared.entry.Entry.{Entry}
use Rattle.search_core.specs.declared.entry.Status.TheVariants as status
use Rattle.search_core.specs.Entries.{is_closed}

-- no two of the runs are equal
abbrev pub AreDistinct : List (List Label) → Type 0
AreDistinct runs = AllPairs (λ a b. a ≢ b) runs

-- each of the runs is that of a split node
abbrev pub AreSplitRuns : List Entry → List (List Label) → Type 0
AreSplitRuns entries runs = (number : ℕ) (labels : List Label) → slice_get runs number ≡ Some labels →
    (place : ℕ) × (e : Entry) × (f : Foreign) × (first : ℕ) × (slice_get entries place ≡ Some e) × (e.status ≡ status.Split f first) × (f.labels ≡ labels)

module _ (entries : List Entry) (runs : List (List Label)) where
  abbrev mutual
    -- the tree says what became of the node at this place and of its descendants: of a split node it has the number of the run, and of a closed one a bound without runs
    pub IsRecorded : Gap → ℕ → Type 0
    IsRecorded (Split number children) place =
        (e : Entry) × (f : Foreign) × (first : ℕ) × (slice_get entries place ≡ Some e) × (e.status ≡ status.Split f first) × (slice_get runs number ≡ Some f.labels)
        × AreRecorded children first (length (open_gaps f.passed e.node.never))
    IsRecorded (Bound []) place = (e : Entry) × (slice_get entries place ≡ Some e) × (is_closed e ≡ true)
    IsRecorded (Bound (number ∷ numbers)) place = ⊥

    -- so do so many trees, of the nodes from this place on
    pub AreRecorded : GapTrees → ℕ → ℕ → Type 0
    AreRecorded NoGap place zero = Unit {0}
    AreRecorded NoGap place (suc count) = ⊥
    AreRecorded (MoreGaps tree trees) place zero = ⊥
    AreRecorded (MoreGaps tree trees) place (suc count) = IsRecorded tree place × AreRecorded trees (place + 1) count
