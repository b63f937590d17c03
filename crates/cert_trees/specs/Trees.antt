-- Trees of a certificate, without where they lie in memory.
use Rattle.std.specs.Prelude.{ℕ, suc, List, [], ◌∷◌}
use Rattle.candidate_executions.specs.declared.event.Kind.{Kind}
use Rattle.cert_trees.specs.declared.tree.AccessId.{AccessId}

-- a cover tree, and several in order
mutual
  pub data Cover : Type 0 where
    Value : ℕ → Covers → Cover
    Source : AccessId → Covers → Cover
    Order : AccessId → AccessId → Cover → Cover → Cover
    Cycle : Kind → List AccessId → Cover
    Known : ℕ → Cover

  pub data Covers : Type 0 where
    NoCover : Covers
    MoreCovers : Cover → Covers → Covers

-- a gap tree, and several in order
mutual
  pub data Gap : Type 0 where
    Split : ℕ → GapTrees → Gap
    Bound : List ℕ → Gap

  pub data GapTrees : Type 0 where
    NoGap : GapTrees
    MoreGaps : Gap → GapTrees → GapTrees

abbrev pub covers_of : List Cover → Covers
covers_of [] = NoCover
covers_of (t ∷ ts) = MoreCovers t (covers_of ts)

abbrev pub gap_trees_of : List Gap → GapTrees
gap_trees_of [] = NoGap
gap_trees_of (t ∷ ts) = MoreGaps t (gap_trees_of ts)

abbrev pub cover_list : Covers → List Cover
cover_list NoCover = []
cover_list (MoreCovers t ts) = t ∷ cover_list ts

abbrev pub gap_list : GapTrees → List Gap
gap_list NoGap = []
gap_list (MoreGaps t ts) = t ∷ gap_list ts

abbrev pub count_covers : Covers → ℕ
count_covers NoCover = 0
count_covers (MoreCovers t ts) = suc (count_covers ts)

abbrev pub count_gaps : GapTrees → ℕ
count_gaps NoGap = 0
count_gaps (MoreGaps t ts) = suc (count_gaps ts)
