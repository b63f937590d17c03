-- How the runs of a record are listed, and how its gap tree is put together.
use Rattle.std.specs.Prelude.{◌≡◌, ℕ, List, [], ◌∷◌, ◌++◌, Some, slice_get, length, Contains}
use Rattle.tso_machine.specs.declared.label.Label.{Label}
use Rattle.oracle.specs.Facts.{Foreign}
use Rattle.cert_forest.specs.GapNode.{GapNode}
use Rattle.cert_forest.specs.Trees.{Gap, gap_trees_of}
use Rattle.cert_forest.specs.GapNodes.{spell_gap, spell_gaps}
use Rattle.search_core.specs.declared.entry.Entry.{Entry}
use Rattle.search_core.specs.declared.entry.Status.TheVariants as status
use Rattle.search_core.specs.declared.finished.SettledEvent.{SettledEvent}
use Rattle.search_core.specs.declared.finished.SettledEvent.TheVariants as event
use Rattle.fence_place.specs.Recorded.{IsRecorded, AreRecorded}

-- the run of the split node at this place has this number
pub record IsNumberOf (entries : List Entry) (runs : List (List Label)) (place number : ℕ) : Type 0 where
  pub runs_at : (e : Entry) (f : Foreign) (first : ℕ) → slice_get entries place ≡ Some e → e.status ≡ status.Split f first → slice_get runs number ≡ Some f.labels

-- so it is with each split node so far
abbrev pub AreNumbersOf : List Entry → List (List Label) → List ℕ → Type 0
AreNumbersOf entries runs numbers = (place number : ℕ) → slice_get numbers place ≡ Some number → IsNumberOf entries runs place number

-- the run is the one of this number: it is there already, or is put after the others
pub data ListsRun (labels : List Label) (number : ℕ) (runs after : List (List Label)) : Type 0 where
  is_there : slice_get runs number ≡ Some labels → after ≡ runs → ListsRun labels number runs after
  is_new : ¬ Contains runs labels → number ≡ length runs → after ≡ runs ++ labels ∷ [] → ListsRun labels number runs after

-- the runs, and that of a split among them
abbrev pub ListsEvent : SettledEvent → ℕ → List (List Label) → List (List Label) → Type 0
ListsEvent (event.Split run) number runs after = ListsRun run.now.labels number runs after
ListsEvent v number runs after = after ≡ runs

module _ (entries : List Entry) (numbers : List ℕ) where
  -- for all runs that have these numbers, the tree says what became of the node at this place and of its descendants
  abbrev pub IsNumbered : Gap → ℕ → Type 0
  IsNumbered tree place = (runs : List (List Label)) → AreNumbersOf entries runs numbers → IsRecorded entries runs tree place

  -- the nodes of a tree that says so of the node at this place are put after the others
  pub record PushesRecorded (place : ℕ) (old new : List GapNode) : Type 0 where
    pub tree : Gap
    pub recorded : IsNumbered tree place
    pub pushed : new ≡ old ++ spell_gap tree

  -- so are those of so many trees, of the nodes from this place on
  pub record PushesRecords (place count : ℕ) (old new : List GapNode) : Type 0 where
    pub trees : List Gap
    pub as_many : length trees ≡ count
    pub recorded : (runs : List (List Label)) → AreNumbersOf entries runs numbers → AreRecorded entries runs (gap_trees_of trees) place count
    pub pushed : new ≡ old ++ spell_gaps trees
