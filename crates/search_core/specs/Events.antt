-- The events of a search.
use Rattle.std.specs.Prelude.{◌≡◌, ◌⊎◌, ℕ, ◌<◌, List, ◌++◌, Option, Some, IfSome, slice_set, map, length}
use Rattle.gap_sets.specs.Gaps.{SetOfGaps}
use Rattle.gap_sets.specs.Order.{total, Better}
use Rattle.gap_sets.specs.declared.region.Region.{Region}
use Rattle.oracle.specs.Facts.{Foreign, Serving, IsForeignValue, IsServing}
use Rattle.oracle.specs.Verdicts.{PassesNoneOf}
use Rattle.search_core.specs.declared.entry.Entry.{Entry}
use Rattle.search_core.specs.declared.entry.Status.TheVariants.{Open, Held, Split, Cut, Confirmed}
use Rattle.search_core.specs.Children.{children}
use Rattle.search_core.specs.Entries.{entry}
use Rattle.search_core.specs.Ceilings.{IsCeiling}
use Rattle.search_core.specs.States.{SearchState, IsOpenAt, IsHeldAt, HasInHand, HoldsNothing, put_at}

-- nodes that are open
abbrev pub open_entries : ℕ → List Region → List Entry
open_entries seat nodes = map (λ n. entry n seat Open) nodes

-- there is a best set that this one is not better than
abbrev pub IsBeatenBy : List ℕ → Option Serving → SetOfGaps → Type 0
IsBeatenBy costs best gaps = (b : Serving) × (best ≡ Some b) × (¬ Better costs gaps b.gaps)

-- so it is with what the node's sets must have
abbrev pub IsBeaten : SearchState → Region → Type 0
IsBeaten s n = IsBeatenBy s.costs s.best n.must

-- what the node's sets must have costs more than a ceiling
abbrev pub IsTooDear : SearchState → Region → Type 0
IsTooDear s n = (cost : ℕ) × IsCeiling s.question s.costs cost × (cost < total s.costs n.must)

-- the best set after another one is confirmed: that one, where it is better or the first, or the one before
abbrev pub IsBestAfter : List ℕ → Serving → Option Serving → Option Serving → Type 0
IsBestAfter costs b before after =
    ((after ≡ Some b) × IfSome before (λ old. Better costs b.gaps old.gaps))
    ⊎ ((old : Serving) × (before ≡ Some old) × (after ≡ before) × (¬ Better costs b.gaps old.gaps))

-- the run is of the search's question, and passes no gap of the `must` of the node that the seat has in hand
pub record MaySplit (s : SearchState) (seat : ℕ) (f : Foreign) : Type 0 where
  pub node : Region
  pub in_hand : HasInHand s seat node
  pub of_question : f.question ≡ s.question
  pub passes_none : PassesNoneOf node.must f

-- the set is of the search's question, and is what the sets of the node that the seat has in hand must have
pub record MayConfirm (s : SearchState) (seat : ℕ) (b : Serving) : Type 0 where
  pub node : Region
  pub in_hand : HasInHand s seat node
  pub of_question : b.question ≡ s.question
  pub of_node : b.gaps ≡ node.must

module _ (s after : SearchState) (seat : ℕ) where
  -- the seat takes an open node
  pub record TakesNode (n : Region) : Type 0 where
    pub free : HoldsNothing s seat
    pub place : ℕ
    pub there : IsOpenAt s.entries place n
    pub is_after : after ≡ put_at s place (entry n seat Held)

  -- the seat's node is open again
  pub record GivesBack : Type 0 where
    pub node : Region
    pub place : ℕ
    pub there : IsHeldAt s.entries seat place node
    pub is_after : after ≡ put_at s place (entry node seat Open)

  -- the seat's node is split by a foreign run that passes no gap of its `must`: its children are open
  pub record Splits (f : Foreign) : Type 0 where
    pub node : Region
    pub place : ℕ
    pub there : IsHeldAt s.entries seat place node
    pub of_question : f.question ≡ s.question
    pub foreign : IsForeignValue f
    pub passes_none : PassesNoneOf node.must f
    pub is_after : after ≡ record s { entries = slice_set s.entries place (entry node seat (Split f (length s.entries))) ++ open_entries seat (children node f.passed) }

  -- the seat's node is cut
  pub record Cuts : Type 0 where
    pub node : Region
    pub place : ℕ
    pub there : IsHeldAt s.entries seat place node
    pub why : IsBeaten s node ⊎ IsTooDear s node
    pub is_after : after ≡ put_at s place (entry node seat Cut)

  -- what the sets of the seat's node must have serves
  pub record Confirms (b : Serving) : Type 0 where
    pub node : Region
    pub place : ℕ
    pub there : IsHeldAt s.entries seat place node
    pub of_question : b.question ≡ s.question
    pub of_node : b.gaps ≡ node.must
    pub serves : IsServing b
    pub best : Option Serving
    pub best_after : IsBestAfter s.costs b s.best best
    pub is_after : after ≡ record s { entries = slice_set s.entries place (entry node seat Confirmed); best = best }

  -- the seat's node is split, cut or confirmed
  pub data IsSettling : Type 0 where
    by_split : (f : Foreign) → Splits f → IsSettling
    by_cut : Cuts → IsSettling
    by_confirm : (b : Serving) → Confirms b → IsSettling

  pub data IsEvent : Type 0 where
    takes : (n : Region) → TakesNode n → IsEvent
    gives_back : GivesBack → IsEvent
    splits : (f : Foreign) → Splits f → IsEvent
    cuts : Cuts → IsEvent
    confirms : (b : Serving) → Confirms b → IsEvent
