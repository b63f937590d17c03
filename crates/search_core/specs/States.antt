-- The state of a search.
use Rattle.std.specs.Prelude.{◌≡◌, ◌≤◌, ◌<◌, ℕ, true, false, List, [], ◌∷◌, Option, Some, None, slice_get, slice_set}
use Rattle.gap_sets.specs.Regions.{all_sets}
use Rattle.gap_sets.specs.declared.region.Region.{Region}
use Rattle.tso_program.specs.declared.question.Question.{Question}
use Rattle.tso_program.specs.declared.limits.TheConstants.{MAX_WORKERS}
use Rattle.tso_program.specs.Limits.{IsWithinLimits}
use Rattle.tree_laws.specs.GapTrees.{HaveCosts}
use Rattle.oracle.specs.Facts.{Serving}
use Rattle.search_core.specs.declared.entry.Entry.{Entry}
use Rattle.search_core.specs.declared.entry.Status.TheVariants.{Open}
use Rattle.search_core.specs.Entries.{entry, is_open, is_held_by, is_live}

-- a question, the costs of its program's gaps, how many seats there are, the nodes with what became of them, and the best confirmed set
pub record SearchState : Type 0 where
  pub question : Question
  pub costs : List ℕ
  pub seats : ℕ
  pub entries : List Entry
  pub best : Option Serving

-- at this place stands this node, open
pub record IsOpenAt (entries : List Entry) (place : ℕ) (n : Region) : Type 0 where
  pub before : Entry
  pub there : slice_get entries place ≡ Some before
  pub open_there : is_open before ≡ true
  pub is_node : before.node ≡ n

-- at this place stands this node, which the seat holds
pub record IsHeldAt (entries : List Entry) (seat place : ℕ) (n : Region) : Type 0 where
  pub before : Entry
  pub there : slice_get entries place ≡ Some before
  pub held_there : is_held_by seat before ≡ true
  pub is_node : before.node ≡ n

-- the seat holds the node
abbrev pub HoldsNode : SearchState → ℕ → Region → Type 0
HoldsNode s seat n = (place : ℕ) × IsHeldAt s.entries seat place n

abbrev pub HoldsNothing : SearchState → ℕ → Type 0
HoldsNothing s seat = (n : Region) → ¬ HoldsNode s seat n

-- the seat holds this node and no other
pub record HoldsOnly (s : SearchState) (seat : ℕ) (n : Region) : Type 0 where
  pub held : HoldsNode s seat n
  pub only : (m : Region) → HoldsNode s seat m → m ≡ n

-- the seat is one of the search's, and holds this node and no other
pub record HasInHand (s : SearchState) (seat : ℕ) (n : Region) : Type 0 where
  pub is_seat : seat < s.seats
  pub holds : HoldsOnly s seat n

abbrev pub HasNoOpen : SearchState → Type 0
HasNoOpen s = (place : ℕ) (n : Region) → ¬ IsOpenAt s.entries place n

-- no node is open or held
abbrev pub IsDone : SearchState → Type 0
IsDone s = (place : ℕ) (e : Entry) → slice_get s.entries place ≡ Some e → is_live e ≡ false

-- the entries with this one at its place
abbrev pub put_at : SearchState → ℕ → Entry → SearchState
put_at s place e = record s { entries = slice_set s.entries place e }

-- a search of the same question, costs and seats
pub record IsSameSearch (s after : SearchState) : Type 0 where
  pub question : after.question ≡ s.question
  pub costs : after.costs ≡ s.costs
  pub seats : after.seats ≡ s.seats

-- a search has 1 to `MAX_WORKERS` seats
abbrev pub IsSeatCount : ℕ → Type 0
IsSeatCount seats = (1 ≤ seats) × (seats ≤ MAX_WORKERS)

-- only the node of all sets is there, and it is open
pub record IsStart (s : SearchState) : Type 0 where
  pub within : IsWithinLimits s.question.program.threads s.question.program.memory
  pub have_costs : HaveCosts s.question.program s.costs
  pub seats : IsSeatCount s.seats
  pub only_root : s.entries ≡ entry all_sets 0 Open ∷ []
  pub no_best : s.best ≡ None
