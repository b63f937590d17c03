-- What a call does to the tree under the lock.
use Rattle.std.specs.Prelude.{◌≡◌, ◌⊎◌, ◌<◌, ℕ, List}
use Rattle.gap_sets.specs.declared.region.Region.{Region}
use Rattle.tso_program.specs.declared.question.Question.{Question}
use Rattle.search_core.specs.Verdicts.{IsVerdictOf}
use Rattle.search_core.specs.Verdict.TheVariants.{Foreign, Serves}
use Rattle.search_core.specs.Ceilings.{IsAboveCeiling, IsCeilingOf}
use Rattle.search_core.specs.States.{SearchState}
use Rattle.search_core.specs.Events.{Splits, Cuts, Confirms, IsBeaten}
use Rattle.hunt_board.specs.declared.settling.Settling.{Settling, TheVariants.Asked, TheVariants.Cut, TheVariants.Best}
use Rattle.hunt_board.specs.Seats.{HuntView}

-- the tree is of the hunt's question and costs, and has the seat
pub record IsFor (h : HuntView) (s : SearchState) (seat : ℕ) : Type 0 where
  pub question : s.question ≡ h.question
  pub costs : s.costs ≡ h.costs
  pub has_seat : seat < s.seats

-- the settling is lawful for the node; of the best set the tree decides
abbrev pub IsLawfulThere : Question → List ℕ → Region → Settling → Type 0
IsLawfulThere q costs n (Asked said) = IsVerdictOf q n.must said
IsLawfulThere q costs n (Cut ceiling) = IsCeilingOf q costs ceiling × IsAboveCeiling costs n.must ceiling
IsLawfulThere q costs n Best = Unit {0}

-- the settling of the seat's node is this event; where the tree's best set does not cut the node, that of the seat does nothing
abbrev pub IsEventOfSettling : SearchState → SearchState → ℕ → Region → Settling → Type 0
IsEventOfSettling s after seat n (Asked (Foreign run)) = Splits s after seat run
IsEventOfSettling s after seat n (Asked (Serves served)) = Confirms s after seat served
IsEventOfSettling s after seat n (Cut ceiling) = Cuts s after seat
IsEventOfSettling s after seat n Best = Cuts s after seat ⊎ ((¬ IsBeaten s n) × (after ≡ s))
