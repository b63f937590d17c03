-- Which states some history of a search reaches.
use Rattle.std.specs.Prelude.{ℕ, ◌<◌}
use Rattle.search_core.specs.States.{SearchState, IsStart}
use Rattle.search_core.specs.Events.{IsEvent}

-- from the start by events, each by one of the search's seats
pub data IsReached : SearchState → Type 0 where
  starts : (s : SearchState) → IsStart s → IsReached s
  goes_on : (s after : SearchState) (seat : ℕ) → IsReached s → seat < s.seats → IsEvent s after seat → IsReached after
