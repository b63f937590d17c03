-- What a confirmed set in memory stands for.
use Rattle.std.specs.Prelude.{◌≡◌, Option, Some, None}
use Rattle.search_core.specs.Facts.{Serving, IsServing}
use Rattle.hunt_board.specs.declared.seat.Confirmed.{Confirmed}

abbrev pub serving_of : Option Confirmed → Option Serving
serving_of None = None
serving_of (Some confirmed) = Some confirmed.served.value

-- it is the set that serves
abbrev pub IsKept : Confirmed → Type 0
IsKept confirmed = (confirmed.set ≡ confirmed.served.value.gaps) × IsServing confirmed.served.value

-- the new set, or without one the old
abbrev pub newer : Option Serving → Option Serving → Option Serving
newer old None = old
newer old (Some served) = Some served
