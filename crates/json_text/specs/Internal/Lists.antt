-- Lists of texts.
use Rattle.std.specs.Prelude.{ℕ, List, map}
use Rattle.std.specs.Global.{Vec}

abbrev pub bytes_of_each : List (Vec ℕ) → List (List ℕ)
bytes_of_each items = map (λ item. item.items) items
