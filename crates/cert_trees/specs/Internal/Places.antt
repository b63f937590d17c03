-- Accesses by their places in a node.
use Rattle.std.specs.Prelude.{ℕ}
use Rattle.cert_trees.specs.declared.events.AccessPlace.{AccessPlace}
use Rattle.cert_trees.specs.declared.events.AccessPlace.TheVariants as place

-- how many come before it
abbrev pub gone_before : AccessPlace → ℕ
gone_before place.First = 0
gone_before place.Second = 1
gone_before place.Third = 2
