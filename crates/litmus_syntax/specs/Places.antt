-- Sets of places.
use Rattle.std.specs.Prelude.{◌==◌, ◌&&◌, Bool, false}
use Rattle.std.specs.List.{list_any}
use Rattle.std.specs.Str.{bytes_eq}
use Rattle.tso_program.specs.Instructions as instructions
use Rattle.litmus_syntax.specs.declared.seen.Seen.{Seen}
use Rattle.litmus_syntax.specs.Views.{PlaceView, Location, Register}

-- whether two places are one
abbrev pub same_place : PlaceView → PlaceView → Bool
same_place (Location x) (Location y) = bytes_eq x y
same_place (Location x) (Register u s) = false
same_place (Register t r) (Location y) = false
same_place (Register t r) (Register u s) = t == u && instructions.number r == instructions.number s

-- whether the set has the place
abbrev pub has : Seen → PlaceView → Bool
has seen (Location x) = list_any (λ k. bytes_eq x k.items) seen.names.keys
has seen (Register t r) = list_any (λ k. t == k.0 && instructions.number r == k.1) seen.registers.keys
