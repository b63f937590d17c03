-- An option without a value, and one with a value.
use Rattle.std.proofs.Common.{◌≡◌, true, false, Option, Some, None}
use Rattle.std.specs.Option.{MatchOption, is_some}

pub when_none : {A : Type 0} (o : Option A) (N : Type 0) (S : A → Type 0) → is_some o ≡ false → MatchOption o N S → N
when_none None N S e h = h
when_none (Some x) N S e h = absurd cc

pub when_some : {A : Type 0} (o : Option A) (N : Type 0) (S : A → Type 0) → is_some o ≡ true → MatchOption o N S → (x : A) × S x
when_some None N S e h = absurd cc
when_some (Some x) N S e h = (x, h)
