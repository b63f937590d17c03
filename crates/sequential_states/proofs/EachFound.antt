-- Instructions that are next at a listed state.
use Rattle.sequential_states.proofs.Vocabulary.{◌≡◌, ℕ, true, Option, Some, None}
use Rattle.std.specs.Prelude.{IfSome, is_some}

-- what is there where something is
pub some_place : (o : Option ℕ) (P : ℕ → Type 0) → IfSome o P → is_some o ≡ true → (place : ℕ) × P place
some_place None P h e = absurd cc
some_place (Some place) P h e = (place, h)
