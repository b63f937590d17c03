-- Elements of lists.
use Rattle.placed_text.proofs.Vocabulary.{◌≡◌, List, subst}
use Rattle.std.specs.Prelude.{Contains}

-- what is in a list is in an equal one
pub moved : {X : Type 0} (xs ys : List X) (x : X) → xs ≡ ys → Contains xs x → Contains ys x
moved {X} xs ys x same = subst (λ (l : List X). Contains l x) same
