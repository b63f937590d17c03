-- Facts of every element of a list.
use Rattle.litmus_reader.proofs.Vocabulary.{List, [], ◌∷◌, ◌++◌, AllByRecursion}

pub all_more_so : {X : Type 0} (P Q : X → Type 0) → ((x : X) → P x → Q x) → (xs : List X) → AllByRecursion P xs → AllByRecursion Q xs
all_more_so P Q so [] h = tt
all_more_so P Q so (x ∷ xs) h = (so x h.0, all_more_so P Q so xs h.1)

pub all_of_both : {X : Type 0} (P : X → Type 0) (xs ys : List X) → AllByRecursion P xs → AllByRecursion P ys → AllByRecursion P (xs ++ ys)
all_of_both P [] ys h g = g
all_of_both P (x ∷ xs) ys h g = (h.0, all_of_both P xs ys h.1 g)
