-- Places of nodes in trees, printed.
use Rattle.std.specs.Prelude.{ℕ, List, [], ◌∷◌, codes}
use Rattle.std.specs.List.{flat_map}
use Rattle.std.specs.Fmt.{decimal}

-- a step to a child, by the child's number
abbrev pub child_text : ℕ → List ℕ
child_text number = 47 ∷ decimal number

-- the numbers of the children from the root on, each after `/`; the root is `/`
abbrev pub path_text : List ℕ → List ℕ
path_text [] = codes "/"
path_text (child ∷ children) = flat_map child_text (child ∷ children)
