-- Phrases that tokens begin with in one way, and lists of them.
use Rattle.std.proofs.Common.{◌≡◌, ◌∙◌, sym, ap, subst, refl, List, ◌∷◌, Option, Some}
use Rattle.std.proofs.lemmas.Option.{same_Some}
use Rattle.text_tokens.specs.Tokens.{Tok}
use Rattle.text_tokens.specs.Parts.{rest_of}
use Rattle.litmus_syntax.specs.Phrases.{mark, Items, end, item}
use Rattle.text_tokens.specs.declared.token.Mark.{Mark}
use Rattle.litmus_syntax.proofs.ItemLaws.{Only, pair_of}

-- tokens begin with one value, and the same tokens follow it
abbrev pub One : {X : Type 0} → (X → List Tok → List Tok → Type 0) → Type 0
One {X} Item = (ts : List Tok) (x y : X) (rest other : List Tok) → Item x ts rest → Item y ts other → (x ≡ y) × (rest ≡ other)

-- what is read as the phrase says is the only one
pub one_read : {X : Type 0} (Item : X → List Tok → List Tok → Type 0) (item_at : List Tok → Option (X × List Tok)) → ((x : X) (ts rest : List Tok) → Item x ts rest → item_at ts ≡ Some (pair_of x rest)) → One Item
one_read {X} Item item_at again ts x y rest other h g =
    let same : pair_of x rest ≡ pair_of y other = same_Some (pair_of x rest) (pair_of y other) (sym (again x ts rest h) ∙ again y ts other g) in
    (ap (λ (p : X × List Tok). p.0) same, ap (λ (p : X × List Tok). p.1) same)

-- the one that is there is the only one
pub only_one : {X : Type 0} (Item : X → List Tok → List Tok → Type 0) → One Item → (x : X) (ts rest : List Tok) → Item x ts rest → Only Item x ts rest
only_one Item one x ts rest h = (h, λ y other g. one ts y x other rest g h)

-- only one list of tokens follows a mark
pub mark_once : (m : Mark) (ts rest other : List Tok) → mark m ts rest → mark m ts other → rest ≡ other
mark_once m ts rest other h g = ap rest_of (sym h ∙ g)

-- no item stands where the list ends
abbrev pub Apart : {X : Type 0} → (X → List Tok → List Tok → Type 0) → (List Tok → List Tok → Type 0) → Type 0
Apart {X} Item End = (ts rest other : List Tok) (x : X) → End ts rest → Item x ts other → ⊥

-- two lists of items, each up to an end of its own, have the same items, and their ends stand at the same place
pub items_once : {X : Type 0} (Item : X → List Tok → List Tok → Type 0) (E F : List Tok → List Tok → Type 0) → One Item → Apart Item E → Apart Item F
    → (ts : List Tok) (xs ys : List X) (rest other : List Tok) → Items Item E xs ts rest → Items Item F ys ts other → (xs ≡ ys) × ((us : List Tok) × E us rest × F us other)
items_once Item E F one apart also ts _ _ rest other (end h) (end g) = (refl, (ts, h, g))
items_once Item E F one apart also ts _ _ rest other (end h) (item {x = y} {others = vs} g more) = absurd (apart ts rest vs y h g)
items_once Item E F one apart also ts _ _ rest other (item {x = x} {others = us} h more) (end g) = absurd (also ts other us x g h)
items_once {X} Item E F one apart also ts _ _ rest other (item {x = x} {xs = xs} {others = us} h more) (item {x = y} {xs = ys} {others = vs} g others) =
    let first = one ts x y us vs h g in
    let next = items_once Item E F one apart also vs xs ys rest other (subst (λ (o : List Tok). Items Item E xs o rest) first.1 more) others in
    (ap (λ (z : X). z ∷ xs) first.0 ∙ ap (λ (z : List X). y ∷ z) next.0, next.1)
