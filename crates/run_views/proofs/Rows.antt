-- One more cell or store where a line is put together.
use Rattle.std.proofs.Common.{◌≡◌, ◌∙◌, ◌+◌, ◌<◌, ◌≤◌, ◌++◌, ◌∷◌, ℕ, List, arith, ap, get_or, length, map, refl, take}
use Rattle.std.proofs.lemmas.List.{length-map, length-take, map_more}
use Rattle.std.specs.List.{join_with_byte}
use Rattle.litmus_text.proofs.Joined.{join_push}

pub join_more : {X : Type 0} (f : X → List ℕ) (xs : List X) (i : ℕ) (d : X) → i < length xs → 0 < i → join_with_byte 32 (map f (take (i + 1) xs)) ≡ join_with_byte 32 (map f (take i xs)) ++ (32 ∷ f (get_or xs i d))
join_more f xs i d lt above =
    ap (join_with_byte 32) (map_more f xs i d lt) ∙ join_push (f (get_or xs i d)) (map f (take i xs)) (omega (arith, length-map (take i xs) f, length-take i xs))

pub join_first : {X : Type 0} (f : X → List ℕ) (xs : List X) (i : ℕ) (d : X) → i < length xs → i ≤ 0 → join_with_byte 32 (map f (take (i + 1) xs)) ≡ join_with_byte 32 (map f (take i xs)) ++ f (get_or xs i d)
join_first f xs i d lt none =
    let first : i ≡ 0 = omega arith in
    ap (join_with_byte 32) (map_more f xs i d lt) ∙ rw first refl
