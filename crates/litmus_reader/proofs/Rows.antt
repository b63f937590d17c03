-- A loop's step over what is seen of a list.
use Rattle.litmus_reader.proofs.Vocabulary.{◌≡◌, ℕ, ◌+◌, ◌<◌, List, [], ◌∷◌, ◌++◌, length, take, get_or, map, Option, Some, None, refl, sym, ap, ◌∙◌, fold, arith, append_assoc, Cell, PlaceView, CellView, cell_view, TextNames, noted, filter_map, fold-append}
use Rattle.litmus_reader.proofs.Vocabulary.{cell_places, cells_places, row_places, map_more, append-nil, length-map, length-take, filter_map-append}
use Rattle.std.proofs.Math.Nat.{add-zero}

-- one more element, of which something is kept
pub kept_more : {X V Y : Type 0} (h : V → Option Y) (v : X → V) (xs : List X) (i : ℕ) (d : X) (y : Y) → i < length xs → h (v (get_or xs i d)) ≡ Some y
    → filter_map h (map v (take (i + 1) xs)) ≡ filter_map h (map v (take i xs)) ++ y ∷ []
kept_more h v xs i d y lt is = rw (map_more v xs i d lt, filter_map-append h (map v (take i xs)) (v (get_or xs i d) ∷ []), is) refl

-- one more element, of which nothing is kept
pub kept_same : {X V Y : Type 0} (h : V → Option Y) (v : X → V) (xs : List X) (i : ℕ) (d : X) → i < length xs → h (v (get_or xs i d)) ≡ None
    → filter_map h (map v (take (i + 1) xs)) ≡ filter_map h (map v (take i xs))
kept_same h v xs i d lt is = rw (map_more v xs i d lt, filter_map-append h (map v (take i xs)) (v (get_or xs i d) ∷ []), is) (append-nil (filter_map h (map v (take i xs))))

cells_push : (t : ℕ) (cs : List CellView) (c : CellView) → cells_places t (cs ++ c ∷ []) ≡ cells_places t cs ++ cell_places (t + length cs) c
cells_push t [] c = append-nil (cell_places t c) ∙ ap (λ (n : ℕ). cell_places n c) (sym (add-zero t))
cells_push t (b ∷ cs) c =
    ap (λ (ps : List PlaceView). cell_places t b ++ ps) (cells_push (t + 1) cs c)
    ∙ sym (append_assoc (cell_places t b) (cells_places (t + 1) cs) (cell_places (t + 1 + length cs) c))
    ∙ ap (λ (n : ℕ). (cell_places t b ++ cells_places (t + 1) cs) ++ cell_places n c) (omega arith)

-- one more cell, whose places are noted
pub noted_more : (names : TextNames) (cells : List Cell) (i : ℕ) (d : Cell) → i < length cells
    → fold noted names (row_places (map cell_view (take (i + 1) cells))) ≡ fold noted (fold noted names (row_places (map cell_view (take i cells)))) (cell_places i (cell_view (get_or cells i d)))
noted_more names cells i d lt =
    let before = map cell_view (take i cells) in
    let len : 0 + length before ≡ i = omega (arith, length-map (take i cells) cell_view, length-take i cells) in
    let pushed : row_places (map cell_view (take (i + 1) cells)) ≡ row_places before ++ cell_places i (cell_view (get_or cells i d)) =
    ap row_places (map_more cell_view cells i d lt) ∙ cells_push 0 before (cell_view (get_or cells i d)) ∙ ap (λ (n : ℕ). row_places before ++ cell_places n (cell_view (get_or cells i d))) len in
    ap (fold noted names) pushed ∙ fold-append noted names (row_places before) (cell_places i (cell_view (get_or cells i d)))
