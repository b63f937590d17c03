-- A loop's step where pieces are put together.
use Rattle.outcome_text.proofs.Vocabulary.{◌≡◌, ℕ, ◌+◌, ◌<◌, ◌≤◌, List, [], ◌∷◌, ◌++◌, length, take, get_or, map, refl, sym, ap, ◌∙◌, arith, append_assoc, flat_map-map, flat_map, range_with_len, join_with_byte, Vec, map-range_with_len_more, texts, take_more}
use Rattle.outcome_text.proofs.Vocabulary.{map_more, flat_map_more, length-map, length-take}

-- one more element
pub flat_more : {X A : Type 0} (f : X → List A) (bs : List A) (xs : List X) (i : ℕ) (d : X) → i < length xs → (bs ++ flat_map f (take i xs)) ++ f (get_or xs i d) ≡ bs ++ flat_map f (take (i + 1) xs)
flat_more f bs xs i d lt = rw (take_more xs i d lt) (flat_map_more f bs (take i xs) (get_or xs i d))

-- one more number
pub flat_range_more : {A : Type 0} (f : ℕ → List A) (bs : List A) (n : ℕ) → (bs ++ flat_map f (range_with_len 0 n)) ++ f n ≡ bs ++ flat_map f (range_with_len 0 (n + 1))
flat_range_more {A} f bs n =
    let id : ℕ → ℕ = λ x. x in
    ap (λ (cs : List A). (bs ++ cs) ++ f n) (sym (flat_map-map f id (range_with_len 0 n)))
    ∙ flat_map_more f bs (map id (range_with_len 0 n)) n
    ∙ ap (λ (ns : List ℕ). bs ++ flat_map f ns) (sym (map-range_with_len_more id 0 n n (omega arith)))
    ∙ ap (λ (cs : List A). bs ++ cs) (flat_map-map f id (range_with_len 0 (n + 1)))

-- one more piece behind those that are joined
pub join_push : (w : List ℕ) (ws : List (List ℕ)) → 0 < length ws → join_with_byte 32 (ws ++ w ∷ []) ≡ join_with_byte 32 ws ++ (32 ∷ w)
join_push w [] some = absurd (omega arith)
join_push w (v ∷ []) some = refl
join_push w (v ∷ u ∷ ws) some = ap (λ (x : List ℕ). v ++ (32 ∷ x)) (join_push w (u ∷ ws) (omega arith)) ∙ sym (append_assoc v (32 ∷ join_with_byte 32 (u ∷ ws)) (32 ∷ w))

pub join_more : (items : List (Vec ℕ)) (i : ℕ) (d : Vec ℕ) → i < length items → 0 < i → join_with_byte 32 (texts (take (i + 1) items)) ≡ join_with_byte 32 (texts (take i items)) ++ (32 ∷ (get_or items i d).items)
join_more items i d lt above =
    let text : Vec ℕ → List ℕ = λ k. k.items in
    ap (join_with_byte 32) (map_more text items i d lt) ∙ join_push (get_or items i d).items (texts (take i items)) (omega (arith, length-map (take i items) text, length-take i items))

pub join_first : (items : List (Vec ℕ)) (i : ℕ) (d : Vec ℕ) → i < length items → i ≤ 0 → join_with_byte 32 (texts (take (i + 1) items)) ≡ join_with_byte 32 (texts (take i items)) ++ (get_or items i d).items
join_first items i d lt none =
    let text : Vec ℕ → List ℕ = λ k. k.items in
    let first : i ≡ 0 = omega arith in
    ap (join_with_byte 32) (map_more text items i d lt) ∙ rw first refl
