-- What is made of the numbers from 0 on, one more at a time.
use Rattle.gap_list.proofs.Vocabulary.{◌≡◌, ◌+◌, ℕ, zero, suc, List, [], ◌∷◌, ◌++◌, sym, ap, ◌∙◌, arith, flat_map, range_with_len, flat_map_more}

-- a range of one more number ends with it
pub range_suc : (a n : ℕ) → range_with_len a (suc n) ≡ range_with_len a n ++ (a + n) ∷ []
range_suc a zero = ap (λ (x : ℕ). x ∷ []) (let e : a ≡ a + 0 = omega arith in e)
range_suc a (suc n) =
    ap (λ (xs : List ℕ). a ∷ xs) (range_suc (a + 1) n ∙ ap (λ (x : ℕ). range_with_len (a + 1) n ++ x ∷ []) (let e : a + 1 + n ≡ a + suc n = omega arith in e))

pub one_more : (f : ℕ → List ℕ) (n : ℕ) → flat_map f (range_with_len 0 n) ++ f n ≡ flat_map f (range_with_len 0 (n + 1))
one_more f n =
    ap (λ (x : ℕ). flat_map f (range_with_len 0 n) ++ f x) (let e : n ≡ 0 + n = omega arith in e)
    ∙ flat_map_more f [] (range_with_len 0 n) (0 + n)
    ∙ ap (flat_map f) (sym (range_suc 0 n))
    ∙ ap (λ (k : ℕ). flat_map f (range_with_len 0 k)) (let e : suc n ≡ n + 1 = omega arith in e)
