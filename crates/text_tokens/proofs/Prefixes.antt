-- How far the bytes go at the front of a text that pass a test.
use Rattle.text_tokens.proofs.Vocabulary.{◌≡◌, ℕ, ◌+◌, ◌<◌, Bool, true, false, List, [], ◌∷◌, ◌++◌, length, take, drop, refl, sym, ap, ◌∙◌, arith, inl, inr, take_at, drop_at, slice_index, list_all, prefix_len, and_parts, and_from, cases_Bool}
use Rattle.std.proofs.Math.Numerals.{one-add}

pub prefix_is : (p : ℕ → Bool) (xs rest : List ℕ) → list_all p xs ≡ true → p (slice_index rest 0) ≡ false → prefix_len p (xs ++ rest) ≡ length xs
prefix_is p [] [] all stop = refl
prefix_is p [] (y ∷ rest) all stop = rw stop refl
prefix_is p (x ∷ xs) rest all stop =
    let a = and_parts (p x) (list_all p xs) all in
    let rest_is : prefix_len p (xs ++ rest) ≡ length xs = prefix_is p xs rest a.1 stop in
    rw a.0 (omega arith)

-- such bytes, as far as they go, and what follows them are the same however the text is split
pub same_prefix : (p : ℕ → Bool) (xs rest ys others : List ℕ) → list_all p xs ≡ true → p (slice_index rest 0) ≡ false → list_all p ys ≡ true → p (slice_index others 0) ≡ false → xs ++ rest ≡ ys ++ others
    → (xs ≡ ys) × (rest ≡ others)
same_prefix p xs rest ys others all stop all' stop' same =
    let n : prefix_len p (xs ++ rest) ≡ length xs = prefix_is p xs rest all stop in
    let m : prefix_len p (ys ++ others) ≡ length ys = prefix_is p ys others all' stop' in
    let lengths : length xs ≡ length ys = sym n ∙ ap (prefix_len p) same ∙ m in (
      sym (take_at xs rest (length xs) refl) ∙ ap (take (length xs)) same ∙ take_at ys others (length xs) (sym lengths),
      sym (drop_at xs rest (length xs) refl) ∙ ap (drop (length xs)) same ∙ drop_at ys others (length xs) (sym lengths),
    )

pub all_pass : (p : ℕ → Bool) (xs : List ℕ) → list_all p (take (prefix_len p xs) xs) ≡ true
all_pass p [] = refl
all_pass p (x ∷ xs) =
    elim (cases_Bool (p x)) [ inl y ↦ rw (y, one-add) (and_from (p x) (list_all p (take (prefix_len p xs) xs)) y (all_pass p xs)) | inr n ↦ rw n refl ]

pub next_fails : (p : ℕ → Bool) (xs : List ℕ) → p 0 ≡ false → p (slice_index (drop (prefix_len p xs) xs) 0) ≡ false
next_fails p [] h = h
next_fails p (x ∷ xs) h = elim (cases_Bool (p x)) [ inl y ↦ rw (y, one-add) (next_fails p xs h) | inr n ↦ rw n n ]

pub some_pass : (p : ℕ → Bool) (xs : List ℕ) → p 0 ≡ false → p (slice_index xs 0) ≡ true → 0 < prefix_len p xs
some_pass p [] at_end h = absurd cc
some_pass p (x ∷ xs) at_end h = rw h (omega arith)
