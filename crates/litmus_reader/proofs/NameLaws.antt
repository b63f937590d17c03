-- Keys of a set as names.
use Rattle.litmus_reader.proofs.Vocabulary.{◌||◌, ◌≡◌, ℕ, ◌<◌, ◌≤◌, Bool, true, false, cond, List, [], ◌∷◌, ◌++◌, refl, sym, ap, ◌∙◌, arith, not, ◌+◌, position, min, Result, Ok, Err, inl, inr, list_any, prefix_len, cases_lt, bytes_eq, Vec, with_name, texts}
use Rattle.litmus_reader.proofs.Vocabulary.{map_push, length-map}
use Rattle.std.specs.Result.{OkIff, result_unwrap_or}

any_text : (ks : List (Vec ℕ)) (name : List ℕ) → list_any (λ k. bytes_eq name k.items) ks ≡ list_any (bytes_eq name) (texts ks)
any_text [] name = refl
any_text (k ∷ ks) name = ap (λ (b : Bool). bytes_eq name k.items || b) (any_text ks name)

added : (b : Bool) (ks : List (Vec ℕ)) (k : Vec ℕ) → texts (cond b ks (ks ++ k ∷ [])) ≡ cond b (texts ks) (texts ks ++ k.items ∷ [])
added true ks k = refl
added false ks k = map_push (λ (q : Vec ℕ). q.items) ks k

-- inserting a key adds its name
pub texts_insert : (ks : List (Vec ℕ)) (k : Vec ℕ) (name : List ℕ) → k.items ≡ name → texts (cond (list_any (λ q. bytes_eq k.items q.items) ks) ks (ks ++ k ∷ [])) ≡ with_name (texts ks) name
texts_insert ks k name e =
    added (list_any (λ q. bytes_eq k.items q.items) ks) ks k
    ∙ ap (λ (b : Bool). cond b (texts ks) (texts ks ++ k.items ∷ [])) (any_text ks k.items) ∙ ap (with_name (texts ks)) e

-- a name that is there is not added
pub with_known : (ks : List (Vec ℕ)) (name : List ℕ) → list_any (λ k. bytes_eq name k.items) ks ≡ true → with_name (texts ks) name ≡ texts ks
with_known ks name e = ap (λ (b : Bool). cond b (texts ks) (texts ks ++ name ∷ [])) (sym (any_text ks name) ∙ e)

not_there : (name : List ℕ) (ks : List (Vec ℕ)) → prefix_len (λ (n : List ℕ). not (bytes_eq name n)) (texts ks) ≡ prefix_len (λ (k : Vec ℕ). not (bytes_eq name k.items)) ks
not_there name [] = refl
not_there name (k ∷ ks) = ap (λ (n : ℕ). cond (not (bytes_eq name k.items)) (1 + n) 0) (not_there name ks)

-- a name's place among keys
pub position_texts : (ks : List (Vec ℕ)) (name : List ℕ) → position (bytes_eq name) (texts ks) ≡ position (λ (k : Vec ℕ). bytes_eq name k.items) ks
position_texts ks name = rw (not_there name ks, length-map ks (λ (k : Vec ℕ). k.items)) refl

-- a number as a byte
pub byte_of : {E : Type 0} (n : ℕ) (r : Result ℕ E) → OkIff r (n < 256) n → result_unwrap_or r 255 ≡ min 255 n
byte_of n (Ok x) h = let below = h.0 in let same = h.1 in omega arith
byte_of n (Err e) h = let past : 256 ≤ n = elim (cases_lt n 256) [ inl lt ↦ absurd (h lt) | inr le ↦ le ] in omega arith
