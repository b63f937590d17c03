-- What is found in a list, and what it means that nothing is.
use Rattle.tso_program.proofs.Vocabulary.{◌≡◌, ℕ, zero, suc, ◌+◌, ◌<◌, ◌≤◌, Bool, true, false, List, [], ◌∷◌, length, Option, Some, None, refl, sym, ap, ◌∙◌, arith, not, nat_lt, slice_get, is_some, position, if◌then◌else◌, position_or_len, list_any, enumerate_from}
use Rattle.tso_program.proofs.Vocabulary.{option_map_or, slice_get_past, nat_tests, Instr, Thread, code_of, instr_at, first_found}
use Rattle.std.proofs.lemmas.Option.{slice_get_within}
pub use Rattle.std.proofs.lemmas.Bool.{or_parts as neither}

-- an instruction that is there stands in a thread that is there
pub instr_found : (threads : List Thread) (t k : ℕ) (x : Instr) → instr_at threads t k ≡ Some x → (thread : Thread) × (slice_get threads t ≡ Some thread) × (slice_get thread.code k ≡ Some x)
instr_found threads t k x e = go (slice_get threads t) refl e
  where
    go : (o : Option Thread) → slice_get threads t ≡ o → slice_get (option_map_or (λ thread. thread.code) o []) k ≡ Some x → (thread : Thread) × (slice_get threads t ≡ Some thread) × (slice_get thread.code k ≡ Some x)
    go (Some thread) is e = (thread, is, e)
    go None is e = absurd cc

-- a thread with an instruction is one of the program's
pub thread_there : (threads : List Thread) (t k : ℕ) (x : Instr) → instr_at threads t k ≡ Some x → t < length threads
thread_there threads t k x e = let (thread, is, at) = instr_found threads t k x e in slice_get_within threads t thread is

-- a thread that is not there has no code
pub no_code : (threads : List Thread) (t : ℕ) → length threads ≤ t → code_of threads t ≡ []
no_code threads t h = ap (λ o. option_map_or (λ (x : Thread). x.code) o []) (slice_get_past threads t h)

-- the code of a thread that is there
pub code_found : (threads : List Thread) (t : ℕ) (thread : Thread) → slice_get threads t ≡ Some thread → code_of threads t ≡ thread.code
code_found threads t thread e = ap (λ o. option_map_or (λ (x : Thread). x.code) o []) e

pub enumerated : {X : Type 0} (n : ℕ) (xs : List X) (i : ℕ) (x : X) → slice_get xs i ≡ Some x → slice_get (enumerate_from n xs) i ≡ Some (n + i, x)
enumerated n [] i x e = absurd cc
enumerated n (y ∷ ys) zero x e =
    let same : y ≡ x = cc in
    let q : n ≡ n + 0 = omega arith in
    ap (λ m. Some (m, y)) q ∙ ap (λ z. Some (n + 0, z)) same
enumerated n (y ∷ ys) (suc i) x e =
    let q : n + 1 + i ≡ n + suc i = omega arith in
    enumerated (n + 1) ys i x e ∙ ap (λ m. Some (m, x)) q

pub enumerated_back : {X : Type 0} (n : ℕ) (xs : List X) (i : ℕ) (p : ℕ × X) → slice_get (enumerate_from n xs) i ≡ Some p → (p.0 ≡ n + i) × (slice_get xs i ≡ Some p.1)
enumerated_back n [] i p e = absurd cc
enumerated_back n (y ∷ ys) zero p e = let same : (n, y) ≡ p = cc in ((let q : n ≡ p.0 = ap (λ z. z.0) same in omega arith), ap (λ z. Some z.1) same)
enumerated_back n (y ∷ ys) (suc i) p e = let rest = enumerated_back (n + 1) ys i p e in ((let q : p.0 ≡ n + 1 + i = rest.0 in omega arith), rest.1)

past_it : (b : Bool) (n m : ℕ) → nat_lt (if not b then 1 + n else 0) (suc m) ≡ false → (b ≡ false) × (nat_lt n m ≡ false)
past_it true n m e = grind (arith, nat_tests)
past_it false n m e = (refl, grind (arith, nat_tests))

not_past : (b : Bool) (n m : ℕ) → b ≡ false → nat_lt n m ≡ false → nat_lt (if not b then 1 + n else 0) (suc m) ≡ false
not_past true n m e h = absurd cc
not_past false n m e h = grind (arith, nat_tests)

pub some_test : (b : Bool) (k : ℕ) → is_some (if b then Some k else None) ≡ false → b ≡ false
some_test true k e = cc
some_test false k e = refl

no_test : (b : Bool) (k : ℕ) → b ≡ false → is_some (if b then Some k else None) ≡ false
no_test true k e = absurd cc
no_test false k e = refl

-- where no element passes the test, none is found, and the other way round
module _ {X : Type 0} (p : X → Bool) where
  abbrev pub NonePasses : List X → Type 0
  NonePasses xs = (i : ℕ) (x : X) → slice_get xs i ≡ Some x → p x ≡ false

  passes_none : (xs : List X) → nat_lt (position_or_len p xs) (length xs) ≡ false → NonePasses xs
  passes_none [] e i x there = absurd cc
  passes_none (y ∷ ys) e zero x there = let same : y ≡ x = cc in ap p (sym same) ∙ (past_it (p y) (position_or_len p ys) (length ys) e).0
  passes_none (y ∷ ys) e (suc i) x there = passes_none ys (past_it (p y) (position_or_len p ys) (length ys) e).1 i x there

  none_passes : (xs : List X) → NonePasses xs → nat_lt (position_or_len p xs) (length xs) ≡ false
  none_passes [] h = refl
  none_passes (y ∷ ys) h = not_past (p y) (position_or_len p ys) (length ys) (h 0 y refl) (none_passes ys (λ i x e. h (suc i) x e))

  pub not_found : (xs : List X) → is_some (position p xs) ≡ false → NonePasses xs
  not_found xs e = passes_none xs (some_test _ _ e)

  pub none_found : (xs : List X) → NonePasses xs → is_some (position p xs) ≡ false
  none_found xs h = no_test _ _ (none_passes xs h)

  pub not_any : (xs : List X) → list_any p xs ≡ false → NonePasses xs
  not_any [] e i x there = absurd cc
  not_any (y ∷ ys) e zero x there = let same : y ≡ x = cc in ap p (sym same) ∙ (neither (p y) (list_any p ys) e).0
  not_any (y ∷ ys) e (suc i) x there = not_any ys (neither (p y) (list_any p ys) e).1 i x there

  pub none_any : (xs : List X) → NonePasses xs → list_any p xs ≡ false
  none_any [] h = refl
  none_any (y ∷ ys) h = rw (h 0 y refl) (none_any ys (λ i x e. h (suc i) x e))

-- what is found first over threads
module _ (find : Thread → Option ℕ) where
  split_found : (b : Bool) (a : ℕ × ℕ) (rest : Option (ℕ × ℕ)) → is_some (if b then Some a else rest) ≡ false → (b ≡ false) × (is_some rest ≡ false)
  split_found true a rest e = absurd cc
  split_found false a rest e = (refl, e)

  join_found : (b : Bool) (a : ℕ × ℕ) (rest : Option (ℕ × ℕ)) → b ≡ false → is_some rest ≡ false → is_some (if b then Some a else rest) ≡ false
  join_found true a rest e h = absurd cc
  join_found false a rest e h = h

  pub found_nowhere : (n : ℕ) (threads : List Thread) → is_some (first_found find n threads) ≡ false → (t : ℕ) (thread : Thread) → slice_get threads t ≡ Some thread → is_some (find thread) ≡ false
  found_nowhere n [] e t thread there = absurd cc
  found_nowhere n (y ∷ ys) e zero thread there = let same : y ≡ thread = cc in ap (λ z. is_some (find z)) (sym same) ∙ (split_found _ _ _ e).0
  found_nowhere n (y ∷ ys) e (suc t) thread there = found_nowhere (n + 1) ys (split_found (is_some (find y)) _ (first_found find (n + 1) ys) e).1 t thread there

  pub nowhere_found : (n : ℕ) (threads : List Thread) → ((t : ℕ) (thread : Thread) → slice_get threads t ≡ Some thread → is_some (find thread) ≡ false) → is_some (first_found find n threads) ≡ false
  nowhere_found n [] h = refl
  nowhere_found n (y ∷ ys) h = join_found (is_some (find y)) _ (first_found find (n + 1) ys) (h 0 y refl) (nowhere_found (n + 1) ys (λ t thread e. h (suc t) thread e))
