-- With more gaps fenced a trace is the same but for its sections, and no two of them come closer.
use Rattle.tree_laws.proofs.Vocabulary.{◌≡◌, ◌≢◌, ℕ, zero, suc, ◌+◌, ◌<◌, ◌≤◌, Bool, true, false, List, [], ◌∷◌, Some, slice_get, refl, sym, ◌∙◌, subst, arith, same_Some, Local, Access, Go, Wait, Read, Write, Swap, load_of, store_of, exchange_of, entered}
use Rattle.tree_laws.proofs.Vocabulary.{traced, trace, bare}
use Rattle.tso_program.specs.{declared.action.Action.Action, Actions.loaded}

-- y is x but for its section, which is at least as far from m as the section of x is from n
pub record IsWider (n m : ℕ) (x y : Access) : Type 0 where
  pub same : bare x ≡ bare y
  pub rises : n ≤ x.section
  pub wider : x.section + m ≤ y.section + n

-- each access of one list is wider than its fellow, seen from the one before it
abbrev pub AreWider : ℕ → ℕ → List Access → List Access → Type 0
AreWider n m [] [] = Unit {0}
AreWider n m (x ∷ xs) (y ∷ ys) = IsWider n m x y × AreWider x.section y.section xs ys
AreWider n m h g = ⊥

-- seen from an access before
wider_before : (n m : ℕ) (a b x y : Access) → IsWider n m a b → IsWider a.section b.section x y → IsWider n m x y
wider_before n m a b x y first next =
    let f = first.rises in
    let g = first.wider in
    let h = next.rises in
    let i = next.wider in record { same = next.same; rises = omega arith; wider = omega arith }

-- an access of the first list is one of the second
also : (n m : ℕ) (xs ys : List Access) (i : ℕ) (x : Access) → AreWider n m xs ys → slice_get xs i ≡ Some x →
    (y : Access) × (slice_get ys i ≡ Some y) × IsWider n m x y
also n m [] ys i x are h = absurd cc
also n m (a ∷ xs) [] i x are h = absurd are
also n m (a ∷ xs) (b ∷ ys) zero x are h = (b, refl, subst (λ (z : Access). IsWider n m z b) (same_Some a x h) are.0)
also n m (a ∷ xs) (b ∷ ys) (suc i) x are h = let (y, there, is) = also a.section b.section xs ys i x are.1 h in (y, there, wider_before n m a b x y are.0 is)

-- an access seen from an earlier one
seen : (n m : ℕ) (xs ys : List Access) (i j : ℕ) (x z y w : Access) → AreWider n m xs ys → i < j → slice_get xs i ≡ Some x → slice_get xs j ≡ Some z →
    slice_get ys i ≡ Some y → slice_get ys j ≡ Some w → IsWider x.section y.section z w
seen n m [] ys i j x z y w are before a b c d = absurd cc
seen n m (v ∷ xs) [] i j x z y w are before a b c d = absurd are
seen n m (v ∷ xs) (u ∷ ys) i zero x z y w are before a b c d = absurd (omega arith)
seen n m (v ∷ xs) (u ∷ ys) zero (suc j) x z y w are before a b c d =
    let (o, there, is) = also v.section u.section xs ys j z are.1 b in
    subst (λ (e : Access). IsWider x.section y.section z e) (same_Some o w (sym there ∙ d))
    (subst (λ (e : Access). IsWider x.section e.section z o) (same_Some u y c) (subst (λ (e : Access). IsWider e.section u.section z o) (same_Some v x a) is))
seen n m (v ∷ xs) (u ∷ ys) (suc i) (suc j) x z y w are before a b c d = seen v.section u.section xs ys i j x z y w are.1 (omega arith) a b c d

-- so what lies in another section than an earlier access still does
pub still_apart : (n m : ℕ) (xs ys : List Access) (i j : ℕ) (x z y w : Access) → AreWider n m xs ys → i < j → slice_get xs i ≡ Some x →
    slice_get xs j ≡ Some z → slice_get ys i ≡ Some y → slice_get ys j ≡ Some w → x.section ≢ z.section → y.section ≢ w.section
still_apart n m xs ys i j x z y w are before a b c d apart q =
    let is = seen n m xs ys i j x z y w are before a b c d in
    let f = is.rises in
    let g = is.wider in apart (omega arith)

-- seen from other sections, the second no closer than the first
seen_from : (n m o q : ℕ) (xs ys : List Access) → n ≤ o → o + m ≤ q + n → AreWider o q xs ys → AreWider n m xs ys
seen_from n m o q [] [] rises wider are = are
seen_from n m o q (x ∷ xs) (y ∷ ys) rises wider are =
    let f = are.0.rises in
    let g = are.0.wider in
    (record { same = are.0.same; rises = omega arith; wider = omega arith }, are.1)
seen_from n m o q xs ys rises wider are = absurd are

one_more : (n m o q : ℕ) (x y : Access) (xs ys : List Access) → bare x ≡ bare y → x.section ≡ n → y.section ≡ m → n ≤ o → o + m ≤ q + n →
    AreWider o q xs ys → AreWider n m (x ∷ xs) (y ∷ ys)
one_more n m o q x y xs ys same first second rises wider are = (
  record { same = same; rises = omega arith; wider = omega arith },
  seen_from x.section y.section o q xs ys (omega arith) (omega arith) are,
)

-- past a gap
past : (b c : Bool) (n m : ℕ) (xs ys : List Access) → (b ≡ true → c ≡ true) → AreWider (entered b n) (entered c m) xs ys → AreWider n m xs ys
past true true n m xs ys h are = seen_from n m (suc n) (suc m) xs ys (omega arith) (omega arith) are
past true false n m xs ys h are = absurd (let z = h refl in cc)
past false true n m xs ys h are = seen_from n m n (suc m) xs ys (omega arith) (omega arith) are
past false false n m xs ys h are = are

module _ (does : Local → Action) (fewer more : ℕ → Bool) (among : (i : ℕ) → fewer i ≡ true → more i ≡ true) where
  pub wider_trace : (k n m : ℕ) (s : Local) (given : List ℕ) → AreWider n m (trace does fewer k n s given).accesses (trace does more k m s given).accesses
  wider_trace zero n m s given = tt
  wider_trace (suc k) n m s given =
      past (fewer s.place) (more s.place) n m _ _ (among s.place) (by_action (entered (fewer s.place) n) (entered (more s.place) m) (does s) given (wider_trace k))
    where
      by_action : (n m : ℕ) (a : Action) (given : List ℕ) →
          ((n m : ℕ) (s : Local) (given : List ℕ) → AreWider n m (trace does fewer k n s given).accesses (trace does more k m s given).accesses) →
          AreWider n m (traced (trace does fewer k) n s a given).accesses (traced (trace does more k) m s a given).accesses
      by_action n m (Go next) given rest = rest n m next given
      by_action n m (Wait next) given rest = seen_from n m (suc n) (suc m) _ _ (omega arith) (omega arith) (rest (suc n) (suc m) next given)
      by_action n m (Write l v next) given rest =
          one_more n m n m (store_of n l v) (store_of m l v) _ _ refl refl refl (omega arith) (omega arith) (rest n m next given)
      by_action n m (Read l to next) (v ∷ given) rest =
          one_more n m n m (load_of n l v) (load_of m l v) _ _ refl refl refl (omega arith) (omega arith) (rest n m (loaded to v next) given)
      by_action n m (Swap l w to next) (v ∷ given) rest =
          one_more n m (suc n) (suc m) (exchange_of n l v w) (exchange_of m l v w) _ _ refl refl refl (omega arith) (omega arith)
          (rest (suc n) (suc m) (loaded to v next) given)
      by_action n m a given rest = tt
