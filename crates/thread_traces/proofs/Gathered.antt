-- The values of a location, gathered from the instructions and the initial values.
use Rattle.thread_traces.proofs.Vocabulary.{◌≡◌, ◌↔◌, ◌⊎◌, ℕ, ◌+◌, ◌<◌, ◌≤◌, List, [], ◌∷◌, ◌++◌, Option, Some, None, slice_get, get_or, length, Contains, refl, sym, ap, ◌∙◌, subst, inl, inr, eq-eqb, ne_eqb, arith, Contains-append_left, Contains-append_right}
use Rattle.thread_traces.proofs.Vocabulary.{Contains-append_cases, Contains-push, Contains-push_cases, slice_index, cases_lt, cases_eq, slice_get_within, slice_get-get_or, slice_get_read, same_Some, Instr, LoadImm, StoreImm, CmpImm, Thread, Listing, instr_at}
use Rattle.thread_traces.proofs.Vocabulary.{code_of, code_found, Occurs, IsImmediate, IsKnown, TakesRegister, IsValueOf, number_stored, any_number, stored_number, HasImmediate}
use Rattle.thread_traces.proofs.TracesKept.{no_code}

-- a number of the first n threads' instructions
abbrev pub IsNumberBelow : List Thread → Option ℕ → ℕ → ℕ → Type 0
IsNumberBelow threads location n v = (t : ℕ) × (t < n) × HasImmediate (code_of threads t) location v

-- a number of the first n instructions
abbrev pub HasNumberBelow : List Instr → Option ℕ → ℕ → ℕ → Type 0
HasNumberBelow code location n v = (k : ℕ) × (x : Instr) × (k < n) × (slice_get code k ≡ Some x) × (stored_number location x ≡ Some v)

-- these values have come to the old ones
abbrev pub HasCome : (ℕ → Type 0) → List ℕ → List ℕ → Type 0
HasCome P old new = (v : ℕ) → Contains new v ↔ (Contains old v ⊎ P v)

-- values that come by a property come by another that has the same values
pub come_by : (P Q : ℕ → Type 0) (old new : List ℕ) → ((v : ℕ) → P v ↔ Q v) → HasCome P old new → HasCome Q old new
come_by P Q old new same come v = (
  λ h. elim ((come v).0 h) [ inl a ↦ inl a | inr p ↦ inr ((same v).0 p) ],
  λ h. (come v).1 (elim h [ inl a ↦ inl a | inr q ↦ inr ((same v).1 q) ]),
)

-- and then further values
pub come_more : (P Q : ℕ → Type 0) (old new next : List ℕ) → HasCome P old new → HasCome Q new next → HasCome (λ v. P v ⊎ Q v) old next
come_more P Q old new next first second v = (
  λ h. elim ((second v).0 h) [
    | inl a ↦ elim ((first v).0 a) [ inl b ↦ inl b | inr p ↦ inr (inl p) ]
    | inr q ↦ inr (inr q)
  ],
  λ h. (second v).1 (elim h [
    | inl b ↦ inl ((first v).1 (inl b))
    | inr (inl p) ↦ inl ((first v).1 (inr p))
    | inr (inr q) ↦ inr q
  ]),
)

pub come_push : (old : List ℕ) (x : ℕ) → HasCome (λ v. v ≡ x) old (old ++ x ∷ [])
come_push old x v = (
  λ h. elim (Contains-push_cases old x v h) [ inl a ↦ inl a | inr q ↦ inr (sym q) ],
  λ h. elim h [ inl a ↦ Contains-append_left old (x ∷ []) v a | inr q ↦ subst (Contains (old ++ x ∷ [])) (sym q) (Contains-push old x) ],
)

pub come_append : (old xs : List ℕ) → HasCome (Contains xs) old (old ++ xs)
come_append old xs v = (λ h. Contains-append_cases old xs v h, λ h. elim h [ inl a ↦ Contains-append_left old xs v a | inr b ↦ Contains-append_right old xs v b ])

-- the first n instructions, and one more
pub number_more : (code : List Instr) (location : Option ℕ) (i v : ℕ) (x : Instr) → slice_get code i ≡ Some x →
    (HasNumberBelow code location i v ⊎ (stored_number location x ≡ Some v)) ↔ HasNumberBelow code location (i + 1) v
number_more code location i v x at = (
  λ h. elim h [ inl a ↦ (a.0, a.1, (let n = a.2 in omega arith), a.3, a.4) | inr q ↦ (i, x, omega arith, at, q) ],
  λ h. elim (cases_lt h.0 i) [
    | inl l ↦ inl (h.0, h.1, l, h.3, h.4)
    | inr g ↦ (let same : h.0 ≡ i = (let n = h.2 in omega arith) in
        let is : h.1 ≡ x = same_Some h.1 x (sym h.3 ∙ ap (slice_get code) same ∙ at) in
        inr (ap (stored_number location) (sym is) ∙ h.4))
  ],
)

pub number_all : (code : List Instr) (location : Option ℕ) (n v : ℕ) → length code ≤ n → HasNumberBelow code location n v ↔ HasImmediate code location v
number_all code location n v h = (
  λ a. (a.0, a.1, a.3, a.4),
  λ b. (b.0, b.1, (let k = slice_get_within code b.0 b.1 b.2 in omega arith), b.2, b.3),
)

-- one instruction more, with a number
pub numbers_push : (code : List Instr) (location : Option ℕ) (i v : ℕ) (d : Instr) (old now : List ℕ) → i < length code → stored_number location (get_or code i d) ≡ Some v →
    HasCome (HasNumberBelow code location i) old now → HasCome (HasNumberBelow code location (i + 1)) old (now ++ v ∷ [])
numbers_push code location i v d old now h is come =
    let at = slice_get-get_or code i d h in
    come_by (λ u. HasNumberBelow code location i u ⊎ (u ≡ v)) (HasNumberBelow code location (i + 1)) old (now ++ v ∷ [])
    (λ u. (
      λ a. (number_more code location i u (get_or code i d) at).0 (elim a [ inl b ↦ inl b | inr q ↦ inr (is ∙ ap (λ z. Some z) (sym q)) ]),
      λ a. elim ((number_more code location i u (get_or code i d) at).1 a) [ inl b ↦ inl b | inr q ↦ inr (same_Some u v (sym q ∙ is)) ],
    ))
    (come_more (HasNumberBelow code location i) (λ u. u ≡ v) old now (now ++ v ∷ []) come (come_push now v))

-- and without one
pub numbers_skip : (code : List Instr) (location : Option ℕ) (i : ℕ) (d : Instr) (old now : List ℕ) → i < length code → stored_number location (get_or code i d) ≡ None →
    HasCome (HasNumberBelow code location i) old now → HasCome (HasNumberBelow code location (i + 1)) old now
numbers_skip code location i d old now h is come =
    let at = slice_get-get_or code i d h in
    come_by (HasNumberBelow code location i) (HasNumberBelow code location (i + 1)) old now
    (λ u. (
      λ b. (number_more code location i u (get_or code i d) at).0 (inl b),
      λ a. elim ((number_more code location i u (get_or code i d) at).1 a) [ inl b ↦ b | inr q ↦ absurd (let z = sym q ∙ is in cc) ],
    ))
    come

-- the first n threads, and one more
pub thread_more : (threads : List Thread) (location : Option ℕ) (i v : ℕ) (thread : Thread) → i < length threads → thread ≡ get_or threads i thread →
    (IsNumberBelow threads location i v ⊎ HasImmediate thread.code location v) ↔ IsNumberBelow threads location (i + 1) v
thread_more threads location i v thread h is =
    let code : code_of threads i ≡ thread.code = code_found threads i thread (slice_get_read threads (length threads) i thread refl h is) in (
      λ a. elim a [
        | inl b ↦ (b.0, (let n = b.1 in omega arith), b.2)
        | inr b ↦ (i, omega arith, subst (λ c. HasImmediate c location v) (sym code) b)
      ],
      λ a. elim (cases_lt a.0 i) [
        | inl l ↦ inl (a.0, l, a.2)
        | inr g ↦ (let same : a.0 ≡ i = (let n = a.1 in omega arith) in
            inr (subst (λ c. HasImmediate c location v) (ap (code_of threads) same ∙ code) a.2))
      ],
    )

stored_as : (l v : ℕ) (x : Instr) → number_stored l x ≡ Some v → x ≡ StoreImm l v
stored_as l v (StoreImm m w) e = elim (cases_eq m l) [
  | inl q ↦ (let same : w ≡ v = (let h : Some w ≡ Some v = rw (eq-eqb m l q) at e in cc) in λ i. StoreImm (q i) (same i))
  | inr n ↦ absurd (let h : None ≡ Some v = rw (ne_eqb m l n) at e in cc)
]
stored_as l v x e = absurd cc

stores : (l v : ℕ) → number_stored l (StoreImm l v) ≡ Some v
stores l v = rw (eq-eqb l l refl) refl

code_within : (threads : List Thread) (t k n : ℕ) (x : Instr) → length threads ≤ n → slice_get (code_of threads t) k ≡ Some x → t < n
code_within threads t k n x h at = elim (cases_lt t n) [
  | inl l ↦ l
  | inr g ↦ absurd (let e : slice_get [] k ≡ Some x = subst (λ c. slice_get c k ≡ Some x) (no_code threads t (omega arith)) at in cc)
]

-- what all threads store to a location
pub stored_all : (p : Listing) (l n v : ℕ) → length p.threads ≤ n → IsNumberBelow p.threads (Some l) n v ↔ Occurs p (StoreImm l v)
stored_all p l n v h = (
  λ (t, b, (k, x, at, e)). (t, k, at ∙ ap (λ z. Some z) (stored_as l v x e)),
  λ (t, k, at). (t, code_within p.threads t k n (StoreImm l v) h at, (k, StoreImm l v, at, stores l v)),
)

-- the initial value of a location, and what the first n threads store to it
abbrev pub IsGatheredBelow : Listing → ℕ → ℕ → ℕ → Type 0
IsGatheredBelow p l n v = (v ≡ slice_index p.memory l) ⊎ IsNumberBelow p.threads (Some l) n v

-- one thread more
pub gathered_more : (p : Listing) (l i : ℕ) (thread : Thread) (code : List Instr) (old now next : List ℕ) → i < length p.threads → thread ≡ get_or p.threads i thread → code ≡ thread.code →
    HasCome (IsGatheredBelow p l i) old now → HasCome (HasImmediate code (Some l)) now next → HasCome (IsGatheredBelow p l (i + 1)) old next
gathered_more p l i thread code old now next h is same first second =
    come_by (λ v. IsGatheredBelow p l i v ⊎ HasImmediate thread.code (Some l) v) (IsGatheredBelow p l (i + 1)) old next
    (λ v. (
      λ a. elim a [
        | inl (inl q) ↦ inl q
        | inl (inr b) ↦ inr ((thread_more p.threads (Some l) i v thread h is).0 (inl b))
        | inr b ↦ inr ((thread_more p.threads (Some l) i v thread h is).0 (inr b))
      ],
      λ a. elim a [
        | inl q ↦ inl (inl q)
        | inr b ↦ elim ((thread_more p.threads (Some l) i v thread h is).1 b) [ inl x ↦ inl (inr x) | inr x ↦ inr x ]
      ],
    ))
    (come_more (IsGatheredBelow p l i) (HasImmediate thread.code (Some l)) old now next first (subst (λ xs. HasCome (HasImmediate xs (Some l)) now next) same second))

-- all threads, where no register is stored to the location
pub values_without : (p : Listing) (l n : ℕ) (now : List ℕ) → length p.threads ≤ n → (TakesRegister p l → ⊥) → HasCome (IsGatheredBelow p l n) [] now → (v : ℕ) → Contains now v ↔ IsValueOf p l v
values_without p l n now h none come v = (
  λ a. elim ((come v).0 a) [
    | inl b ↦ absurd (let k = b.1 in omega arith)
    | inr (inl q) ↦ inl q
    | inr (inr b) ↦ inr (inl ((stored_all p l n v h).0 b))
  ],
  λ a. (come v).1 (inr (elim a [
    | inl q ↦ inl q
    | inr (inl o) ↦ inr ((stored_all p l n v h).1 o)
    | inr (inr k) ↦ absurd (none k.0)
  ])),
)

-- and where one is
pub values_with : (p : Listing) (l n : ℕ) (now next : List ℕ) → length p.threads ≤ n → TakesRegister p l → HasCome (IsGatheredBelow p l n) [] now → HasCome (IsKnown p) now next →
    (v : ℕ) → Contains next v ↔ IsValueOf p l v
values_with p l n now next h takes come known v = (
  λ a. elim ((known v).0 a) [
    | inl b ↦ elim ((come v).0 b) [ inl c ↦ absurd (let k = c.1 in omega arith) | inr (inl q) ↦ inl q | inr (inr s) ↦ inr (inl ((stored_all p l n v h).0 s)) ]
    | inr k ↦ inr (inr (takes, k))
  ],
  λ a. (known v).1 (elim a [
    | inl q ↦ inl ((come v).1 (inr (inl q)))
    | inr (inl o) ↦ inl ((come v).1 (inr (inr ((stored_all p l n v h).1 o))))
    | inr (inr k) ↦ inr k.1
  ]),
)

immediate_from : (p : Listing) (v t k : ℕ) (x : Instr) → instr_at p.threads t k ≡ Some x → any_number x ≡ Some v → IsImmediate p v
immediate_from p v t k (LoadImm r w) at e = inl (r, (t, k, let q : w ≡ v = cc in at ∙ ap (λ z. Some (LoadImm r z)) q))
immediate_from p v t k (StoreImm m w) at e = inr (inl (m, (t, k, let q : w ≡ v = cc in at ∙ ap (λ z. Some (StoreImm m z)) q)))
immediate_from p v t k (CmpImm r w) at e = inr (inr (r, (t, k, let q : w ≡ v = cc in at ∙ ap (λ z. Some (CmpImm r z)) q)))
immediate_from p v t k x at e = absurd cc

-- the immediates of all threads
pub immediate_all : (p : Listing) (n v : ℕ) → length p.threads ≤ n → IsNumberBelow p.threads None n v ↔ IsImmediate p v
immediate_all p n v h = (
  λ (t, b, (k, x, at, e)). immediate_from p v t k x at e,
  λ i. elim i [
    | inl (r, (t, k, at)) ↦ (t, code_within p.threads t k n (LoadImm r v) h at, (k, LoadImm r v, at, refl))
    | inr (inl (l, (t, k, at))) ↦ (t, code_within p.threads t k n (StoreImm l v) h at, (k, StoreImm l v, at, refl))
    | inr (inr (r, (t, k, at))) ↦ (t, code_within p.threads t k n (CmpImm r v) h at, (k, CmpImm r v, at, refl))
  ],
)
