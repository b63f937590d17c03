-- What a register may hold, and which locations take a register.
use Rattle.thread_traces.proofs.Vocabulary.{◌≡◌, ◌↔◌, ◌⊎◌, ℕ, zero, suc, ◌+◌, ◌<◌, ◌≤◌, List, [], ◌∷◌, ◌++◌, Some, None, get_or, length, Contains, refl, sym, ap, ◌∙◌, subst, inl, inr, arith, get_or_past, slice_index, cases_lt, Contains-get_or, read_is, Instr}
use Rattle.thread_traces.proofs.Vocabulary.{Store, Xchg, Thread, Listing, instr_at, start_of, IsKnown, TakesRegister, HasImmediate, StoresRegister, TakesRegisterOf}
use Rattle.thread_traces.proofs.Gathered.{HasCome, come_by, come_more, come_append, IsNumberBelow, thread_more, immediate_all}

-- an initial value of a register of the first n threads
abbrev pub IsRegisterBelow : List Thread → ℕ → ℕ → Type 0
IsRegisterBelow threads n v = (t : ℕ) × (t < n) × Contains (start_of threads t).registers v

pub registers_more : (threads : List Thread) (i v : ℕ) (thread : Thread) → i < length threads → thread ≡ get_or threads i thread →
    (IsRegisterBelow threads i v ⊎ Contains thread.registers v) ↔ IsRegisterBelow threads (i + 1) v
registers_more threads i v thread h is =
    let same : (start_of threads i).registers ≡ thread.registers = ap (λ (x : Thread). x.registers) (read_is threads i thread (record { code = []; registers = [] }) h is) in (
      λ a. elim a [
        | inl b ↦ (b.0, (let n = b.1 in omega arith), b.2)
        | inr b ↦ (i, omega arith, subst (λ xs. Contains xs v) (sym same) b)
      ],
      λ a. elim (cases_lt a.0 i) [
        | inl l ↦ inl (a.0, l, a.2)
        | inr g ↦ (let eq : a.0 ≡ i = (let n = a.1 in omega arith) in
            inr (subst (λ xs. Contains xs v) (ap (λ t. (start_of threads t).registers) eq ∙ same) a.2))
      ],
    )

-- what is read from a list is 0 or in it
in_or_zero : (xs : List ℕ) (i v : ℕ) → v ≡ slice_index xs i → (v ≡ 0) ⊎ Contains xs v
in_or_zero xs i v e = elim (cases_lt i (length xs)) [
  | inl l ↦ inr (subst (Contains xs) (sym e) (Contains-get_or xs i 0 l))
  | inr g ↦ inl (e ∙ get_or_past xs i 0 g)
]

from_list : (xs : List ℕ) (v : ℕ) → Contains xs v → (i : ℕ) × (v ≡ slice_index xs i)
from_list xs v h = (h.0, sym h.2 ∙ default xs h.0 v 0 h.1)
  where
    default : (ys : List ℕ) (j d e : ℕ) → j < length ys → get_or ys j d ≡ get_or ys j e
    default [] j d e l = absurd (omega arith)
    default (y ∷ ys) zero d e l = refl
    default (y ∷ ys) (suc j) d e l = default ys j d e (omega arith)

no_registers : (threads : List Thread) (t : ℕ) → length threads ≤ t → (start_of threads t).registers ≡ []
no_registers threads t h = ap (λ (x : Thread). x.registers) (get_or_past threads t (record { code = []; registers = [] }) h)

-- 0, the immediates, and the initial values: all that a register may hold
pub known_all : (p : Listing) (n v : ℕ) → length p.threads ≤ n →
    (((v ≡ 0) ⊎ (IsNumberBelow p.threads None n v ⊎ IsRegisterBelow p.threads n v)) ⊎ Contains p.memory v) ↔ IsKnown p v
known_all p n v h = (
  λ a. elim a [
    | inl (inl z) ↦ inl z
    | inl (inr (inl i)) ↦ inr (inl ((immediate_all p n v h).0 i))
    | inl (inr (inr (t, b, c))) ↦ (let (i, e) = from_list (start_of p.threads t).registers v c in inr (inr (inl (t, i, e))))
    | inr c ↦ inr (inr (inr (from_list p.memory v c)))
  ],
  λ a. elim a [
    | inl z ↦ inl (inl z)
    | inr (inl i) ↦ inl (inr (inl ((immediate_all p n v h).1 i)))
    | inr (inr (inl (t, i, e))) ↦ elim (in_or_zero (start_of p.threads t).registers i v e) [
      | inl z ↦ inl (inl z)
      | inr c ↦ elim (cases_lt t n) [
        | inl l ↦ inl (inr (inr (t, l, c)))
        | inr g ↦ absurd (let gone : Contains [] v = subst (λ xs. Contains xs v) (no_registers p.threads t (omega arith)) c in let k = gone.1 in omega arith)
      ]
    ]
    | inr (inr (inr (l, e))) ↦ elim (in_or_zero p.memory l v e) [ inl z ↦ inl (inl z) | inr c ↦ inr c ]
  ],
)

-- 0, and the numbers and registers of the first n threads
abbrev pub IsKnownBelow : List Thread → ℕ → ℕ → Type 0
IsKnownBelow threads n v = (v ≡ 0) ⊎ (IsNumberBelow threads None n v ⊎ IsRegisterBelow threads n v)

-- one thread more
pub known_more : (threads : List Thread) (i : ℕ) (thread : Thread) (code : List Instr) (registers old now mid next : List ℕ) → i < length threads → thread ≡ get_or threads i thread →
    code ≡ thread.code → registers ≡ thread.registers → HasCome (IsKnownBelow threads i) old now → HasCome (HasImmediate code None) now mid → next ≡ mid ++ registers →
    HasCome (IsKnownBelow threads (i + 1)) old next
known_more threads i thread code registers old now mid next h is same held first second append =
    let numbers = subst (λ xs. HasCome (HasImmediate xs None) now mid) same second in
    let third = subst (λ xs. HasCome (Contains xs) mid next) held (subst (HasCome (Contains registers) mid) (sym append) (come_append mid registers)) in
    come_by (λ v. (IsKnownBelow threads i v ⊎ HasImmediate thread.code None v) ⊎ Contains thread.registers v) (IsKnownBelow threads (i + 1)) old next
    (λ v. (
      λ a. elim a [
        | inl (inl (inl z)) ↦ inl z
        | inl (inl (inr (inl b))) ↦ inr (inl ((thread_more threads None i v thread h is).0 (inl b)))
        | inl (inl (inr (inr b))) ↦ inr (inr ((registers_more threads i v thread h is).0 (inl b)))
        | inl (inr b) ↦ inr (inl ((thread_more threads None i v thread h is).0 (inr b)))
        | inr b ↦ inr (inr ((registers_more threads i v thread h is).0 (inr b)))
      ],
      λ a. elim a [
        | inl z ↦ inl (inl (inl z))
        | inr (inl b) ↦ elim ((thread_more threads None i v thread h is).1 b) [ inl x ↦ inl (inl (inr (inl x))) | inr x ↦ inl (inr x) ]
        | inr (inr b) ↦ elim ((registers_more threads i v thread h is).1 b) [ inl x ↦ inl (inl (inr (inr x))) | inr x ↦ inr x ]
      ],
    ))
    (come_more (λ v. IsKnownBelow threads i v ⊎ HasImmediate thread.code None v) (Contains thread.registers) old mid next
    (come_more (IsKnownBelow threads i) (HasImmediate thread.code None) old now mid first numbers) third)

-- all threads, and the initial values of the locations
pub known_come : (p : Listing) (n : ℕ) (memory old now next : List ℕ) → length p.threads ≤ n → memory ≡ p.memory → HasCome (IsKnownBelow p.threads n) old now → next ≡ now ++ memory →
    HasCome (IsKnown p) old next
known_come p n memory old now next h same first append =
    let last = subst (λ xs. HasCome (Contains xs) now next) same (subst (HasCome (Contains memory) now) (sym append) (come_append now memory)) in
    come_by (λ v. IsKnownBelow p.threads n v ⊎ Contains p.memory v) (IsKnown p) old next (λ v. known_all p n v h)
    (come_more (IsKnownBelow p.threads n) (Contains p.memory) old now next first last)

stores_from : (p : Listing) (l t k : ℕ) (x : Instr) → instr_at p.threads t k ≡ Some x → StoresRegister l x → TakesRegister p l
stores_from p l t k (Store m r) at e = (r, inl (t, k, at ∙ ap (λ z. Some (Store z r)) e))
stores_from p l t k (Xchg m r) at e = (r, inr (t, k, at ∙ ap (λ z. Some (Xchg z r)) e))
stores_from p l t k x at e = absurd e

pub takes_same : (p : Listing) (l : ℕ) → TakesRegisterOf p.threads l ↔ TakesRegister p l
takes_same p l = (
  λ (t, k, x, at, e). stores_from p l t k x at e,
  λ h. elim h.1 [ inl (t, k, at) ↦ (t, k, Store l h.0, at, refl) | inr (t, k, at) ↦ (t, k, Xchg l h.0, at, refl) ],
)
