-- The events of a candidate can be listed.
use Rattle.candidate_executions.proofs.Vocabulary.{◌≡◌, ℕ, ap, suc, zero, ◌<◌, List, [], ◌∷◌, ◌++◌, ◌⊎◌, refl, sym, ◌∙◌, subst, inl, inr, arith, cases_eq, Event, At}
use Rattle.candidate_executions.proofs.Orders.AcyclicIsOrdered.{In, Distinct}

-- the events of thread t below i, and of the threads below n
abbrev pub of_one : ℕ → ℕ → List Event
of_one t zero = []
of_one t (suc i) = At t i ∷ of_one t i

abbrev pub of_all : (ℕ → ℕ) → ℕ → List Event
of_all long zero = []
of_all long (suc n) = of_one n (long n) ++ of_all long n

in_one : (t n : ℕ) (e : Event) → In e (of_one t n) → (i : ℕ) × (e ≡ At t i) × (i < n)
in_one t zero e h = absurd h
in_one t (suc n) e (inl q) = (n, q, omega arith)
in_one t (suc n) e (inr h) = let (i, q, b) = in_one t n e h in (i, q, omega arith)

one_in : (t n i : ℕ) → i < n → In (At t i) (of_one t n)
one_in t zero i h = absurd (omega arith)
one_in t (suc n) i h = elim (cases_eq i n) [ inl q ↦ inl (ap (At t) q) | inr q ↦ inr (one_in t n i (omega arith)) ]

in_append : (xs ys : List Event) (e : Event) → In e (xs ++ ys) → In e xs ⊎ In e ys
in_append [] ys e h = inr h
in_append (x ∷ xs) ys e (inl q) = inl (inl q)
in_append (x ∷ xs) ys e (inr h) = elim (in_append xs ys e h) [ inl a ↦ inl (inr a) | inr a ↦ inr a ]

append_left : (xs ys : List Event) (e : Event) → In e xs → In e (xs ++ ys)
append_left [] ys e h = absurd h
append_left (x ∷ xs) ys e (inl q) = inl q
append_left (x ∷ xs) ys e (inr h) = inr (append_left xs ys e h)

append_right : (xs ys : List Event) (e : Event) → In e ys → In e (xs ++ ys)
append_right [] ys e h = h
append_right (x ∷ xs) ys e h = inr (append_right xs ys e h)

pub in_all : (long : ℕ → ℕ) (n : ℕ) (e : Event) → In e (of_all long n) → (t i : ℕ) × (e ≡ At t i) × (t < n) × (i < long t)
in_all long zero e h = absurd h
in_all long (suc n) e h = elim (in_append (of_one n (long n)) (of_all long n) e h) [
  | inl a ↦ (let (i, q, b) = in_one n (long n) e a in (n, i, q, omega arith, b))
  | inr a ↦ (let (t, i, q, b, d) = in_all long n e a in (t, i, q, omega arith, d))
]

pub all_in : (long : ℕ → ℕ) (n t i : ℕ) → t < n → i < long t → In (At t i) (of_all long n)
all_in long zero t i a b = absurd (omega arith)
all_in long (suc n) t i a b = elim (cases_eq t n) [
  | inl q ↦ append_left (of_one n (long n)) (of_all long n) (At t i) (subst (λ z. In (At t i) (of_one z (long z))) q (one_in t (long t) i b))
  | inr q ↦ append_right (of_one n (long n)) (of_all long n) (At t i) (all_in long n t i (omega arith) b)
]

distinct_append : (xs ys : List Event) → Distinct xs → Distinct ys → ((e : Event) → In e xs → In e ys → ⊥) → Distinct (xs ++ ys)
distinct_append [] ys a b h = b
distinct_append (x ∷ xs) ys a b h =
    ((λ i. elim (in_append xs ys x i) [ inl j ↦ a.0 j | inr j ↦ h x (inl refl) j ]), distinct_append xs ys a.1 b (λ e i j. h e (inr i) j))

distinct_one : (t n : ℕ) → Distinct (of_one t n)
distinct_one t zero = tt
distinct_one t (suc n) = ((λ i. let (j, q, b) = in_one t n (At t n) i in let z : n ≡ j = cc in omega arith), distinct_one t n)

pub distinct_all : (long : ℕ → ℕ) (n : ℕ) → Distinct (of_all long n)
distinct_all long zero = tt
distinct_all long (suc n) = distinct_append (of_one n (long n)) (of_all long n) (distinct_one n (long n)) (distinct_all long n)
    (λ e a b. let (i, q, r) = in_one n (long n) e a in let (t, j, s, u, v) = in_all long n e b in
    let z : At n i ≡ At t j = sym q ∙ s in let y : n ≡ t = cc in omega arith)
