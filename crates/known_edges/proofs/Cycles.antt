-- Ways along edges, and what a cycle of known edges refutes.
use Rattle.known_edges.proofs.Vocabulary.{◌≡◌, ◌↔◌, ℕ, zero, suc, ◌+◌, ◌<◌, ◌≤◌, List, [], ◌∷◌, get_or, drop, length, Contains, refl, sym, ap, ◌∙◌, subst, add-one, drop-cons, arith, Event, Leads, IsCycle}

module _ (R : Event → Event → Type 0) where
  -- what is left begins with the next event
  pub next_leads : (xs : List Event) (i : ℕ) (d z e : Event) → i < length xs → Leads R d (drop i xs) z ↔ (R d (get_or xs i e) × Leads R (get_or xs i e) (drop (i + 1) xs) z)
  next_leads xs i d z e h =
      let same : drop i xs ≡ get_or xs i e ∷ drop (i + 1) xs = drop-cons xs i e h ∙ ap (λ n. get_or xs i e ∷ drop n xs) (sym (add-one i)) in
      (λ l. subst (λ ys. Leads R d ys z) same l, λ r. subst (λ ys. Leads R d ys z) (sym same) r)

  -- nothing is left
  pub last_leads : (xs : List Event) (i : ℕ) (d z : Event) → length xs ≤ i → Leads R d (drop i xs) z ↔ R d z
  last_leads xs i d z h = (λ l. subst (λ ys. Leads R d ys z) (none xs i h) l, λ r. subst (λ ys. Leads R d ys z) (sym (none xs i h)) r)
    where
      none : (ys : List Event) (n : ℕ) → length ys ≤ n → drop n ys ≡ []
      none [] zero h = refl
      none [] (suc n) h = refl
      none (y ∷ ys) zero h = absurd (omega arith)
      none (y ∷ ys) (suc n) h = none ys n (omega arith)

-- each event of a cycle has an edge to another of its events
next_of : (R : Event → Event → Type 0) (all es : List Event) (d z : Event) → Leads R d es z → ((e : Event) → Contains (d ∷ es) e → Contains all e) → Contains all z →
    (e : Event) → Contains (d ∷ es) e → (f : Event) × Contains all f × R e f
next_of R all [] d z h f g e (zero, n, q) = (z, g, subst (λ x. R x z) q h)
next_of R all [] d z h f g e (suc k, n, q) = absurd (omega arith)
next_of R all (x ∷ es) d z h f g e (zero, n, q) = (x, f x (1, omega arith, refl), subst (λ y. R y x) q h.0)
next_of R all (x ∷ es) d z h f g e (suc k, n, q) = next_of R all es x z h.1 (λ y c. f y (suc c.0, omega (arith, c.1), c.2)) g e (k, omega arith, q)

pub next_in_cycle : (R : Event → Event → Type 0) (es : List Event) → IsCycle R es → (e : Event) → Contains es e → (f : Event) × Contains es f × R e f
next_in_cycle R [] h e c = absurd h
next_in_cycle R (d ∷ es) h e c = next_of R (d ∷ es) es d d h (λ y g. g) (0, omega arith, refl) e c
