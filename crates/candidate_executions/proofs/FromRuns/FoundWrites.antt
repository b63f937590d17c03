-- The write that a load finds.
use Rattle.candidate_executions.proofs.Vocabulary.{◌≡◌, ℕ, suc, zero, ◌≤◌, true, false, List, [], ◌∷◌, ◌==◌, if◌then◌else◌, Some, slice_get, length, refl, sym, ap, ◌∙◌, arith, eq-eqb, ne_eqb, same_Some, Pending, Event, found_write}

-- each store of a buffer has its event
abbrev pub AreTagged : List Pending → List (ℕ × Event) → Type 0
AreTagged ws es = (q : ℕ) (w : Pending) → slice_get ws q ≡ Some w → (e : Event) × (slice_get es q ≡ Some (w.location, e))

pub none_found : (l : ℕ) (ws : List Pending) (es : List (ℕ × Event)) → length es ≡ length ws → AreTagged ws es → ((r : ℕ) (w : Pending) → slice_get ws r ≡ Some w → w.location ≡ l → ⊥) →
    (d : Event) → found_write l es d ≡ d
none_found l [] [] long tags none d = refl
none_found l (w ∷ ws) (x ∷ es) long tags none d =
    let other : (x.0 == l) ≡ false = ne_eqb x.0 l (λ q. none 0 w refl (sym (let (e, a) = tags 0 w refl in ap (λ (z : ℕ × Event). z.0) (same_Some x (w.location, e) a)) ∙ q)) in
    ap (λ b. found_write l es (if b then x.1 else d)) other ∙ none_found l ws es (omega arith) (λ q v a. tags (suc q) v a) (λ r v a. none (suc r) v a) d
none_found l ws es long tags none d = absurd (omega arith)

pub newest_found : (l : ℕ) (ws : List Pending) (es : List (ℕ × Event)) (place : ℕ) (w : Pending) (e : Event) → length es ≡ length ws → AreTagged ws es → slice_get ws place ≡ Some w → w.location ≡ l →
    ((r : ℕ) (v : Pending) → slice_get ws r ≡ Some v → v.location ≡ l → r ≤ place) → slice_get es place ≡ Some (w.location, e) → (d : Event) → found_write l es d ≡ e
newest_found l (v ∷ ws) (x ∷ es) zero w e long tags at there last tag d =
    let here : x ≡ (w.location, e) = same_Some x (w.location, e) tag in
    let same : (x.0 == l) ≡ true = eq-eqb x.0 l (ap (λ (z : ℕ × Event). z.0) here ∙ there) in
    ap (λ b. found_write l es (if b then x.1 else d)) same
    ∙ (none_found l ws es (omega arith) (λ q u a. tags (suc q) u a) (λ r u a b. let z = last (suc r) u a b in omega arith) x.1 ∙ ap (λ (z : ℕ × Event). z.1) here)
newest_found l (v ∷ ws) (x ∷ es) (suc place) w e long tags at there last tag d =
    newest_found l ws es place w e (omega arith) (λ q u a. tags (suc q) u a) at there (λ r u a b. let z = last (suc r) u a b in omega arith) tag (if x.0 == l then x.1 else d)
newest_found l ws es place w e long tags at there last tag d = absurd cc
