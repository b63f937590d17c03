-- Places that stand already.
use Rattle.litmus_syntax.proofs.Vocabulary.{◌≡◌, ◌∙◌, ◌==◌, ◌||◌, ◌&&◌, ℕ, Bool, true, false, cond, List, [], ◌∷◌, ◌++◌, refl, sym, ap, subst, list_any, bytes_eq, Vec, list_any-append, Seen, eqb-true, bytes_eq-Decides, PlaceView, Location, Register}
use Rattle.litmus_syntax.proofs.Vocabulary.{same_place, has, or-false, and_parts as both, eq-eqb}
use Rattle.tso_program.specs.Instructions as instructions
use Rattle.tso_program.proofs.Registers.{same_register}

-- ---- whether two places are one

pub same_place_is : (p q : PlaceView) → same_place p q ≡ true → p ≡ q
same_place_is (Location x) (Location y) e = ap Location ((bytes_eq-Decides x y).0 e)
same_place_is (Register t r) (Register u s) e =
    let h = both (t == u) (instructions.number r == instructions.number s) e in
    let thread : t ≡ u = eqb-true t u h.0 in
    let reg : r ≡ s = same_register r s (eqb-true (instructions.number r) (instructions.number s) h.1) in
    ap (λ (n : ℕ). Register n r) thread ∙ ap (Register u) reg
same_place_is p q e = absurd cc

pub same_place_itself : (p : PlaceView) → same_place p p ≡ true
same_place_itself (Location x) = (bytes_eq-Decides x x).1 refl
same_place_itself (Register t r) = rw (eq-eqb t t refl, eq-eqb (instructions.number r) (instructions.number r) refl) refl

-- ---- the empty set

pub nothing_seen : (seen : Seen) → seen.names.keys ≡ [] → seen.registers.keys ≡ [] → (p : PlaceView) → has seen p ≡ false
nothing_seen seen names registers (Location x) = rw names refl
nothing_seen seen names registers (Register t r) = rw registers refl

-- ---- adding a place to the set

absorbed : (a b : Bool) → (b ≡ true → a ≡ true) → a ≡ (a || b)
absorbed false true h = absurd (let bad : false ≡ true = h refl in cc)
absorbed a b h = refl

name_among : (keys new : List (Vec ℕ)) (own : Vec ℕ) (b : Bool) → list_any (λ q. bytes_eq own.items q.items) keys ≡ b → new ≡ cond b keys (keys ++ own ∷ []) → (y : List ℕ)
    → list_any (λ k. bytes_eq y k.items) new ≡ (list_any (λ k. bytes_eq y k.items) keys || bytes_eq y own.items)
name_among keys new own true e is y =
    rw is (absorbed (list_any (λ k. bytes_eq y k.items) keys) (bytes_eq y own.items)
    (λ s. let same : own.items ≡ y = sym ((bytes_eq-Decides y own.items).0 s) in subst (λ (z : List ℕ). list_any (λ k. bytes_eq z k.items) keys ≡ true) same e))
name_among keys new own false e is y =
    rw is (list_any-append (λ k. bytes_eq y k.items) keys (own ∷ []) ∙ ap (λ (b : Bool). list_any (λ k. bytes_eq y k.items) keys || b) (or-false (bytes_eq y own.items)))

pub name_added : (old new : Seen) (own : Vec ℕ) (name : List ℕ) → own.items ≡ name → new.registers.keys ≡ old.registers.keys
    → new.names.keys ≡ cond (list_any (λ q. bytes_eq own.items q.items) old.names.keys) old.names.keys (old.names.keys ++ own ∷ []) → (p : PlaceView) → has new p ≡ (has old p || same_place p (Location name))
name_added old new own name is kept keys (Location y) =
    name_among old.names.keys new.names.keys own (list_any (λ q. bytes_eq own.items q.items) old.names.keys) refl keys y ∙ ap (λ (z : List ℕ). list_any (λ k. bytes_eq y k.items) old.names.keys || bytes_eq y z) is
name_added old new own name is kept keys (Register t r) =
    ap (list_any (λ k. t == k.0 && instructions.number r == k.1)) kept ∙ sym (or-false (list_any (λ k. t == k.0 && instructions.number r == k.1) old.registers.keys))
