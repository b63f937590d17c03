-- What a filter keeps.
use Rattle.std.proofs.Common.{◌≡◌, ◌==◌, ◌<◌, ℕ, zero, suc, Bool, true, false, cond, List, [], ◌∷◌, length, get_or, map, nat_lt, arith, refl, subst}
use Rattle.std.specs.Prelude.{Contains, filter}
use Rattle.std.proofs.lemmas.Bool.Decides.{nat_tests}

more : {X : Type 0} (b : Bool) (y : X) (zs : List X) (x : X) → Contains zs x → Contains (cond b (y ∷ zs) zs) x
more true y zs x found = (suc found.0, omega (arith, found.1), found.2)
more false y zs x found = found

-- what is made of an element is kept where it passes the test
kept : {X Y : Type 0} (f : X → Y) (q : Y → Bool) (xs : List X) (i : ℕ) (d : X) → i < length xs → q (f (get_or xs i d)) ≡ true → Contains (filter q (map f xs)) (f (get_or xs i d))
kept f q [] i d lt pass = absurd (omega arith)
kept f q (x ∷ xs) zero d lt pass = rw pass (0, omega arith, refl)
kept f q (x ∷ xs) (suc i) d lt pass = more (q (f x)) (f x) (filter q (map f xs)) (f (get_or xs i d)) (kept f q xs i d (omega arith) pass)

-- an element that passes is kept in a list that is known to be the filtered one
pub kept_in : {X Y : Type 0} (f : X → Y) (q : Y → Bool) (xs : List X) (ys : List Y) (i : ℕ) (d : X) → map f xs ≡ ys → i < length xs → q (f (get_or xs i d)) ≡ true → Contains (filter q ys) (f (get_or xs i d))
kept_in {Y = Y} f q xs ys i d is lt pass = subst (λ (zs : List Y). Contains (filter q zs) (f (get_or xs i d))) is (kept f q xs i d lt pass)

-- a length that is not 0 is more
pub more_than_none : (n : ℕ) → (n == 0) ≡ false → nat_lt 0 n ≡ true
more_than_none n some = grind (arith, nat_tests)
