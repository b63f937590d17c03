-- Steps that may fail.
use Rattle.litmus_syntax.proofs.Vocabulary.{◌≡◌, Bool, true, false, cond, sym, ap, subst, refl, ◌∙◌, List, Option, Some, None, ◌>>=◌, bind_some, same_Some, Mark, Tok, mark_at, begins_with, rest_of, mark, mark_again, begins_again, begins_takes, Result, Err}
use Rattle.litmus_syntax.proofs.Vocabulary.{err_from_is_err_and}
use Rattle.std.specs.Result.{IsErrAnd}

-- what is there
abbrev pub given : {A : Type 0} → A → Option A
given x = Some x

-- what holds of all that a step makes of what comes before it
pub made : {A B : Type 0} (P : B → Type 0) (o : Option A) (f : A → B) → ((x : A) → o ≡ Some x → P (f x)) → (y : B) → (o >>= λ x. Some (f x)) ≡ Some y → P y
made P o f each y e = let a = bind_some o (λ x. Some (f x)) y e in subst P (same_Some (f a.0) y a.2) (each a.0 a.1)

-- what holds of all that comes after a step
pub next : {A B : Type 0} (P : B → Type 0) (o : Option A) (f : A → Option B) → ((x : A) → o ≡ Some x → (y : B) → f x ≡ Some y → P y) → (y : B) → (o >>= f) ≡ Some y → P y
next P o f each y e = let a = bind_some o f y e in each a.0 a.1 y a.2

-- what holds of all that either step gives, whichever a test takes
pub tested : {B : Type 0} (P : B → Type 0) (b : Bool) (o p : Option B) → (b ≡ true → (y : B) → o ≡ Some y → P y) → (b ≡ false → (y : B) → p ≡ Some y → P y)
    → (y : B) → cond b o p ≡ Some y → P y
tested P true o p yes' no' y e = yes' refl y e
tested P false o p yes' no' y e = no' refl y e

-- what a `?` hands on
pub handed_on : {T E : Type 0} {e : E} (r : Result T E) → IsErrAnd r (λ y. y ≡ e) → r ≡ Err e
handed_on r h = let p = err_from_is_err_and r h in p.1 ∙ ap Err p.2

-- a mark that does not come first is not there
pub not_first : (m : Mark) (ts : List Tok) → begins_with m ts ≡ false → (rest : List Tok) → mark m ts rest → ⊥
not_first m ts e rest h = let bad = sym e ∙ begins_again m ts rest h in cc

-- nor is one that is not taken
pub not_taken : (m : Mark) (ts : List Tok) → mark_at m ts ≡ None → (rest : List Tok) → mark m ts rest → ⊥
not_taken m ts e rest h = let bad = sym e ∙ mark_again m ts rest h in cc

-- a mark that comes first is taken
pub mark_is_there : (m : Mark) (ts : List Tok) → begins_with m ts ≡ true → mark_at m ts ≡ None → ⊥
mark_is_there m ts e none = not_taken m ts none (rest_of ts) (begins_takes m ts e)
