-- Steps that may give nothing.
use Rattle.text_tokens.proofs.Vocabulary.{◌≡◌, Bool, true, false, cond, refl, inl, inr, ◌⊎◌, Option, Some, None}
use Rattle.text_tokens.specs.Steps.{◌>>=◌}

-- where two steps succeed, the first does
pub bind_some : {A B : Type 0} (o : Option A) (f : A → Option B) (y : B) → (o >>= f) ≡ Some y → (x : A) × (o ≡ Some x) × (f x ≡ Some y)
bind_some (Some x) f y e = (x, refl, e)
bind_some None f y e = absurd cc

-- the step that a test takes
pub by_test : {A : Type 0} (b : Bool) (x y z : Option A) → cond b x y ≡ z → ((b ≡ true) × (x ≡ z)) ⊎ ((b ≡ false) × (y ≡ z))
by_test true x y z e = inl (refl, e)
by_test false x y z e = inr (refl, e)

-- what a test says where something comes after it, or nothing does
pub kept_out : {A : Type 0} (b : Bool) (x : Option A) (y : A) → cond b None x ≡ Some y → (b ≡ false) × (x ≡ Some y)
kept_out true x y e = absurd cc
kept_out false x y e = (refl, e)

pub let_through : {A : Type 0} (b : Bool) (x : Option A) (y : A) → cond b x None ≡ Some y → (b ≡ true) × (x ≡ Some y)
let_through true x y e = (refl, e)
let_through false x y e = absurd cc

pub not_passed : {A : Type 0} (b : Bool) (x : A) → cond b (Some x) None ≡ None → b ≡ false
not_passed true x e = absurd cc
not_passed false x e = refl
