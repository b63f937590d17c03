-- A function changed at one place.
use Rattle.std.proofs.Common.{◌≡◌, ℕ, sym, subst, inl, inr}
use mathlib.Core.Path.{fun_ext}
use Rattle.std.proofs.lemmas.Bool.{cases_eq}
use Rattle.tso_machine.specs.Machine.{put}
pub use Rattle.tso_machine.proofs.Link.{put_same, put_other}

-- what holds of three functions at the place where they are changed, and at each other place of what they were, holds at each place
pub put_three : {A B C : Type 0} (P : ℕ → A → B → C → Type 0) (f : ℕ → A) (g : ℕ → B) (h : ℕ → C) (t : ℕ) (x : A) (y : B) (z : C) → P t x y z →
    ((u : ℕ) → (u ≡ t → ⊥) → P u (f u) (g u) (h u)) → (u : ℕ) → P u (put f t x u) (put g t y u) (put h t z u)
put_three P f g h t x y z here others u = elim (cases_eq u t) [
  | inl q ↦ subst (λ w. P w (put f t x w) (put g t y w) (put h t z w)) (sym q) (rw (put_same f t x, put_same g t y, put_same h t z) here)
  | inr n ↦ rw (put_other f t x u n, put_other g t y u n, put_other h t z u n) (others u n)
]

-- two functions, or one, changed at one number
pub put_both : {A B : Type 0} (P : ℕ → A → B → Type 0) (f : ℕ → A) (g : ℕ → B) (t : ℕ) (x : A) (y : B) → P t x y → ((u : ℕ) → (u ≡ t → ⊥) → P u (f u) (g u)) →
    (u : ℕ) → P u (put f t x u) (put g t y u)
put_both P f g t x y here others = put_three (λ u a b c. P u a b) f g g t x y y here others

pub put_each : {A : Type 0} (P : ℕ → A → Type 0) (f : ℕ → A) (t : ℕ) (x : A) → P t x → ((u : ℕ) → (u ≡ t → ⊥) → P u (f u)) → (u : ℕ) → P u (put f t x u)
put_each P f t x here others = put_three (λ u a b c. P u a) f f f t x x x here others

-- changed back it is as before
pub put_back : {A : Type 0} (f : ℕ → A) (t : ℕ) (x y : A) → f t ≡ y → put (put f t x) t y ≡ f
put_back f t x y e = fun_ext (put_each (λ u z. z ≡ f u) (put f t x) t y (sym e) (λ u q. put_other f t x u q))
