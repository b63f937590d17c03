-- Tests that are false.
use Rattle.thread_traces.proofs.Vocabulary.{◌≡◌, ◌↔◌, Bool, true, false, IsTrue, ℕ, Option, Some, IsSome, refl, sym, ◌∙◌}

pub yes : (P : Type 0) → P → IsTrue true ↔ P
yes P p = (λ e. p, λ q. refl)

pub no : (P : Type 0) → (P → ⊥) → IsTrue false ↔ P
no P n = (λ e. absurd (let f : false ≡ true = e in cc), λ p. absurd (n p))

-- a test that is false, of a fact
pub not_by : (b : Bool) (P : Type 0) → (IsTrue b ↔ P) → b ≡ false → P → ⊥
not_by b P h e p = let t : true ≡ false = sym (h.1 p) ∙ e in cc

pub of_some : (o : Option ℕ) (v : ℕ) → o ≡ Some v → IsSome o
of_some o v e = rw e refl
