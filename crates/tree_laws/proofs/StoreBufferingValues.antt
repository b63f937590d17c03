-- Store buffering: its instructions, the values of its locations, and its accesses under given values.
use Rattle.tree_laws.proofs.Vocabulary.{◌≡◌, ◌↔◌, ◌⊎◌, ℕ, zero, suc, ◌<◌, List, [], ◌∷◌, Some, None, Contains, slice_index, refl, sym, ap, ◌∙◌, subst, inl, inr, arith, same_Some, Machine, store_buffering, Access, Initial, At, access_by, Writes, Sketch}
use Rattle.tree_laws.proofs.Vocabulary.{empty_sketch, given_to, with_value, IsWhole, instr_at, Occurs, IsValueOf}
use Rattle.tso_program.specs.declared.instruction.Reg.{Reg, TheVariants.Eax}
use Rattle.tso_program.specs.declared.instruction.Instr.{Instr, TheVariants.Load, TheVariants.StoreImm, TheVariants.Store, TheVariants.Xchg}
use Rattle.tree_laws.proofs.Lists.{first_is_here, later_is_here}

-- one of the four instructions
instruction : (t k : ℕ) (x : Instr) → instr_at store_buffering.threads t k ≡ Some x → (x ≡ StoreImm 0 1) ⊎ ((x ≡ Load Eax 1) ⊎ ((x ≡ StoreImm 1 1) ⊎ (x ≡ Load Eax 0)))
instruction zero zero x e = inl (sym (same_Some _ x e))
instruction zero (suc zero) x e = inr (inl (sym (same_Some _ x e)))
instruction (suc zero) zero x e = inr (inr (inl (sym (same_Some _ x e))))
instruction (suc zero) (suc zero) x e = inr (inr (inr (sym (same_Some _ x e))))
instruction t k x e = absurd cc

stores_one : (l v : ℕ) → Occurs store_buffering (StoreImm l v) → v ≡ 1
stores_one l v (t, k, e) = elim (instruction t k (StoreImm l v) e) [ inl q ↦ cc | inr (inl q) ↦ absurd cc | inr (inr (inl q)) ↦ cc | inr (inr (inr q)) ↦ absurd cc ]

no_register_store : (l : ℕ) (r : Reg) → Occurs store_buffering (Store l r) → ⊥
no_register_store l r (t, k, e) = elim (instruction t k (Store l r) e) [ inl q ↦ cc | inr (inl q) ↦ cc | inr (inr (inl q)) ↦ cc | inr (inr (inr q)) ↦ cc ]

no_exchange : (l : ℕ) (r : Reg) → Occurs store_buffering (Xchg l r) → ⊥
no_exchange l r (t, k, e) = elim (instruction t k (Xchg l r) e) [ inl q ↦ cc | inr (inl q) ↦ cc | inr (inr (inl q)) ↦ cc | inr (inr (inr q)) ↦ cc ]

-- 0 and 1
abbrev pub zero_one : List ℕ
zero_one = 0 ∷ 1 ∷ []

pub in_zero_one : (v : ℕ) → v < 2 → Contains zero_one v
in_zero_one zero h = first_is_here 0 (1 ∷ [])
in_zero_one (suc zero) h = later_is_here 0 (1 ∷ []) 1 (first_is_here 1 [])
in_zero_one (suc (suc v)) h = absurd (omega arith)

pub of_zero_one : (v : ℕ) → Contains zero_one v → (v ≡ 0) ⊎ (v ≡ 1)
of_zero_one v (zero, h, e) = inl (sym e)
of_zero_one v (suc zero, h, e) = inr (sym e)
of_zero_one v (suc (suc k), h, e) = absurd (omega arith)

starts_at_zero : (l : ℕ) → l < 2 → slice_index store_buffering.memory l ≡ 0
starts_at_zero (suc (suc l)) h = absurd (omega arith)
starts_at_zero l h = refl

one_is_stored : (l : ℕ) → l < 2 → Occurs store_buffering (StoreImm l 1)
one_is_stored zero h = (0, 0, refl)
one_is_stored (suc zero) h = (1, 0, refl)
one_is_stored (suc (suc l)) h = absurd (omega arith)

-- the values of both locations are 0 and 1
pub values : (l : ℕ) → l < 2 → (v : ℕ) → Contains zero_one v ↔ IsValueOf store_buffering l v
values l h v = (there, back)
  where
    there : Contains zero_one v → IsValueOf store_buffering l v
    there here = elim (of_zero_one v here) [
      | inl e ↦ inl (e ∙ sym (starts_at_zero l h))
      | inr e ↦ inr (inl (subst (λ (w : ℕ). Occurs store_buffering (StoreImm l w)) (sym e) (one_is_stored l h)))
    ]

    back : IsValueOf store_buffering l v → Contains zero_one v
    back (inl e) = let z : v ≡ 0 = e ∙ starts_at_zero l h in in_zero_one v (omega arith)
    back (inr (inl occurs)) = let one : v ≡ 1 = stores_one l v occurs in in_zero_one v (omega arith)
    back (inr (inr ((r, inl occurs), known))) = absurd (no_register_store l r occurs)
    back (inr (inr ((r, inr occurs), known))) = absurd (no_exchange l r occurs)

-- both loads have their values
abbrev pub both : ℕ → ℕ → Sketch
both a b = with_value (with_value (empty_sketch store_buffering) 0 a) 1 b

module _ (mode : Machine) (a b : ℕ) where
  pub whole : IsWhole store_buffering mode (both a b)
  whole zero = refl
  whole (suc zero) = refl
  whole (suc (suc t)) = refl

  -- the accesses that write: each thread's first, which writes 1 to its location
  pub writes_one : (t i l v : ℕ) → Writes (access_by store_buffering mode (given_to (both a b))) (At t i) l v → (v ≡ 1) × (t ≡ l)
  writes_one (suc (suc t)) i l v (x, is, at, writes) = absurd cc
  writes_one zero (suc (suc i)) l v (x, is, at, writes) = absurd cc
  writes_one t zero l v (x, is, at, writes) =
      let location : t ≡ x.location = ap (λ (z : Access). z.location) (same_Some _ x is) in
      let written : Some 1 ≡ x.written = ap (λ (z : Access). z.written) (same_Some _ x is) in
      (sym (same_Some 1 v (written ∙ writes)), location ∙ at)
  writes_one t (suc zero) l v (x, is, at, writes) = let written : None ≡ x.written = ap (λ (z : Access). z.written) (same_Some _ x is) in absurd cc
  writes_one t i l v (x, is, at, writes) = absurd cc

  -- an initial write writes to its location
  pub writes_initial : (m l v : ℕ) → Writes (access_by store_buffering mode (given_to (both a b))) (Initial m) l v → m ≡ l
  writes_initial m l v (x, is, at, writes) = ap (λ (z : Access). z.location) (same_Some _ x is) ∙ at
