-- A thread of a program, as it is read.
use Rattle.std.proofs.Common.{◌≡◌, ℕ, ◌+◌, ◌<◌, List, [], ◌∷◌, length, Option, Some, None, refl, sym, ap, ◌∙◌, arith, slice_get, get_or}
use Rattle.std.proofs.lemmas.List.{get_or_default}
use Rattle.std.proofs.lemmas.Option.{slice_get-get_or}
use Rattle.std.specs.Option.{option_map_or}
use Rattle.std.specs.Prelude.{IfSome}
use Rattle.tso_program.specs.declared.limits.TheConstants.{MAX_LOCATIONS}
use Rattle.tso_program.specs.declared.instruction.Instr.{Instr}
use Rattle.tso_program.specs.declared.listing.Listing.{Listing}
use Rattle.tso_program.specs.declared.listing.Thread.{Thread}
use Rattle.tso_program.specs.Instructions.{location_of, target_of}
use Rattle.tso_program.specs.Limits.{IsWithinLimits}
use Rattle.tso_program.specs.Listings.{code_of, instr_at, start_of}

-- what holds of the value of an option
if_some : {A : Type 0} (P : A → Type 0) (o : Option A) → ((x : A) → o ≡ Some x → P x) → IfSome o P
if_some P None f = tt
if_some P (Some x) f = f x refl

module _ (p : Listing) (t : ℕ) (thread : Thread) (threads : List Thread) (code : List Instr) (same : threads ≡ p.threads) (there : t < length p.threads) (item : thread ≡ get_or threads t thread) (code_is : code ≡ thread.code) where
  is : thread ≡ get_or p.threads t thread
  is = item ∙ ap (λ (ts : List Thread). get_or ts t thread) same

  pub code_same : code_of p.threads t ≡ code
  code_same = ap (λ (o : Option Thread). option_map_or (λ (z : Thread). z.code) o []) (slice_get-get_or p.threads t thread there) ∙ (ap (λ (z : Thread). z.code) (sym is) ∙ sym code_is)

  pub registers_same : (start_of p.threads t).registers ≡ thread.registers
  registers_same = ap (λ (z : Thread). z.registers) (get_or_default p.threads t (record { code = []; registers = [] }) thread there ∙ sym is)

  pub instr_is : (k : ℕ) (d : Instr) → k < length code → instr_at p.threads t k ≡ Some (get_or code k d)
  instr_is k d low = ap (λ (xs : List Instr). slice_get xs k) code_same ∙ slice_get-get_or code k d low

  module _ (within : IsWithinLimits p.threads p.memory) (k : ℕ) (d : Instr) (low : k < length code) where
    pub located : IfSome (location_of (get_or code k d)) (λ (l : ℕ). l < MAX_LOCATIONS)
    located = if_some (λ (l : ℕ). l < MAX_LOCATIONS) (location_of (get_or code k d)) (λ l names.
        (let less = within.shared.located t k l (get_or code k d) (instr_is k d low) names in let few = within.shared.few_locations in omega (arith, less, few)))

    pub led : (n : ℕ) → n ≡ length (code_of p.threads t) + 1 → IfSome (target_of (get_or code k d)) (λ (j : ℕ). j < n)
    led n long = if_some (λ (j : ℕ). j < n) (target_of (get_or code k d)) (λ j leads.
        (let less = within.shared.inner_jumps t k j (get_or code k d) (instr_is k d low) leads in omega (arith, less, long)))
