-- The rows of a thread, instruction by instruction.
use Rattle.std.proofs.Common.{◌≡◌, ◌⊎◌, ◌==◌, ℕ, zero, suc, ◌+◌, ◌<◌, ◌≤◌, Bool, true, false, List, [], length, Some, sym, ap, ◌∙◌, subst, inl, inr, arith, eqb-true, eq-eqb, slice_index}
use Rattle.std.proofs.lemmas.Bool.{cases_eq, cases_lt}
use Rattle.std.proofs.lemmas.List.{get_or_past}
use Rattle.std.proofs.lemmas.Option.{same_Some, slice_get_within}
use Rattle.tso_program.specs.declared.instruction.TheConstants.{REGISTERS}
use Rattle.tso_program.specs.declared.instruction.Reg.{Reg}
use Rattle.tso_program.specs.declared.instruction.Instr.{Instr}
use Rattle.tso_program.specs.declared.instruction.Instr.TheVariants.{LoadImm, Copy, Load, Xchg, Je, Jne, Jmp}
use Rattle.tso_program.specs.declared.listing.Listing.{Listing}
use Rattle.tso_program.specs.Instructions.{number, target_of}
use Rattle.tso_program.specs.Limits.{IsWithinLimits}
use Rattle.tso_program.specs.Listings.{code_of, instr_at, start_of}
use Rattle.tso_machine.specs.Effects.{Sets, LeadsTo}
use Rattle.tso_machine.specs.HeldValues.{Location, Register, First, Loaded, Keeps, Copies, Loads, Takes, MayHold, Here, From}
use Rattle.held_values.specs.HeldRows.{has, first_row, no_row, row_after, spread, AreSound, AreHeldRows}
use Rattle.held_values.proofs.Bits.{bit_case}
use Rattle.held_values.proofs.RowsSpread.{row_of, AreWide, spread_is, spread_keeps, spread_has, spread_before, spread_long, spread_wide}

next_or_target : (x : Instr) (k j : ℕ) → LeadsTo x k j → (k + 1 ≡ j) ⊎ (target_of x ≡ Some j)
next_or_target (Je to) k j h = elim h [ inl e ↦ inr (ap Some e) | inr e ↦ inl e ]
next_or_target (Jne to) k j h = elim h [ inl e ↦ inr (ap Some e) | inr e ↦ inl e ]
next_or_target (Jmp to) k j e = inr (ap Some e)
next_or_target x k j e = inl e

module _ (p : Listing) (v t : ℕ) (locations : List Bool) where
  -- the rows, of which those before place k have been put into the ones that they lead to
  pub record AreHeldUpTo (k : ℕ) (rows : List (List Bool)) : Type 0 where
    pub long : length rows ≡ length (code_of p.threads t) + 1
    pub wide : AreWide rows
    pub sound : AreSound p v locations → (n i : ℕ) → has (row_of rows n) i ≡ true → MayHold p (Register t n i) v
    pub first : (i : ℕ) → i < REGISTERS → slice_index (start_of p.threads t).registers i ≡ v → has (row_of rows 0) i ≡ true
    pub closed : (n j i : ℕ) (x : Instr) → n < k → instr_at p.threads t n ≡ Some x → LeadsTo x n j → i < REGISTERS →
        has (row_after v x (row_of rows n) locations) i ≡ true → has (row_of rows j) i ≡ true

  module _ (k : ℕ) (row : List Bool) (sound : AreSound p v locations) (held : (i : ℕ) → has row i ≡ true → MayHold p (Register t k i) v) where
    keeps : (x : Instr) → instr_at p.threads t k ≡ Some x → (j i : ℕ) → (Sets x i → ⊥) → LeadsTo x k j → has row i ≡ true → MayHold p (Register t j i) v
    keeps x at j i none leads h = From (Register t k i) (Register t j i) v (Keeps t k j i x at none leads) (held i h)

    moved : (r : Reg) (j i : ℕ) → k + 1 ≡ j → number r ≡ i → MayHold p (Register t (k + 1) (number r)) v → MayHold p (Register t j i) v
    moved r j i leads e h = subst (λ m. MayHold p (Register t m i) v) leads (subst (λ m. MayHold p (Register t (k + 1) m) v) e h)

    -- a register that has the value after an instruction may hold it there
    after_sound : (x : Instr) → instr_at p.threads t k ≡ Some x → (j i : ℕ) → LeadsTo x k j → has (row_after v x row locations) i ≡ true → MayHold p (Register t j i) v
    after_sound (LoadImm r n) at j i leads h = elim (bit_case row (number r) (n == v) i h) [
      | inl q ↦ moved r j i leads q.0 (subst (λ w. MayHold p (Register t (k + 1) (number r)) w) (eqb-true n v q.1) (Here (Register t (k + 1) (number r)) n (Loaded t k r n at)))
      | inr q ↦ keeps (LoadImm r n) at j i (λ s. q.0 s) leads q.1
    ]
    after_sound (Copy r from) at j i leads h = elim (bit_case row (number r) (has row (number from)) i h) [
      | inl q ↦ moved r j i leads q.0 (From (Register t k (number from)) (Register t (k + 1) (number r)) v (Copies t k r from at) (held (number from) q.1))
      | inr q ↦ keeps (Copy r from) at j i (λ s. q.0 s) leads q.1
    ]
    after_sound (Load r l) at j i leads h = elim (bit_case row (number r) (has locations l) i h) [
      | inl q ↦ moved r j i leads q.0 (From (Location l) (Register t (k + 1) (number r)) v (Loads t k r l at) (sound l q.1))
      | inr q ↦ keeps (Load r l) at j i (λ s. q.0 s) leads q.1
    ]
    after_sound (Xchg l r) at j i leads h = elim (bit_case row (number r) (has locations l) i h) [
      | inl q ↦ moved r j i leads q.0 (From (Location l) (Register t (k + 1) (number r)) v (Takes t k l r at) (sound l q.1))
      | inr q ↦ keeps (Xchg l r) at j i (λ s. q.0 s) leads q.1
    ]
    after_sound x at j i leads h = keeps x at j i (λ s. s) leads h

  -- where an instruction leads there is a row
  module _ (within : IsWithinLimits p.threads p.memory) where
    leads_within : (x : Instr) (k j : ℕ) → instr_at p.threads t k ≡ Some x → LeadsTo x k j → j < length (code_of p.threads t) + 1
    leads_within x k j at leads = elim (next_or_target x k j leads) [
      | inl e ↦ (let low = slice_get_within (code_of p.threads t) k x at in omega (arith, low, e))
      | inr e ↦ (let low = within.shared.inner_jumps t k j x at e in omega (arith, low))
    ]

    -- one instruction more
    pub held_step : (k : ℕ) (x : Instr) (rows : List (List Bool)) → instr_at p.threads t k ≡ Some x → AreHeldUpTo k rows → AreHeldUpTo (k + 1) (spread x k (row_after v x (row_of rows k) locations) rows)
    held_step k x rows at h = record {
      long = spread_long x k after rows ∙ h.long;
      wide = spread_wide x k after rows h.wide;
      sound = λ sound n i b. elim (spread_is x k after rows n i b) [
        | inl o ↦ h.sound sound n i o
        | inr q ↦ after_sound k (row_of rows k) sound (h.sound sound k) x at n i q.0 q.1
      ];
      first = λ i few is. spread_keeps x k after rows 0 i few (h.first i few is);
      closed = λ n j i y low there leads few b. elim (cases_eq n k) [
        | inl e ↦
            let same : y ≡ x = same_Some y x (sym there ∙ (ap (instr_at p.threads t) e ∙ at)) in
            let bit : has after i ≡ true = now n y low e same i b in
            let goes : LeadsTo x k j = subst (λ z. LeadsTo z k j) same (subst (λ m. LeadsTo y m j) e leads) in
            spread_has x k after rows j i goes (let less = leads_within x k j at goes in let long = h.long in omega (arith, less, long)) few bit
        | inr ne ↦
            let same : row_of (spread x k after rows) n ≡ row_of rows n = spread_before x k after rows n forward (omega (arith, low)) in
            spread_keeps x k after rows j i few (h.closed n j i y (omega (arith, low, ne)) there leads few (sym (ap (λ r. has (row_after v y r locations) i) same) ∙ b))
      ];
    }
      where
        after : List Bool
        after = row_after v x (row_of rows k) locations

        forward : (j : ℕ) → target_of x ≡ Some j → k < j
        forward j e = within.shared.forward_jumps t k j x at e

        now : (n : ℕ) (y : Instr) → n < k + 1 → n ≡ k → y ≡ x → (i : ℕ) → has (row_after v y (row_of (spread x k after rows) n) locations) i ≡ true → has after i ≡ true
        now n y low e same i b =
            let row : row_of (spread x k after rows) n ≡ row_of rows k = spread_before x k after rows n forward (omega (arith, low)) ∙ ap (row_of rows) e in
            sym (ap (λ r. has (row_after v x r locations) i) row) ∙ (sym (ap (λ z. has (row_after v z (row_of (spread x k after rows) n) locations) i) same) ∙ b)

    -- as the rows are written
    pub held_more : (k : ℕ) (x : Instr) (rows new : List (List Bool)) (row after : List Bool) → instr_at p.threads t k ≡ Some x → row ≡ row_of rows k → after ≡ row_after v x row locations → new ≡ spread x k after rows →
        AreHeldUpTo k rows → AreHeldUpTo (k + 1) new
    held_more k x rows new row after at read put is h =
        subst (AreHeldUpTo (k + 1)) (sym (is ∙ ap (λ (r : List Bool). spread x k r rows) (put ∙ ap (λ (r : List Bool). row_after v x r locations) read))) (held_step k x rows at h)

    -- at the end
    pub held_end : (k : ℕ) (rows : List (List Bool)) → length (start_of p.threads t).registers ≡ REGISTERS → length (code_of p.threads t) ≤ k → AreHeldUpTo k rows → AreHeldRows p v t locations rows
    held_end k rows six past h = record {
      six = six;
      long = h.long;
      wide = h.wide;
      sound = h.sound;
      first = h.first;
      closed = λ n j i x at leads few b. h.closed n j i x (let low = slice_get_within (code_of p.threads t) n x at in omega (arith, low, past)) at leads few b;
    }

  -- at first
  first_is : (registers : List ℕ) (i : ℕ) → has (first_row registers v) i ≡ true → slice_index registers i ≡ v
  first_is registers zero h = eqb-true (slice_index registers 0) v h
  first_is registers (suc zero) h = eqb-true (slice_index registers 1) v h
  first_is registers (suc (suc zero)) h = eqb-true (slice_index registers 2) v h
  first_is registers (suc (suc (suc zero))) h = eqb-true (slice_index registers 3) v h
  first_is registers (suc (suc (suc (suc zero)))) h = eqb-true (slice_index registers 4) v h
  first_is registers (suc (suc (suc (suc (suc zero))))) h = eqb-true (slice_index registers 5) v h
  first_is registers (suc (suc (suc (suc (suc (suc i)))))) h = absurd cc

  first_of : (registers : List ℕ) (i : ℕ) → i < REGISTERS → slice_index registers i ≡ v → has (first_row registers v) i ≡ true
  first_of registers zero few h = eq-eqb (slice_index registers 0) v h
  first_of registers (suc zero) few h = eq-eqb (slice_index registers 1) v h
  first_of registers (suc (suc zero)) few h = eq-eqb (slice_index registers 2) v h
  first_of registers (suc (suc (suc zero))) few h = eq-eqb (slice_index registers 3) v h
  first_of registers (suc (suc (suc (suc zero)))) few h = eq-eqb (slice_index registers 4) v h
  first_of registers (suc (suc (suc (suc (suc zero))))) few h = eq-eqb (slice_index registers 5) v h
  first_of registers (suc (suc (suc (suc (suc (suc i)))))) few h = absurd (omega arith)

  pub held_begin : (rows : List (List Bool)) → length rows ≡ length (code_of p.threads t) + 1 → row_of rows 0 ≡ first_row (start_of p.threads t).registers v →
      ((n : ℕ) → 0 < n → n ≤ length (code_of p.threads t) → row_of rows n ≡ no_row) → AreHeldUpTo 0 rows
  held_begin rows long first others = record {
    long = long;
    wide = wide;
    sound = λ sound n i b. sound_at n i b;
    first = λ i few is. ap (λ r. has r i) first ∙ first_of (start_of p.threads t).registers i few is;
    closed = λ n j i x low. absurd (omega (arith, low));
  }
    where
      wide : AreWide rows
      wide zero there = ap length first
      wide (suc n) there = ap length (others (suc n) (omega arith) (omega (arith, there, long)))

      none_in : (i : ℕ) → has no_row i ≡ true → ⊥
      none_in zero b = cc
      none_in (suc zero) b = cc
      none_in (suc (suc zero)) b = cc
      none_in (suc (suc (suc zero))) b = cc
      none_in (suc (suc (suc (suc zero)))) b = cc
      none_in (suc (suc (suc (suc (suc zero))))) b = cc
      none_in (suc (suc (suc (suc (suc (suc i)))))) b = cc

      sound_at : (n i : ℕ) → has (row_of rows n) i ≡ true → MayHold p (Register t n i) v
      sound_at zero i b = subst (λ w. MayHold p (Register t 0 i) w) (first_is (start_of p.threads t).registers i (sym (ap (λ r. has r i) first) ∙ b)) (Here (Register t 0 i) _ (First t i))
      sound_at (suc n) i b = elim (cases_lt n (length (code_of p.threads t))) [
        | inl low ↦ absurd (none_in i (sym (ap (λ r. has r i) (others (suc n) (omega arith) (omega (arith, low)))) ∙ b))
        | inr past ↦ absurd (let gone : row_of rows (suc n) ≡ [] = get_or_past rows (suc n) [] (omega (arith, past, long)) in let no : false ≡ true = sym (ap (λ r. has r i) gone) ∙ b in cc)
      ]
