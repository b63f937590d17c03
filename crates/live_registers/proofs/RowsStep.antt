-- One step of the pass.
use Rattle.std.proofs.Common.{◌≡◌, ◌↔◌, ◌⊎◌, ◌==◌, ◌||◌, ◌&&◌, not, ℕ, ◌+◌, ◌-◌, ◌<◌, ◌≤◌, Bool, true, false, List, [], ◌∷◌, length, Option, Some, None, refl, sym, ap, ◌∙◌, subst, inl, inr, arith, eqb-true, eq-eqb, get_or-set_same, get_or-set_other}
use Rattle.std.proofs.lemmas.Bool.{and_from, and_parts, cases_eq, or_cases, or_left, or_right}
use Rattle.std.proofs.lemmas.List.{get_or_default}
use Rattle.std.proofs.lemmas.Option.{slice_get_past, slice_get-get_or}
use Rattle.std.specs.Prelude.{is_some, slice_get, slice_index_or, slice_set}
use Rattle.tso_program.specs.declared.instruction.TheConstants.{REGISTERS}
use Rattle.tso_program.specs.declared.instruction.Instr.{Instr}
use Rattle.tso_program.specs.declared.instruction.Instr.TheVariants.{LoadImm, Copy, Load, Store, Xchg, CmpImm, CmpReg, Je, Jne, Jmp}
use Rattle.tso_program.specs.declared.listing.Listing.{Listing}
use Rattle.tso_program.specs.declared.shown.Shown.{Shown}
use Rattle.tso_program.specs.Instructions.{number, target_of}
use Rattle.tso_program.specs.Limits.{IsWithinLimits}
use Rattle.tso_program.specs.Listings.{code_of, instr_at}
use Rattle.tso_machine.specs.Effects.{Sets, LeadsTo}
use Rattle.dataflow_laws.specs.Liveness.{Uses, Live}
use Rattle.dataflow_laws.proofs.LiveByPass.{told_by_what_follows, told_at_the_end}
use Rattle.live_registers.specs.LiveRows.{is_used, is_set, falls, in_row, live_bit, AreShown, AreLiveFrom}

-- the tests
used : (x : Instr) (i : ℕ) → is_used x i ≡ true → Uses x i
used (Copy r from) i e = eqb-true (number from) i e
used (Store l r) i e = eqb-true (number r) i e
used (Xchg l r) i e = eqb-true (number r) i e
used (CmpImm r v) i e = eqb-true (number r) i e
used (CmpReg r from) i e = elim (or_cases (number r == i) (number from == i) e) [ inl a ↦ inl (eqb-true (number r) i a) | inr b ↦ inr (eqb-true (number from) i b) ]
used x i e = absurd cc

used_back : (x : Instr) (i : ℕ) → Uses x i → is_used x i ≡ true
used_back (Copy r from) i e = eq-eqb (number from) i e
used_back (Store l r) i e = eq-eqb (number r) i e
used_back (Xchg l r) i e = eq-eqb (number r) i e
used_back (CmpImm r v) i e = eq-eqb (number r) i e
used_back (CmpReg r from) i e = elim e [ inl a ↦ or_left (number r == i) (number from == i) (eq-eqb (number r) i a) | inr b ↦ or_right (number r == i) (number from == i) (eq-eqb (number from) i b) ]
used_back x i e = absurd e

is_set_true : (x : Instr) (i : ℕ) → Sets x i → is_set x i ≡ true
is_set_true (LoadImm r v) i e = eq-eqb (number r) i e
is_set_true (Copy r from) i e = eq-eqb (number r) i e
is_set_true (Load r l) i e = eq-eqb (number r) i e
is_set_true (Xchg l r) i e = eq-eqb (number r) i e
is_set_true x i e = absurd e

is_set_back : (x : Instr) (i : ℕ) → is_set x i ≡ true → Sets x i
is_set_back (LoadImm r v) i e = eqb-true (number r) i e
is_set_back (Copy r from) i e = eqb-true (number r) i e
is_set_back (Load r l) i e = eqb-true (number r) i e
is_set_back (Xchg l r) i e = eqb-true (number r) i e
is_set_back x i e = absurd cc

not_set : (x : Instr) (i : ℕ) → not (is_set x i) ≡ true → Sets x i → ⊥
not_set x i e s = let no : not true ≡ true = ap not (sym (is_set_true x i s)) ∙ e in cc

pub not_of : (b : Bool) → (b ≡ true → ⊥) → not b ≡ true
not_of true h = absurd (h refl)
not_of false h = refl

-- where an instruction leads: on, or to its target
leads_on : (x : Instr) (k : ℕ) → falls x ≡ true → LeadsTo x k (k + 1)
leads_on (Je target) k e = inr refl
leads_on (Jne target) k e = inr refl
leads_on (Jmp target) k e = absurd cc
leads_on x k e = refl

leads_off : (x : Instr) (k target : ℕ) → target_of x ≡ Some target → LeadsTo x k target
leads_off (Je t) k target e = inl cc
leads_off (Jne t) k target e = inl cc
leads_off (Jmp t) k target e = cc
leads_off x k target e = absurd cc

leads : (x : Instr) (k j : ℕ) → LeadsTo x k j → ((falls x ≡ true) × (k + 1 ≡ j)) ⊎ (target_of x ≡ Some j)
leads (Je target) k j h = elim h [ inl e ↦ inr (ap Some e) | inr e ↦ inl (refl, e) ]
leads (Jne target) k j h = elim h [ inl e ↦ inr (ap Some e) | inr e ↦ inl (refl, e) ]
leads (Jmp target) k j e = inr (ap Some e)
leads x k j e = inl (refl, e)

module _ (p : Listing) (shown : Shown) (t k : ℕ) (x : Instr) (at : instr_at p.threads t k ≡ Some x) (i : ℕ) (next target : List Bool)
    (here : (in_row next i ≡ true) ↔ Live p shown t (k + 1) i)
    (there : (j : ℕ) → target_of x ≡ Some j → (in_row target i ≡ true) ↔ Live p shown t j i) where
  abbrev after : Bool
  after = (falls x && in_row next i) || (is_some (target_of x) && in_row target i)

  jumped_to : (o : Option ℕ) → target_of x ≡ o → is_some o ≡ true → in_row target i ≡ true → (j : ℕ) × LeadsTo x k j × Live p shown t j i
  jumped_to (Some j) e s b = (j, leads_off x k j e, (there j e).0 b)
  jumped_to None e s b = absurd cc

  after_is : after ≡ true → (j : ℕ) × LeadsTo x k j × Live p shown t j i
  after_is e = elim (or_cases (falls x && in_row next i) (is_some (target_of x) && in_row target i) e) [
    | inl a ↦ (let (f, b) = and_parts (falls x) (in_row next i) a in (k + 1, leads_on x k f, here.0 b))
    | inr a ↦ (let (f, b) = and_parts (is_some (target_of x)) (in_row target i) a in jumped_to (target_of x) refl f b)
  ]

  after_of : (j : ℕ) → LeadsTo x k j → Live p shown t j i → after ≡ true
  after_of j h live = elim (leads x k j h) [
    | inl (f, e) ↦ or_left (falls x && in_row next i) (is_some (target_of x) && in_row target i) (and_from (falls x) (in_row next i) f (here.1 (subst (λ m. Live p shown t m i) (sym e) live)))
    | inr e ↦ or_right (falls x && in_row next i) (is_some (target_of x) && in_row target i)
        (and_from (is_some (target_of x)) (in_row target i) (ap is_some e) ((there j e).1 live))
  ]

  -- a row that is computed so is exact
  pub exact_before : (live_bit x i (in_row next i) (in_row target i) ≡ true) ↔ Live p shown t k i
  exact_before = (
    λ e. (told_by_what_follows p shown t k i x at).1 (elim (or_cases (is_used x i) (not (is_set x i) && after) e) [
      | inl u ↦ inl (used x i u)
      | inr a ↦ (let (n, b) = and_parts (not (is_set x i)) after a in inr (not_set x i n, after_is b))
    ]),
    λ live. elim ((told_by_what_follows p shown t k i x at).0 live) [
      | inl u ↦ or_left (is_used x i) (not (is_set x i) && after) (used_back x i u)
      | inr (keeps, (j, h, later)) ↦ or_right (is_used x i) (not (is_set x i) && after)
          (and_from (not (is_set x i)) after (not_of (is_set x i) (λ s. keeps (is_set_back x i s))) (after_of j h later))
    ],
  )

module _ (p : Listing) (shown : Shown) (t : ℕ) where
  -- at first each row has what counts at the end, which is exact there
  pub rows_begin : (row : List Bool) (rows : List (List Bool)) (n : ℕ) → AreShown shown t row → n ≡ length (code_of p.threads t) → ((j : ℕ) → j ≤ n → slice_index_or rows j [] ≡ row) →
      AreLiveFrom p shown t n rows
  rows_begin row rows n are long same j i from to few =
      let e : j ≡ n = omega arith in
      let none : instr_at p.threads t j ≡ None = slice_get_past (code_of p.threads t) j (omega arith) in
      let is = are i few in
      let ends = told_at_the_end p shown t j i none in
      let last : slice_index_or rows j [] ≡ row = same j (omega arith) in
      (λ b. ends.1 (is.0 (ap (λ r. in_row r i) (sym last) ∙ b)), λ live. ap (λ r. in_row r i) last ∙ is.1 (ends.0 live))

  -- one row more
  pub rows_step : (k : ℕ) (x : Instr) (rows : List (List Bool)) (row target : List Bool) → instr_at p.threads t k ≡ Some x → k < length (code_of p.threads t) → length rows ≡ length (code_of p.threads t) + 1 →
      ((j : ℕ) → target_of x ≡ Some j → (k < j) × (j ≤ length (code_of p.threads t))) →
      ((j : ℕ) → target_of x ≡ Some j → target ≡ slice_index_or rows j []) →
      ((i : ℕ) → i < REGISTERS → in_row row i ≡ live_bit x i (in_row (slice_index_or rows (k + 1) []) i) (in_row target i)) →
      AreLiveFrom p shown t (k + 1) rows → AreLiveFrom p shown t k (slice_set rows k row)
  rows_step k x rows row target at within long jumps targets bits later j i from to few = elim (cases_eq j k) [
    | inl e ↦
        let now : slice_index_or (slice_set rows k row) j [] ≡ row = ap (λ m. slice_index_or (slice_set rows k row) m []) e ∙ get_or-set_same rows k row [] (omega arith) in
        let exact = exact_before p shown t k x at i (slice_index_or rows (k + 1) []) target (later (k + 1) i (omega arith) (omega arith) few)
        (λ m is. let inside = jumps m is in
        let same : in_row target i ≡ in_row (slice_index_or rows m []) i = ap (λ r. in_row r i) (targets m is) in
        let there = later m i (omega (arith, inside.0)) (omega (arith, inside.1)) few in
        (λ b. there.0 (sym same ∙ b), λ live. same ∙ there.1 live)) in
        let bit : in_row (slice_index_or (slice_set rows k row) j []) i ≡ live_bit x i (in_row (slice_index_or rows (k + 1) []) i) (in_row target i) = ap (λ r. in_row r i) now ∙ bits i few in (
          λ b. subst (λ m. Live p shown t m i) (sym e) (exact.0 (sym bit ∙ b)),
          λ live. bit ∙ exact.1 (subst (λ m. Live p shown t m i) e live),
        )
    | inr ne ↦
        let other : slice_index_or (slice_set rows k row) j [] ≡ slice_index_or rows j [] = get_or-set_other rows k j row [] ne in
        let there = later j i (omega arith) to few in
        (λ b. there.0 (sym (ap (λ r. in_row r i) other) ∙ b), λ live. ap (λ r. in_row r i) other ∙ there.1 live)
  ]

module _ (p : Listing) (shown : Shown) (t : ℕ) (w : IsWithinLimits p.threads p.memory) (code : List Instr) (is : code ≡ code_of p.threads t) (done : ℕ) (to_do : done < length code) (d : Instr) where
  abbrev k : ℕ
  k = length code - 1 - done

  abbrev x : Instr
  x = slice_index_or code k d

  at : instr_at p.threads t k ≡ Some x
  at = ap (λ (xs : List Instr). slice_get xs k) (sym is) ∙ slice_get-get_or code k d (omega arith)

  pub jumps_within : (j : ℕ) → target_of x ≡ Some j → (k < j) × (j ≤ length (code_of p.threads t))
  jumps_within j e = (w.shared.forward_jumps t k j x at e, w.shared.inner_jumps t k j x at e)

  -- where it jumps to there is a row
  pub target_there : (rows : List (List Bool)) → length rows ≡ length code + 1 → (j : ℕ) → target_of x ≡ Some j → j < length rows
  target_there rows long j e = let h = (jumps_within j e).1 in let same : length code ≡ length (code_of p.threads t) = ap length is in omega arith

  pub one_row : (rows : List (List Bool)) (next row target : List Bool) → length rows ≡ length code + 1 → next ≡ slice_index_or rows (k + 1) next →
      ((j : ℕ) → target_of x ≡ Some j → target ≡ slice_index_or rows j []) →
      ((i : ℕ) → i < REGISTERS → in_row row i ≡ live_bit x i (in_row next i) (in_row target i)) →
      AreLiveFrom p shown t (length code - done) rows → AreLiveFrom p shown t (length code - (done + 1)) (slice_set rows k row)
  one_row rows next row target long next_is targets bits later =
      let same : length code ≡ length (code_of p.threads t) = ap length is in
      let after : length code - done ≡ k + 1 = omega arith in
      let here : k ≡ length code - (done + 1) = omega arith in
      let next_row : next ≡ slice_index_or rows (k + 1) [] = next_is ∙ get_or_default rows (k + 1) next [] (omega arith) in
      subst (λ n. AreLiveFrom p shown t n (slice_set rows k row)) here
      (rows_step p shown t k x rows row target at (omega arith) (omega arith) jumps_within targets
      (λ i few. bits i few ∙ ap (λ (r : List Bool). live_bit x i (in_row r i) (in_row target i)) next_row)
      (subst (λ n. AreLiveFrom p shown t n rows) after later))
