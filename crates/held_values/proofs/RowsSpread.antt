-- A row that is put into those of the places that an instruction leads to.
use Rattle.std.proofs.Common.{◌≡◌, ◌⊎◌, ℕ, ◌+◌, ◌<◌, ◌≤◌, Bool, true, List, [], length, Some, refl, sym, ap, ◌∙◌, subst, inl, inr, arith, get_or-set_same, get_or-set_other, length-set}
use Rattle.std.proofs.lemmas.Bool.{or_left, or_right}
use Rattle.std.specs.Prelude.{slice_index_or}
use Rattle.tso_program.specs.declared.instruction.TheConstants.{REGISTERS}
use Rattle.tso_program.specs.declared.instruction.Instr.{Instr}
use Rattle.tso_program.specs.declared.instruction.Instr.TheVariants.{Je, Jne, Jmp}
use Rattle.tso_program.specs.Instructions.{target_of}
use Rattle.tso_machine.specs.Effects.{LeadsTo}
use Rattle.held_values.specs.HeldRows.{has, either, join, spread}
use Rattle.held_values.proofs.Bits.{set_case, either_is, either_of}

abbrev pub row_of : List (List Bool) → ℕ → List Bool
row_of rows j = slice_index_or rows j []

join_is : (to : ℕ) (after : List Bool) (rows : List (List Bool)) (j i : ℕ) → has (row_of (join to after rows) j) i ≡ true → (has (row_of rows j) i ≡ true) ⊎ ((to ≡ j) × (has after i ≡ true))
join_is to after rows j i h = elim (set_case rows to (either (row_of rows to) after) j []) [
  | inl k ↦ elim (either_is (row_of rows to) after i (sym (ap (λ r. has r i) k.1) ∙ h)) [
    | inl o ↦ inl (subst (λ m. has (row_of rows m) i ≡ true) k.0 o)
    | inr a ↦ inr (k.0, a)
  ]
  | inr same ↦ inl (sym (ap (λ r. has r i) same) ∙ h)
]

join_keeps : (to : ℕ) (after : List Bool) (rows : List (List Bool)) (j i : ℕ) → i < REGISTERS → has (row_of rows j) i ≡ true → has (row_of (join to after rows) j) i ≡ true
join_keeps to after rows j i few h = elim (set_case rows to (either (row_of rows to) after) j []) [
  | inl k ↦ ap (λ r. has r i) k.1 ∙ either_of (row_of rows to) after i few (or_left (has (row_of rows to) i) (has after i) (subst (λ m. has (row_of rows m) i ≡ true) (sym k.0) h))
  | inr same ↦ ap (λ r. has r i) same ∙ h
]

join_has : (to : ℕ) (after : List Bool) (rows : List (List Bool)) (j i : ℕ) → to ≡ j → j < length rows → i < REGISTERS → has after i ≡ true → has (row_of (join to after rows) j) i ≡ true
join_has to after rows j i e there few h =
    subst (λ m. has (row_of (join to after rows) m) i ≡ true) e
    (ap (λ r. has r i) (get_or-set_same rows to (either (row_of rows to) after) [] (omega (arith, e, there))) ∙ either_of (row_of rows to) after i few (or_right (has (row_of rows to) i) (has after i) h))

join_other : (to : ℕ) (after : List Bool) (rows : List (List Bool)) (n : ℕ) → n < to → row_of (join to after rows) n ≡ row_of rows n
join_other to after rows n less = get_or-set_other rows to n (either (row_of rows to) after) [] (λ e. omega (arith, e, less))

join_long : (to : ℕ) (after : List Bool) (rows : List (List Bool)) → length (join to after rows) ≡ length rows
join_long to after rows = length-set rows to (either (row_of rows to) after)

-- each row has a bit for each register
abbrev pub AreWide : List (List Bool) → Type 0
AreWide rows = (k : ℕ) → k < length rows → length (row_of rows k) ≡ REGISTERS

join_wide : (to : ℕ) (after : List Bool) (rows : List (List Bool)) → AreWide rows → AreWide (join to after rows)
join_wide to after rows wide k there = elim (set_case rows to (either (row_of rows to) after) k []) [
  | inl h ↦ ap length h.1
  | inr same ↦ ap length same ∙ wide k (let long = join_long to after rows in omega (arith, long, there))
]

pub spread_wide : (x : Instr) (k : ℕ) (after : List Bool) (rows : List (List Bool)) → AreWide rows → AreWide (spread x k after rows)
spread_wide (Jmp to) k after rows wide = join_wide to after rows wide
spread_wide (Je to) k after rows wide = join_wide (k + 1) after (join to after rows) (join_wide to after rows wide)
spread_wide (Jne to) k after rows wide = join_wide (k + 1) after (join to after rows) (join_wide to after rows wide)
spread_wide x k after rows wide = join_wide (k + 1) after rows wide

pub spread_is : (x : Instr) (k : ℕ) (after : List Bool) (rows : List (List Bool)) (j i : ℕ) → has (row_of (spread x k after rows) j) i ≡ true →
    (has (row_of rows j) i ≡ true) ⊎ (LeadsTo x k j × (has after i ≡ true))
spread_is (Jmp to) k after rows j i h = join_is to after rows j i h
spread_is (Je to) k after rows j i h = elim (join_is (k + 1) after (join to after rows) j i h) [
  | inl o ↦ elim (join_is to after rows j i o) [ inl q ↦ inl q | inr q ↦ inr (inl q.0, q.1) ]
  | inr q ↦ inr (inr q.0, q.1)
]
spread_is (Jne to) k after rows j i h = elim (join_is (k + 1) after (join to after rows) j i h) [
  | inl o ↦ elim (join_is to after rows j i o) [ inl q ↦ inl q | inr q ↦ inr (inl q.0, q.1) ]
  | inr q ↦ inr (inr q.0, q.1)
]
spread_is x k after rows j i h = join_is (k + 1) after rows j i h

pub spread_keeps : (x : Instr) (k : ℕ) (after : List Bool) (rows : List (List Bool)) (j i : ℕ) → i < REGISTERS → has (row_of rows j) i ≡ true → has (row_of (spread x k after rows) j) i ≡ true
spread_keeps (Jmp to) k after rows j i few h = join_keeps to after rows j i few h
spread_keeps (Je to) k after rows j i few h = join_keeps (k + 1) after (join to after rows) j i few (join_keeps to after rows j i few h)
spread_keeps (Jne to) k after rows j i few h = join_keeps (k + 1) after (join to after rows) j i few (join_keeps to after rows j i few h)
spread_keeps x k after rows j i few h = join_keeps (k + 1) after rows j i few h

pub spread_has : (x : Instr) (k : ℕ) (after : List Bool) (rows : List (List Bool)) (j i : ℕ) → LeadsTo x k j → j < length rows → i < REGISTERS → has after i ≡ true →
    has (row_of (spread x k after rows) j) i ≡ true
spread_has (Jmp to) k after rows j i e there few h = join_has to after rows j i e there few h
spread_has (Je to) k after rows j i leads there few h = elim leads [
  | inl e ↦ join_keeps (k + 1) after (join to after rows) j i few (join_has to after rows j i e there few h)
  | inr e ↦ join_has (k + 1) after (join to after rows) j i e (let long = join_long to after rows in omega (arith, long, there)) few h
]
spread_has (Jne to) k after rows j i leads there few h = elim leads [
  | inl e ↦ join_keeps (k + 1) after (join to after rows) j i few (join_has to after rows j i e there few h)
  | inr e ↦ join_has (k + 1) after (join to after rows) j i e (let long = join_long to after rows in omega (arith, long, there)) few h
]
spread_has x k after rows j i e there few h = join_has (k + 1) after rows j i e there few h

-- what stands up to instruction k stays, since jumps lead forward
pub spread_before : (x : Instr) (k : ℕ) (after : List Bool) (rows : List (List Bool)) (n : ℕ) → ((j : ℕ) → target_of x ≡ Some j → k < j) → n ≤ k → row_of (spread x k after rows) n ≡ row_of rows n
spread_before (Jmp to) k after rows n forward low = let less = forward to refl in join_other to after rows n (omega (arith, less, low))
spread_before (Je to) k after rows n forward low = let less = forward to refl in join_other (k + 1) after (join to after rows) n (omega (arith, low)) ∙ join_other to after rows n (omega (arith, less, low))
spread_before (Jne to) k after rows n forward low = let less = forward to refl in join_other (k + 1) after (join to after rows) n (omega (arith, low)) ∙ join_other to after rows n (omega (arith, less, low))
spread_before x k after rows n forward low = join_other (k + 1) after rows n (omega (arith, low))

pub spread_long : (x : Instr) (k : ℕ) (after : List Bool) (rows : List (List Bool)) → length (spread x k after rows) ≡ length rows
spread_long (Jmp to) k after rows = join_long to after rows
spread_long (Je to) k after rows = join_long (k + 1) after (join to after rows) ∙ join_long to after rows
spread_long (Jne to) k after rows = join_long (k + 1) after (join to after rows) ∙ join_long to after rows
spread_long x k after rows = join_long (k + 1) after rows
