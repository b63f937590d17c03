-- A formula's truth is read off what shows all that the formula speaks of.
use Rattle.tso_program.proofs.Vocabulary.{◌≡◌, ℕ, ◌<◌, Bool, true, false, not, List, [], Option, Some, get_or, length, inl, inr, refl, sym, ap, ◌∙◌, arith, ◌&&◌, ◌||◌, slice_get, option_and_then, slice_get-get_or, slice_get_past, cases_lt, Reg, Outcome, Shown}
use Rattle.tso_program.proofs.Vocabulary.{Atom, Tree, number, truth, is_true_at, is_value, final_register, location_at, shows_register, shows_location, value_if, shown_registers, show_registers, show_memory, shown_values, told, ShowsAtom, ShowsAtoms}
use Rattle.tso_program.proofs.Vocabulary.{ATruthIsReadOffItsAtoms, TruthsAreTold}
use Rattle.tso_program.specs.declared.atom.Atom.TheVariants as atom
use Rattle.tso_program.specs.Tree as tree
use Rattle.tso_program.proofs.Kept.{by_values, registers_long, register_at, memory_long, value_at, threads_long, thread_at}

-- a number of a list, where the other list is as long and has it too
same_place : (xs ys : List ℕ) (i : ℕ) → length xs ≡ length ys → (i < length ys → get_or xs i 0 ≡ get_or ys i 0) → slice_get xs i ≡ slice_get ys i
same_place xs ys i long same = elim (cases_lt i (length ys)) [
  | inl h ↦ slice_get-get_or xs i 0 (omega arith) ∙ ap Some (same h) ∙ sym (slice_get-get_or ys i 0 h)
  | inr h ↦ slice_get_past xs i (omega arith) ∙ sym (slice_get_past ys i h)
]

-- the value of a register, where there is its thread
abbrev at_number : Reg → Option (List ℕ) → Option ℕ
at_number r held = option_and_then (λ registers. slice_get registers (number r)) held

module _ (shown : Shown) (o : Outcome) where
  location_kept : (l : ℕ) → shows_location shown l ≡ true → location_at (shown_values shown o) l ≡ location_at o l
  location_kept l h = same_place (show_memory shown o.memory) o.memory l (memory_long shown o.memory)
      (λ within. value_at shown o.memory l within ∙ ap (λ (b : Bool). value_if b (get_or o.memory l 0)) h)

  of_thread : (held : List ℕ) (t r : ℕ) → shows_register shown t r ≡ true → slice_get (shown_registers shown t held) r ≡ slice_get held r
  of_thread held t r h = same_place (shown_registers shown t held) held r (registers_long shown t held)
      (λ within. register_at shown t held r within ∙ ap (λ (b : Bool). value_if b (get_or held r 0)) h)

  -- the register of a thread that is there, and of one that is not
  register_of : (t : ℕ) (r : Reg) → shows_register shown t (number r) ≡ true → final_register (shown_values shown o) t r ≡ final_register o t r
  register_of t r h = elim (cases_lt t (length o.registers)) [
    | inl within ↦
        let long = threads_long shown o.registers in
        let left : slice_get (show_registers shown o.registers) t ≡ Some (shown_registers shown t (get_or o.registers t [])) =
        slice_get-get_or (show_registers shown o.registers) t [] (omega arith) ∙ ap Some (thread_at shown o.registers t within) in
        let right : slice_get o.registers t ≡ Some (get_or o.registers t []) = slice_get-get_or o.registers t [] within in
        ap (at_number r) left ∙ of_thread (get_or o.registers t []) t (number r) h ∙ sym (ap (at_number r) right)
    | inr past ↦
        let long = threads_long shown o.registers in
        ap (at_number r) (slice_get_past (show_registers shown o.registers) t (omega arith) ∙ sym (slice_get_past o.registers t past))
  ]

  pub atom_kept : (a : Atom) → ShowsAtom shown a → is_true_at (shown_values shown o) a ≡ is_true_at o a
  atom_kept (atom.Register thread register value) h = ap (λ (v : Option ℕ). is_value v value) (register_of thread register h)
  atom_kept (atom.Location location value) h = ap (λ (v : Option ℕ). is_value v value) (location_kept location h)

  truth_kept : (f : Tree Atom) → ShowsAtoms shown f → truth (shown_values shown o) f ≡ truth o f
  truth_kept (tree.Atom a) h = atom_kept a h
  truth_kept (tree.Const b) h = refl
  truth_kept (tree.Not f) h = ap not (truth_kept f h)
  truth_kept (tree.And f g) (h, k) = ap (λ (b : Bool). b && truth (shown_values shown o) g) (truth_kept f h) ∙ ap (λ (b : Bool). truth o f && b) (truth_kept g k)
  truth_kept (tree.Or f g) (h, k) = ap (λ (b : Bool). b || truth (shown_values shown o) g) (truth_kept f h) ∙ ap (λ (b : Bool). truth o f || b) (truth_kept g k)

pub truth_read_off : ATruthIsReadOffItsAtoms
truth_read_off f shown of h o = ap (λ (x : Outcome). told (truth x f)) (by_values shown o of) ∙ ap told (truth_kept shown o f h)

-- two truths show different outcomes
pub told_apart : (b c : Bool) → told b ≡ told c → b ≡ c
told_apart true false e = absurd (let h : get_or (told true).memory 0 0 ≡ get_or (told false).memory 0 0 = ap (λ (x : Outcome). get_or x.memory 0 0) e in omega (arith, h))
told_apart false true e = absurd (let h : get_or (told false).memory 0 0 ≡ get_or (told true).memory 0 0 = ap (λ (x : Outcome). get_or x.memory 0 0) e in omega (arith, h))
told_apart b c e = refl

pub truths_told : TruthsAreTold
truths_told f o other = (λ e. told_apart (truth o f) (truth other f) e, λ e. ap told e)
