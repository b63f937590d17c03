-- At the end of a run what is shown is the same without the dead loads.
use Rattle.std.proofs.Common.{◌≡◌, ℕ, ◌<◌, Bool, true, false, not, ◌&&◌, ◌||◌, List, [], length, map, Option, Some, option_and_then, refl, sym, ap, ◌∙◌, subst, inl, inr, arith, get_or, slice_get, slice_index}
use Rattle.std.proofs.lemmas.Bool.{cases_lt}
use Rattle.std.proofs.lemmas.Option.{slice_get-get_or, slice_get_past}
use Rattle.std.specs.List.{range_with_len}
use Rattle.std.proofs.lemmas.List.FromFn.{get_or-map-range_with_len, length-map-range_with_len}
use Rattle.tso_program.specs.declared.instruction.Reg.{Reg}
use Rattle.tso_program.specs.declared.action.Action.{TheVariants.Stop}
use Rattle.tso_program.specs.declared.atom.Atom.{Atom}
use Rattle.tso_program.specs.declared.atom.Atom.TheVariants as atom
use Rattle.tso_program.specs.declared.listing.Listing.{Listing}
use Rattle.tso_program.specs.declared.outcome.Outcome.{Outcome}
use Rattle.tso_program.specs.declared.shown.Shown.{Shown, TheVariants.All, TheVariants.Only, TheVariants.Truth}
use Rattle.tso_program.specs.Instructions.{number}
use Rattle.tso_program.specs.Listings.{action, instr_at}
use Rattle.tso_program.specs.Named.{MentionsRegister}
use Rattle.tso_program.specs.Shown.{shows_register, value_if, shown_registers, show_registers, show_memory, shown_values, show, told, ShowsValues}
use Rattle.tso_program.specs.Tree.{Tree}
use Rattle.tso_program.specs.Tree as tree
use Rattle.tso_program.specs.Truth.{truth, final_register, is_value}
use Rattle.tso_machine.specs.Machine.{State, outcome_at}
use Rattle.tso_program.proofs.Kept.{registers_long, register_at, registers_by, same_threads, by_values}
use Rattle.tso_machine.proofs.FencedActions.{stops_at_none}
use Rattle.dataflow_laws.specs.Liveness.{Tells, TheEnd}
use Rattle.dataflow_laws.specs.DeadLoads.{Places, drop_loads}
use Rattle.dataflow_laws.proofs.DroppedPlaces.{same_count}
use Rattle.dataflow_laws.proofs.SameSteps.{Alike}

-- registers hold equal values where what is shown may depend on them
record SameTold (shown : Shown) (t : ℕ) (xs ys : List ℕ) : Type 0 where
  pub long : length xs ≡ length ys
  pub held : (i : ℕ) → Tells shown t i → slice_index xs i ≡ slice_index ys i

same_if : (b : Bool) (v w : ℕ) → (b ≡ true → v ≡ w) → value_if b v ≡ value_if b w
same_if true v w h = h refl
same_if false v w h = refl

tells_shown : (shown : Shown) (t i : ℕ) → ShowsValues shown → shows_register shown t i ≡ true → Tells shown t i
tells_shown All t i of h = tt
tells_shown (Only names) t i of h = h
tells_shown (Truth f) t i of h = absurd of

same_registers_shown : (shown : Shown) (t : ℕ) (xs ys : List ℕ) → ShowsValues shown → SameTold shown t xs ys → shown_registers shown t xs ≡ shown_registers shown t ys
same_registers_shown shown t xs ys of same =
    registers_by shown t ys (shown_registers shown t xs) (registers_long shown t xs ∙ same.long)
    (λ r h. let long = same.long in
    register_at shown t xs r (omega arith) ∙ same_if (shows_register shown t r) (get_or xs r 0) (get_or ys r 0) (λ e. same.held r (tells_shown shown t r of e)))

-- a register's value, where there is one
same_value : (xs ys : List ℕ) (i : ℕ) → length xs ≡ length ys → get_or xs i 0 ≡ get_or ys i 0 → slice_get xs i ≡ slice_get ys i
same_value xs ys i long same = elim (cases_lt i (length ys)) [
  | inl h ↦ slice_get-get_or xs i 0 (omega arith) ∙ ap Some same ∙ sym (slice_get-get_or ys i 0 h)
  | inr h ↦ slice_get_past xs i (omega arith) ∙ sym (slice_get_past ys i h)
]

-- a formula is as true where the registers that it mentions are the same
same_truth : (f : Tree Atom) (o other : Outcome) → o.memory ≡ other.memory → ((t : ℕ) (r : Reg) → MentionsRegister f t r → final_register o t r ≡ final_register other t r) → truth o f ≡ truth other f
same_truth (tree.Atom (atom.Register t r v)) o other m h = ap (λ (x : Option ℕ). is_value x v) (h t r (refl, refl))
same_truth (tree.Atom (atom.Location l v)) o other m h = ap (λ (x : List ℕ). is_value (slice_get x l) v) m
same_truth (tree.Const b) o other m h = refl
same_truth (tree.Not f) o other m h = ap not (same_truth f o other m h)
same_truth (tree.And f g) o other m h =
    let left = same_truth f o other m (λ t r mentions. h t r (inl mentions)) in
    let right = same_truth g o other m (λ t r mentions. h t r (inr mentions)) in
    λ i. left i && right i
same_truth (tree.Or f g) o other m h =
    let left = same_truth f o other m (λ t r mentions. h t r (inl mentions)) in
    let right = same_truth g o other m (λ t r mentions. h t r (inr mentions)) in
    λ i. left i || right i

module _ (p : Listing) (shown : Shown) (here : Places) (s z : State) (h : Alike p shown s z) (ended : (t : ℕ) → action p.threads t (s.locals t) ≡ Stop) where
  abbrev q : Listing
  q = drop_loads here p

  abbrev ends : State → ℕ → List (List ℕ)
  ends x n = map (λ t. (x.locals t).registers) (range_with_len 0 n)

  same_told : (t : ℕ) → SameTold shown t (s.locals t).registers (z.locals t).registers
  same_told t = record {
    long = (h.each t).long;
    held = λ i tells. (h.each t).held i (TheEnd (s.locals t).place i (stops_at_none (instr_at p.threads t (s.locals t).place) (s.locals t) (ended t)) tells);
  }

  count : length q.threads ≡ length p.threads
  count = same_count here 0 p.threads

  ends_long : (x : State) (n : ℕ) → length (ends x n) ≡ n
  ends_long x n = length-map-range_with_len (λ t. (x.locals t).registers) 0 n

  end_at : (x : State) (n t : ℕ) → t < n → get_or (ends x n) t [] ≡ (x.locals t).registers
  end_at x n t within = get_or-map-range_with_len (λ t. (x.locals t).registers) 0 n t t [] within (omega arith)

  values_same : ShowsValues shown → shown_values shown (outcome_at p s) ≡ shown_values shown (outcome_at q z)
  values_same of =
      let n = length p.threads in
      let one : show_registers shown (ends s n) ≡ show_registers shown (ends z n) =
      same_threads shown (ends s n) (ends z n) (ends_long s n ∙ sym (ends_long z n))
      (λ t within. let long = ends_long s n in
      ap (shown_registers shown t) (end_at s n t (omega arith))
      ∙ same_registers_shown shown t (s.locals t).registers (z.locals t).registers of (same_told t)
      ∙ sym (ap (shown_registers shown t) (end_at z n t (omega arith)))) in
      let all : show_registers shown (ends s n) ≡ show_registers shown (ends z (length q.threads)) = one ∙ ap (λ m. show_registers shown (ends z m)) (sym count) in
      λ i. record { registers = all i; memory = show_memory shown (map (h.memory i) (range_with_len 0 (length p.memory))) }

  register_same : (t : ℕ) (r : Reg) → Tells shown t (number r) → final_register (outcome_at p s) t r ≡ final_register (outcome_at q z) t r
  register_same t r tells = elim (cases_lt t (length p.threads)) [
    | inl within ↦
        let n = length p.threads in
        let long = ends_long s n in
        let other = ends_long z (length q.threads) in
        let same = count in
        let left : slice_get (ends s n) t ≡ Some (s.locals t).registers = slice_get-get_or (ends s n) t [] (omega arith) ∙ ap Some (end_at s n t within) in
        let right : slice_get (ends z (length q.threads)) t ≡ Some (z.locals t).registers =
        slice_get-get_or (ends z (length q.threads)) t [] (omega arith) ∙ ap Some (end_at z (length q.threads) t (omega arith)) in
        ap (option_and_then (λ registers. slice_get registers (number r))) left
        ∙ same_value (s.locals t).registers (z.locals t).registers (number r) (same_told t).long ((same_told t).held (number r) tells)
        ∙ sym (ap (option_and_then (λ registers. slice_get registers (number r))) right)
    | inr past ↦
        let long = ends_long s (length p.threads) in
        let other = ends_long z (length q.threads) in
        let same = count in
        ap (option_and_then (λ registers. slice_get registers (number r)))
        (slice_get_past (ends s (length p.threads)) t (omega arith) ∙ sym (slice_get_past (ends z (length q.threads)) t (omega arith)))
  ]

  -- values or a truth
  by_shown : (what : Shown) → what ≡ shown → show what (outcome_at p s) ≡ show what (outcome_at q z)
  by_shown (Truth f) e = ap told (same_truth f (outcome_at p s) (outcome_at q z) (λ i. map (h.memory i) (range_with_len 0 (length p.memory)))
      (λ t r mentions. register_same t r (subst (λ w. Tells w t (number r)) e (r, refl, mentions))))
  by_shown All e = by_values All (outcome_at p s) tt ∙ subst (λ w. shown_values w (outcome_at p s) ≡ shown_values w (outcome_at q z)) (sym e) (values_same (subst ShowsValues e tt)) ∙ sym (by_values All (outcome_at q z) tt)
  by_shown (Only names) e = subst (λ w. shown_values w (outcome_at p s) ≡ shown_values w (outcome_at q z)) (sym e) (values_same (subst ShowsValues e tt))

  pub shown_same : show shown (outcome_at p s) ≡ show shown (outcome_at q z)
  shown_same = by_shown shown refl
