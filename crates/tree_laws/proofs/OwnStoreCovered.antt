-- A thread that sees its own store: the early tree and that of whole sketches are valid in each mode.
use Rattle.tree_laws.proofs.Vocabulary.{◌≡◌, ◌↔◌, ◌⊎◌, ℕ, zero, suc, ◌<◌, List, [], ◌∷◌, Some, None, Contains, slice_index, map, refl, sym, ap, ◌∙◌, subst, inl, inr, arith, lit<, same_Some, Machine, SequentialMachine, StoreBufferMachine}
use Rattle.tree_laws.proofs.Vocabulary.{Access, Event, Initial, At, access_by, Writes, Sketch, empty_sketch, given_to, IsKnownCycle, with_source, IsSourceOf, IsSettled, IsWhole, MayBeLast, MustEndAsNumber, HasSourcesBy}
use Rattle.tree_laws.proofs.Vocabulary.{Rule, Whole, Early, AllowsSource, AreChoicesBy, IsValidCoverBy, AreValidCoversBy, sketch_with, next_read, IsStrictlyIncreasing, Value, Known, instr_at, Occurs, IsHeldValue, IsValueBy, IsValueOf}
use Rattle.cert_forest.specs.StoreBuffering.{access, one_child, two_children}
use Rattle.tso_program.specs.declared.instruction.Reg.{Reg, TheVariants.Eax}
use Rattle.tso_program.specs.declared.instruction.Instr.{Instr, TheVariants.Load, TheVariants.StoreImm, TheVariants.Store, TheVariants.Xchg}
use Rattle.candidate_executions.specs.declared.event.Kind.TheVariants as union
use Rattle.candidate_executions.specs.Settled.{MayStore}
use Rattle.candidate_executions.proofs.FromRuns.KnownValues.{held_is_value}
use Rattle.tso_machine.specs.HeldValues.{Location, Memory, Stored, Here}
use Rattle.tree_laws.specs.declared.choice.Choice.{Choice}
use Rattle.tree_laws.specs.declared.choice.Choice.TheVariants as choice
use Rattle.tree_laws.specs.declared.choice.OpenChoice.TheVariants as left
use Rattle.tree_laws.specs.TighterModes.{kind_in, in_mode}
use Rattle.tree_laws.specs.OwnStore.{own_store, question, outcomes, unseen, early_tree, OwnStoreIsTold}
use Rattle.tree_laws.proofs.OneList.{one_list_of_choices_by}
use Rattle.tree_laws.proofs.Lists.{none_here, first_or_later, first_is_here}
use Rattle.tree_laws.proofs.StoreBufferingValues.{zero_one, in_zero_one, of_zero_one}
use Rattle.tree_laws.proofs.StoreBufferingCovered.{alone, ascending}

-- one of the three instructions
instruction : (t k : ℕ) (x : Instr) → instr_at own_store.threads t k ≡ Some x → (x ≡ StoreImm 0 1) ⊎ ((x ≡ Load Eax 0) ⊎ (x ≡ Load Eax 1))
instruction zero zero x e = inl (sym (same_Some _ x e))
instruction zero (suc zero) x e = inr (inl (sym (same_Some _ x e)))
instruction (suc zero) zero x e = inr (inr (sym (same_Some _ x e)))
instruction t k x e = absurd cc

stores_one : (l v : ℕ) → Occurs own_store (StoreImm l v) → v ≡ 1
stores_one l v (t, k, e) = elim (instruction t k (StoreImm l v) e) [ inl q ↦ cc | inr (inl q) ↦ absurd cc | inr (inr q) ↦ absurd cc ]

stores_to_x : (l v : ℕ) → Occurs own_store (StoreImm l v) → l ≡ 0
stores_to_x l v (t, k, e) = elim (instruction t k (StoreImm l v) e) [ inl q ↦ cc | inr (inl q) ↦ absurd cc | inr (inr q) ↦ absurd cc ]

no_register_store : (l : ℕ) (r : Reg) → Occurs own_store (Store l r) → ⊥
no_register_store l r (t, k, e) = elim (instruction t k (Store l r) e) [ inl q ↦ cc | inr (inl q) ↦ cc | inr (inr q) ↦ cc ]

no_exchange : (l : ℕ) (r : Reg) → Occurs own_store (Xchg l r) → ⊥
no_exchange l r (t, k, e) = elim (instruction t k (Xchg l r) e) [ inl q ↦ cc | inr (inl q) ↦ cc | inr (inr q) ↦ cc ]

-- the values of x are 0 and 1, that of y is 0
values_of_x : (v : ℕ) → Contains zero_one v ↔ IsValueOf own_store 0 v
values_of_x v = (there, back)
  where
    there : Contains zero_one v → IsValueOf own_store 0 v
    there here = elim (of_zero_one v here) [ inl e ↦ inl e | inr e ↦ inr (inl (subst (λ (w : ℕ). Occurs own_store (StoreImm 0 w)) (sym e) (0, 0, refl))) ]

    back : IsValueOf own_store 0 v → Contains zero_one v
    back (inl e) = let z : v ≡ 0 = e in in_zero_one v (omega arith)
    back (inr (inl occurs)) = let one : v ≡ 1 = stores_one 0 v occurs in in_zero_one v (omega arith)
    back (inr (inr ((r, inl occurs), known))) = absurd (no_register_store 0 r occurs)
    back (inr (inr ((r, inr occurs), known))) = absurd (no_exchange 0 r occurs)

values_of_y : (v : ℕ) → Contains (0 ∷ []) v ↔ IsValueOf own_store 1 v
values_of_y v = (there, back)
  where
    there : Contains (0 ∷ []) v → IsValueOf own_store 1 v
    there here = elim (first_or_later 0 [] v here) [ inl e ↦ inl (sym e) | inr rest ↦ absurd (none_here v rest) ]

    back : IsValueOf own_store 1 v → Contains (0 ∷ []) v
    back (inl e) = subst (λ (w : ℕ). Contains (0 ∷ []) w) (sym e) (first_is_here 0 [])
    back (inr (inl occurs)) = absurd (let z : 1 ≡ 0 = stores_to_x 1 v occurs in omega arith)
    back (inr (inr ((r, inl occurs), known))) = absurd (no_register_store 1 r occurs)
    back (inr (inr ((r, inr occurs), known))) = absurd (no_exchange 1 r occurs)

-- each of them flows there
held_in_x : (v : ℕ) → Contains zero_one v → IsHeldValue own_store 0 v
held_in_x v here = elim (of_zero_one v here) [
  | inl e ↦ subst (λ (w : ℕ). IsHeldValue own_store 0 w) (sym e) (Here (Location 0) 0 (Memory 0))
  | inr e ↦ subst (λ (w : ℕ). IsHeldValue own_store 0 w) (sym e) (Here (Location 0) 1 (Stored 0 0 0 1 refl))
]

held_in_y : (v : ℕ) → Contains (0 ∷ []) v → IsHeldValue own_store 1 v
held_in_y v here = elim (first_or_later 0 [] v here) [
  | inl e ↦ subst (λ (w : ℕ). IsHeldValue own_store 1 w) e (Here (Location 1) 0 (Memory 1))
  | inr rest ↦ absurd (none_here v rest)
]

-- so both rules take the same ones
values_by_x : (rule : Rule) (v : ℕ) → Contains zero_one v ↔ IsValueBy rule own_store 0 v
values_by_x Whole v = values_of_x v
values_by_x Early v = (held_in_x v, λ held. (values_of_x v).1 (held_is_value own_store 0 v held))

values_by_y : (rule : Rule) (v : ℕ) → Contains (0 ∷ []) v ↔ IsValueBy rule own_store 1 v
values_by_y Whole v = values_of_y v
values_by_y Early v = (held_in_y v, λ held. (values_of_y v).1 (held_is_value own_store 1 v held))

zero_ascends : IsStrictlyIncreasing (0 ∷ [])
zero_ascends i h = absurd (omega arith)

-- the first thread's load gives a, and the second thread has these values
abbrev gives : ℕ → List ℕ → Sketch
gives a others = record { given = (a ∷ []) ∷ others ∷ []; sources = []; pairs = [] }

module _ (mode : Machine) where
  -- the accesses that write: the first thread's first, which writes 1 to x
  writes_one : (a : ℕ) (others : List ℕ) (t i l v : ℕ) → Writes (access_by own_store mode (given_to (gives a others))) (At t i) l v → (v ≡ 1) × (l ≡ 0)
  writes_one a others (suc (suc t)) i l v (x, is, at, writes) = absurd cc
  writes_one a others zero (suc (suc i)) l v (x, is, at, writes) = absurd cc
  writes_one a others zero zero l v (x, is, at, writes) =
      let location : 0 ≡ x.location = ap (λ (z : Access). z.location) (same_Some _ x is) in
      let written : Some 1 ≡ x.written = ap (λ (z : Access). z.written) (same_Some _ x is) in
      (sym (same_Some 1 v (written ∙ writes)), sym (location ∙ at))
  writes_one a others zero (suc zero) l v (x, is, at, writes) = let written : None ≡ x.written = ap (λ (z : Access). z.written) (same_Some _ x is) in absurd cc
  writes_one a [] (suc zero) i l v (x, is, at, writes) = absurd cc
  writes_one a (b ∷ others) (suc zero) zero l v (x, is, at, writes) = let written : None ≡ x.written = ap (λ (z : Access). z.written) (same_Some _ x is) in absurd cc
  writes_one a (b ∷ others) (suc zero) (suc i) l v (x, is, at, writes) = absurd cc

  -- an initial write writes to its location
  writes_initial : (a : ℕ) (others : List ℕ) (m l v : ℕ) → Writes (access_by own_store mode (given_to (gives a others))) (Initial m) l v → m ≡ l
  writes_initial a others m l v (x, is, at, writes) = ap (λ (z : Access). z.location) (same_Some _ x is) ∙ at

  initial_value : (a : ℕ) (others : List ℕ) (m l v : ℕ) → Writes (access_by own_store mode (given_to (gives a others))) (Initial m) l v → slice_index own_store.memory m ≡ v
  initial_value a others m l v (x, is, at, writes) =
      let written : Some (slice_index own_store.memory m) ≡ x.written = ap (λ (z : Access). z.written) (same_Some _ x is) in same_Some (slice_index own_store.memory m) v (written ∙ writes)

  -- where the load gives 0 its one source is the initial write of x
  module _ (others : List ℕ) where
    only_initial : (s : Event) → Writes (access_by own_store mode (given_to (gives 0 others))) s 0 0 → Initial 0 ≡ s
    only_initial (Initial m) writes = ap Initial (sym (writes_initial 0 others m 0 0 writes))
    only_initial (At t i) writes = absurd (let one : 0 ≡ 1 = (writes_one 0 others t i 0 0 writes).0 in omega arith)

    initial_is_source : IsSourceOf own_store mode (gives 0 others) (Initial 0) (At 0 1)
    initial_is_source = (_, 0, refl, refl, (λ q. cc), (_, refl, refl, refl))

    no_other : (s : Event) → IsSourceOf own_store mode (gives 0 others) s (At 0 1) → Contains (Initial 0 ∷ []) s
    no_other s (x, v, is, reads, differ, writes) =
        let read : Some 0 ≡ x.read = ap (λ (z : Access). z.read) (same_Some _ x is) in
        let value : v ≡ 0 = sym (same_Some 0 v (read ∙ reads)) in
        let location : x.location ≡ 0 = sym (ap (λ (z : Access). z.location) (same_Some _ x is)) in
        let there : Writes (access_by own_store mode (given_to (gives 0 others))) s 0 0 =
        subst (λ (w : ℕ). Writes (access_by own_store mode (given_to (gives 0 others))) s 0 w) value
        (subst (λ (n : ℕ). Writes (access_by own_store mode (given_to (gives 0 others))) s n v) location writes) in
        subst (λ (z : Event). Contains (Initial 0 ∷ []) z) (only_initial s there) (first_is_here (Initial 0) [])

    there : (s : Event) → Contains (Initial 0 ∷ []) s → IsSourceOf own_store mode (gives 0 others) s (At 0 1)
    there s here = elim (first_or_later (Initial 0) [] s here) [
      | inl q ↦ subst (λ (z : Event). IsSourceOf own_store mode (gives 0 others) z (At 0 1)) q initial_is_source
      | inr rest ↦ absurd (none_here s rest)
    ]

    one_source : (rule : Rule) → AllowsSource rule own_store mode (gives 0 others) (At 0 1) → HasSourcesBy rule own_store mode (gives 0 others) (At 0 1) (Initial 0 ∷ [])
    one_source rule allowed = record {
      allowed = allowed;
      access = _;
      is_access = refl;
      is_read = refl;
      free = λ s here. none_here {A = Event × Event} (At 0 1, s) here;
      in_order = alone (Initial 0);
      exact = λ s. (there s, no_other s);
    }

  -- the second thread has a load alone
  only_load : (k : ℕ) (x : Instr) → instr_at own_store.threads 1 k ≡ Some x → x ≡ Load Eax 1
  only_load zero x e = sym (same_Some _ x e)
  only_load (suc k) x e = absurd cc

  no_store : (x : Instr) (l v : ℕ) → x ≡ Load Eax 1 → MayStore x l v → ⊥
  no_store x l v e (inl q) = let z : Load Eax 1 ≡ StoreImm l v = sym e ∙ q in cc
  no_store x l v e (inr (r, inl q)) = let z : Load Eax 1 ≡ Store l r = sym e ∙ q in cc
  no_store x l v e (inr (r, inr q)) = let z : Load Eax 1 ≡ Xchg l r = sym e ∙ q in cc

  settled : IsSettled own_store mode (gives 0 []) (At 0 1)
  settled x v zero is reads other may = other refl
  settled x v (suc zero) is reads other may = no_store may.instruction x.location v (only_load may.place may.instruction may.is_there) may.may_store
  settled x v (suc (suc u)) is reads other may = let z = may.is_there in cc

  whole_after : (a b : ℕ) → IsWhole own_store mode (gives a (b ∷ []))
  whole_after a b zero = refl
  whole_after a b (suc zero) = refl
  whole_after a b (suc (suc t)) = refl

  -- both values are chosen in each sketch
  first_values : (rule : Rule) → AreChoicesBy rule own_store mode (empty_sketch own_store) (left.Value 0) (map (choice.Value 0) zero_one)
  first_values rule = record { values = zero_one; next = record { location = 0; next = refl; ascending = ascending; exact = values_by_x rule }; each = refl }

  second_value : (rule : Rule) (a : ℕ) → AreChoicesBy rule own_store mode (gives a []) (left.Value 1) (map (choice.Value 1) (0 ∷ []))
  second_value rule a = record { values = 0 ∷ []; next = record { location = 1; next = refl; ascending = zero_ascends; exact = values_by_y rule }; each = refl }

  -- where the load gives 1 the outcome is shown
  not_last : MayBeLast own_store mode (gives 1 (0 ∷ [])) 0 (Initial 0) → ⊥
  not_last last = let same : At 0 0 ≡ Initial 0 = last.only_initial refl (At 0 0) 1 (_, refl, refl, refl) in cc

  last_writes : (l v : ℕ) (e : Event) → l < 2 → Writes (access_by own_store mode (given_to (gives 1 (0 ∷ [])))) e l v → MayBeLast own_store mode (gives 1 (0 ∷ [])) l e →
      v ≡ slice_index (1 ∷ 0 ∷ []) l
  last_writes l v (At t i) h writes last =
      let (one, at_x) = writes_one 1 (0 ∷ []) t i l v writes in one ∙ sym (ap (slice_index (1 ∷ 0 ∷ [])) at_x)
  last_writes zero v (Initial m) h writes last =
      absurd (not_last (subst (λ (n : ℕ). MayBeLast own_store mode (gives 1 (0 ∷ [])) 0 (Initial n)) (writes_initial 1 (0 ∷ []) m 0 v writes) last))
  last_writes (suc zero) v (Initial m) h writes last =
      sym (initial_value 1 (0 ∷ []) m 1 v writes) ∙ ap (slice_index own_store.memory) (writes_initial 1 (0 ∷ []) m 1 v writes)
  last_writes (suc (suc l)) v (Initial m) h writes last = absurd (omega arith)

  known : MustEndAsNumber question mode outcomes (gives 1 (0 ∷ [])) 0
  known = record {
    outcome = _;
    is_outcome = refl;
    must_end = (whole_after 1 0, record { registers = refl; long = refl; memory = λ l v e h. last_writes l v e h });
  }

  seen : (rule : Rule) → IsValidCoverBy rule question mode outcomes (in_mode mode (Value 1 (one_child (Known 0)))) (gives 1 [])
  seen rule = (map (choice.Value 1) (0 ∷ []), second_value rule 1, (known, tt))

-- the store precedes the load, and comes after the initial write that the load reads
module _ (others : List ℕ) where
  abbrev reads_initial : Sketch
  reads_initial = with_source (gives 0 others) (At 0 1) (Initial 0)

  cycle : (mode : Machine) → IsKnownCycle own_store mode reads_initial (kind_in mode union.Location) (At 0 0 ∷ At 0 1 ∷ [])
  cycle SequentialMachine = (
    (tt, (_, _, refl, refl, inl (refl, lit< tt))),
    (tt, (_, _, refl, refl, inr (inr (inr (Initial 0, (0, lit< tt, refl), inr (refl, (λ q. cc), refl), (λ q. cc)))))),
  )
  cycle (StoreBufferMachine gaps) = (
    (tt, (_, _, refl, refl, inl ((refl, lit< tt), refl))),
    (tt, (_, _, refl, refl, inr (inr (inr (Initial 0, (0, lit< tt, refl), inr (refl, (λ q. cc), refl), (λ q. cc)))))),
  )

  closed : (rule : Rule) (mode : Machine) → AllowsSource rule own_store mode (gives 0 others) (At 0 1) →
      IsValidCoverBy rule question mode outcomes (in_mode mode unseen) (gives 0 others)
  closed rule mode allowed = (
    choice.Source (access 0 1) (Initial 0) ∷ [],
    record { sources = Initial 0 ∷ []; next = one_source mode others rule allowed; each = refl },
    (cycle mode, tt),
  )

-- the early tree asks for a source while the second load has no value
not_whole : (mode : Machine) → IsValidCoverBy Whole question mode outcomes (in_mode mode early_tree) (empty_sketch own_store) → ⊥
not_whole mode (choices, are, valid) =
    let two : choices ≡ map (choice.Value 0) zero_one = one_list_of_choices_by Whole own_store mode (empty_sketch own_store) (left.Value 0) choices (map (choice.Value 0) zero_one) are (first_values mode Whole) in
    let (first, rest) = subst (λ (cs : List Choice). AreValidCoversBy Whole question mode outcomes (two_children (in_mode mode unseen) (in_mode mode (Value 1 (one_child (Known 0)))))
    (map (sketch_with (empty_sketch own_store)) cs)) two valid in
    let none : next_read own_store mode (gives 0 []) 1 ≡ None = first.1.next.allowed 1 in cc

pub own_store_is_told : OwnStoreIsTold
own_store_is_told mode = record {
  early = (map (choice.Value 0) zero_one, first_values mode Early, (closed [] Early mode (settled mode), (seen mode Early, tt)));
  not_whole = not_whole mode;
  whole = (
    map (choice.Value 0) zero_one,
    first_values mode Whole,
    ((map (choice.Value 1) (0 ∷ []), second_value mode Whole 0, (closed (0 ∷ []) Whole mode (whole_after mode 0 0), tt)), (seen mode Whole, tt)),
  );
}
