-- What is known of formulas.
use Rattle.rowless_sketches.proofs.Vocabulary.{◌≡◌, ◌↔◌, ℕ, ◌<◌, ◌≤◌, Bool, true, false, not, IsTrue, List, [], ◌∷◌, Option, Some, None, IsSome, get_or, length, drop, add-one, drop-cons, ◌+◌, Result, Ok, Err, IfOk, refl, sym, ap, ◌∙◌, subst, inl, inr, arith}
use Rattle.rowless_sketches.proofs.Vocabulary.{slice_get, option_and_then, slice_get-get_or, slice_get_past, drop_all, Half, AndOf, OrOf, build, Atom, Tree, IsLawful, ProgramSketch, mode_in, trace_in, final_registers, next_read, IsKnownTruth, Knows}
use Rattle.rowless_sketches.proofs.Vocabulary.{after_node, not-true as not_true, not_from_false as false_not, ◌==◌, slice_index, Access, Event, At, Initial, access_in, IsLastWith, HasLater, IsInitialWrite, IsOfThread, IsWritten, MayBe, MayBeBy, yes, no}
use Rattle.tso_program.specs.{declared.instruction.Reg.Reg, Instructions.number, declared.node.FormulaNode.FormulaNode, Truth.is_true_at, Truth.is_value}
use Rattle.tso_program.specs.declared.atom.Atom.TheVariants as atom
use Rattle.tso_program.specs.declared.node.FormulaNode.TheVariants as node
use Rattle.tso_program.specs.Tree as tree
use Rattle.rowless_sketches.proofs.{OwnWrites.own_or_initial, OwnWrites.first_free, Ends.final_at, Ends.final_long, Ends.last_by, Ends.write_within, Ends.thread_within}

-- ---- tests of two truths

pub no_some : (o : Option ℕ) → (IsSome o → ⊥) → o ≡ None
no_some None none = refl
no_some (Some x) none = absurd (none refl)

-- ---- parts of formulas

module _ (s : ProgramSketch) where
  pub knows_const : (b : Bool) → Knows s (tree.Const b) (record { is_true = b; is_false = not b })
  knows_const true = record { of_true = (λ t. refl, λ e. refl); of_false = (λ t. absurd (let f : false ≡ true = t in cc), λ e. absurd (let f : true ≡ false = e in cc)) }
  knows_const false = record { of_true = (λ t. absurd (let f : false ≡ true = t in cc), λ e. absurd (let f : false ≡ true = e in cc)); of_false = (λ t. refl, λ e. refl) }

  -- nothing is known of an atom of which neither truth is
  knows_open : (a : Atom) → ((b : Bool) → IsKnownTruth s (tree.Atom a) b → ⊥) → Knows s (tree.Atom a) (record { is_true = false; is_false = false })
  knows_open a none = record {
    of_true = (λ t. absurd (let f : false ≡ true = t in cc), λ known. absurd (none true known));
    of_false = (λ t. absurd (let f : false ≡ true = t in cc), λ known. absurd (none false known));
  }

  -- a register while its thread reads, and where the thread stops
  pub knows_reading : (t : ℕ) (r : Reg) (v : ℕ) → IsSome (next_read s.program (mode_in s) s.chosen t) → Knows s (tree.Atom (atom.Register t r v)) (record { is_true = false; is_false = false })
  knows_reading t r v reads = knows_open (atom.Register t r v) (λ b known. let no : IsSome {T = ℕ} None = subst (λ (o : Option ℕ). IsSome o) known.0 reads in cc)

  pub knows_stopped : (t : ℕ) (r : Reg) (v : ℕ) (b : Bool) → (IsSome (next_read s.program (mode_in s) s.chosen t) → ⊥) → b ≡ is_true_at (record { registers = final_registers s; memory = [] }) (atom.Register t r v) →
      Knows s (tree.Atom (atom.Register t r v)) (record { is_true = b; is_false = not b })
  knows_stopped t r v b none is =
      let stops : next_read s.program (mode_in s) s.chosen t ≡ None = no_some (next_read s.program (mode_in s) s.chosen t) none in record {
        of_true = (λ t. (stops, sym is ∙ t), λ known. is ∙ known.1);
        of_false = (λ t. (stops, sym is ∙ not_true b t), λ known. false_not b (is ∙ known.1));
      }

  -- a register where its thread stops
  pub stops : (t : ℕ) (r : Reg) (v : ℕ) (held : List ℕ) → t < length s.program.threads → held ≡ (trace_in s t).last.registers →
      is_true_at (record { registers = final_registers s; memory = [] }) (atom.Register t r v) ≡ is_value (slice_get held (number r)) v
  stops t r v held there is =
      let long = final_long s in
      let at : slice_get (final_registers s) t ≡ Some held = slice_get-get_or (final_registers s) t [] (omega arith) ∙ ap Some (final_at s t there ∙ sym is) in
      ap (λ x. is_value (option_and_then (λ registers. slice_get registers (number r)) x) v) at

  -- a register of a thread that isn't there
  pub stops_past : (t : ℕ) (r : Reg) (v : ℕ) → length s.program.threads ≤ t →
      false ≡ is_true_at (record { registers = final_registers s; memory = [] }) (atom.Register t r v)
  stops_past t r v past =
      let long = final_long s in
      sym (ap (λ x. is_value (option_and_then (λ registers. slice_get registers (number r)) x) v) (slice_get_past (final_registers s) t (omega arith)))

-- ---- whether a location may end with a value, or with another

module _ (s : ProgramSketch) (l v : ℕ) (is : Bool) where
  -- an access that writes such a value does, unless a chosen pair puts a write after it
  pub access_does : (e : Event) (x : Access) (held : ℕ) (b : Bool) → access_in s e ≡ Some x → (IsInitialWrite e → ⊥) → x.written ≡ Some held → x.location ≡ l → ((held == v) ≡ is) →
      (IsTrue b ↔ HasLater s e) → IsTrue (not b) ↔ ((w : ℕ) × IsLastWith s l w e × ((w == v) ≡ is))
  access_does e x held true at other written here so later = no ((w : ℕ) × IsLastWith s l w e × ((w == v) ≡ is)) (λ (w, last, same). (let (d, h) = later.0 refl in last.1.no_later d h))
  access_does e x held false at other written here so later = yes ((w : ℕ) × IsLastWith s l w e × ((w == v) ≡ is)) (
    held,
    (
      (x, at, here, written),
      record {
        no_later = λ d h. (let f : false ≡ true = later.1 (d, h) in cc);
        only_initial = λ q d u w. absurd (other (subst IsInitialWrite (sym q) tt));
      },
    ),
    so,
  )

  -- an access of a thread does where one of its accesses does
  pub one_does : (t : ℕ) → MayBeBy s l v is (IsOfThread t) → (i : ℕ) × (i < length (trace_in s t).accesses) × ((w : ℕ) × IsLastWith s l w (At t i) × ((w == v) ≡ is))
  one_does t (e, (i, q), (w, last, so)) =
      let here : IsLastWith s l w (At t i) = subst (IsLastWith s l w) q last in
      (i, write_within s t i l (w, here.0), (w, here, so))

  module _ (n : ℕ) (all : length s.program.threads ≤ n) (none : (t : ℕ) → t < n → MayBeBy s l v is (IsOfThread t) → ⊥) where
    -- where no access does, only the initial write does
    only_initial_does : (w : ℕ) (e : Event) → IsLastWith s l w e → ((w == v) ≡ is) → (e ≡ Initial l) × ((slice_index s.program.memory l == v) ≡ is)
    only_initial_does w (At t i) last so = absurd (let h = thread_within s t l (i, (w, last.0)) in none t (omega arith) (At t i, (i, refl), (w, last, so)))
    only_initial_does w (Initial m) last so = elim (own_or_initial s (Initial m) l w last.0) [
      | inl own ↦ absurd own
      | inr (q, value) ↦ (q, sym (ap (λ (n : ℕ). n == v) value) ∙ so)
    ]

    -- which does if its value is such, unless an access writes the location
    pub initial_does : (b : Bool) → IsLawful s → ((slice_index s.program.memory l == v) ≡ is) → (IsTrue b ↔ IsWritten s l) → IsTrue (not b) ↔ MayBe s l v is
    initial_does true lawful so test = no (MayBe s l v is) (λ (w, (e, last), same). (
        let (t, h) = test.0 refl in
        let (i, h2) = h in
        let (u, writes) = h2 in
        let apart : At t i ≡ Initial l = last.1.only_initial (only_initial_does w e last same).0 (At t i) u writes in
        cc))
    initial_does false lawful so test = yes (MayBe s l v is) (slice_index s.program.memory l, (Initial l, ((_, refl, refl, refl), (last_by s l (Initial l) false (first_free s l lawful) refl test).0 refl)), so)

    pub initial_differs : ((slice_index s.program.memory l == v) ≡ is → ⊥) → MayBe s l v is → ⊥
    initial_differs other (w, (e, last), so) = other (only_initial_does w e last so).1

-- ---- a walk over the nodes

one_on : (f : Tree Atom) (hs : List Half) (x : FormulaNode) (xs : List FormulaNode) → build f hs (x ∷ xs) ≡ build (after_node x f hs).0 (after_node x f hs).1 xs
one_on f [] node.End xs = refl
one_on f (AndOf g ∷ hs) node.End xs = refl
one_on f (OrOf g ∷ hs) node.End xs = refl
one_on f hs x xs = refl

pub walk_on : (f : Tree Atom) (hs : List Half) (i : ℕ) (nodes : List FormulaNode) (d : FormulaNode) (all : Tree Atom) → i < length nodes → build f hs (drop i nodes) ≡ all →
    build (after_node (get_or nodes i d) f hs).0 (after_node (get_or nodes i d) f hs).1 (drop (i + 1) nodes) ≡ all
walk_on f hs i nodes d all h is =
    let e : drop i nodes ≡ get_or nodes i d ∷ drop (i + 1) nodes = rw add-one (drop-cons nodes i d h) in
    sym (one_on f hs (get_or nodes i d) (drop (i + 1) nodes)) ∙ sym (ap (build f hs) e) ∙ is

pub walked : (f : Tree Atom) (hs : List Half) (i : ℕ) (nodes : List FormulaNode) (all : Tree Atom) → length nodes ≤ i → build f hs (drop i nodes) ≡ all → f ≡ all
walked f hs i nodes all h is = sym (ap (build f hs) (drop_all i nodes h)) ∙ is

-- what follows from the fact of a test follows from the test
pub only_if : {E : Type 0} (P Q : Type 0) (r : Result Bool E) → IfOk r (λ b. IsTrue b ↔ P) → (P → Q) → IfOk r (λ b. IsTrue b → Q)
only_if P Q (Ok b) test then = λ t. then (test.0 t)
only_if P Q (Err e) test then = tt
