-- What it says of a sketch that nothing is left to be chosen.
use Rattle.cover_search.proofs.Vocabulary.{◌≡◌, ◌↔◌, ℕ, Bool, true, false, not, IsTrue, zero, suc, ◌<◌, ◌≤◌, List, [], ◌∷◌, Option, None, Some, All, get_or, length, sym, ap, ◌∙◌, subst, inl, inr, arith, IfSome, cases_lt, Event, Initial, At, IsAccess, Writes}
use Rattle.cover_search.proofs.Vocabulary.{ProgramSketch, mode_in, trace_in, access_in, with_chosen, Choice, sketch_with, MayChoose, MayChooseEach, AccessId, event_of, ReadValue, WrittenValue, WholeAccesses, given_to, IsPair, IsWhole, IsOrdered, MayFollow}
use Rattle.cover_search.proofs.Vocabulary.{other_way, turned, same_default, IsComplete, HasItsSource, IsOrderedWith, read_there, first_there, second_there, IsReadValue, IsWrittenValue, NamesWrite, AreAccessesOf, HasEachSource, AreWritesInOrder, IsEachInOrder}
use Rattle.tso_program.specs.declared.listing.Thread.{Thread}
use Rattle.candidate_executions.specs.Sketches as sketches
use Rattle.tree_laws.specs.declared.choice.Choice.TheVariants as choice
use Rattle.thread_traces.proofs.TracesKept.{no_action}
use Rattle.cover_search.proofs.AccessesNamed.{id_of}

-- two writes of a list are in order, whatever stands for those past its end
pub in_order_at : (s : ProgramSketch) (writes : List WrittenValue) (i n j : ℕ) (d e : WrittenValue) → i < length writes → n < length writes → j ≡ n → AreWritesInOrder s (get_or writes i d) (get_or writes n d) →
    AreWritesInOrder s (get_or writes i e) (get_or writes j e)
in_order_at s writes i n j d e h l same are = subst (λ k. AreWritesInOrder s (get_or writes i e) (get_or writes k e)) (sym same)
    (subst (λ w. AreWritesInOrder s w (get_or writes n e)) (same_default writes i d e h)
    (subst (λ w. AreWritesInOrder s (get_or writes i d) w) (same_default writes n d e l) are))

-- the other way round
other_order : (s : ProgramSketch) (d e : Event) → IsOrdered s d e → IsOrdered s e d
other_order s d e h = elim h [ inl a ↦ inr a | inr a ↦ inl a ]

-- a write that is found stands for its access
named_at : (writes : List WrittenValue) (a : AccessId) (w d : WrittenValue) (i : ℕ) → i < length writes → get_or writes i w ≡ w → w.write ≡ a → (get_or writes i d).write ≡ a
named_at writes a w d i h p is = ap (λ (z : WrittenValue). z.write) (same_default writes i d w h ∙ p) ∙ is

-- of writes in order any two to one location are
module _ (s : ProgramSketch) (writes : List WrittenValue) (orders : IsEachInOrder s writes) (a b : AccessId) where
  earlier_first : (v w : WrittenValue) (i j : ℕ) → i < j → i < length writes → j < length writes → get_or writes i v ≡ v → get_or writes j w ≡ w → v.write ≡ a → w.write ≡ b →
      IsOrderedWith s (event_of a) (event_of b)
  earlier_first v w i j less h l p q v_is w_is = subst (λ x. IsOrderedWith s (event_of x) (event_of b)) (named_at writes a v v i h p v_is)
      (subst (λ y. IsOrderedWith s (event_of (get_or writes i v).write) (event_of y)) (named_at writes b w v j l q w_is) (orders i j v less l))

named_in_order : (s : ProgramSketch) (writes : List WrittenValue) → IsEachInOrder s writes → (a b : AccessId) → NamesWrite writes a → NamesWrite writes b → IsOrderedWith s (event_of a) (event_of b)
named_in_order s writes orders a b (v, (i, h, p), v_is) (w, (j, l, q), w_is) pair = elim (cases_lt i j) [
  | inl less ↦ earlier_first s writes orders a b v w i j less h l p q v_is w_is pair
  | inr more ↦ elim (cases_lt j i) [
    | inl less ↦ other_order s (event_of b) (event_of a) (earlier_first s writes orders b a w v j i less l h q p w_is v_is (turned s.program (mode_in s) s.chosen (event_of a) (event_of b) pair))
    | inr none ↦ (let same : i ≡ j = omega arith in
        absurd (pair.0 (ap event_of (sym (named_at writes a v v i h p v_is) ∙ ap (λ n. (get_or writes n v).write) same ∙ named_at writes b w v j l q w_is))))
  ]
]

-- a sketch with each value, source and order is complete
pub complete_of : (s : ProgramSketch) (accesses : WholeAccesses) → AreAccessesOf s accesses → HasEachSource s accesses.reads.items → IsEachInOrder s accesses.writes.items → IsComplete s
complete_of s accesses are sources orders = record {
  whole = are.whole;
  sources = λ e reads. sourced e (read_there s e reads) reads;
  pairs = λ d e pair. ordered d e (first_there s d e pair) (second_there s d e pair) pair;
}
  where
    sourced : (e : Event) → IsAccess s.program (mode_in s) (given_to s.chosen) e → HasItsSource s e
    sourced (Initial l) there reads = absurd there
    sourced (At t i) there reads = (let (r, here, is) = are.reads.all (record { thread = t; access = i }) reads in subst (λ a. HasItsSource s (event_of a)) is (sources r here) reads)

    ordered : (d e : Event) → IsAccess s.program (mode_in s) (given_to s.chosen) d → IsAccess s.program (mode_in s) (given_to s.chosen) e → IsOrderedWith s d e
    ordered (Initial l) e first second pair = absurd first
    ordered (At t i) (Initial l) first second pair = absurd second
    ordered (At t i) (At u j) first second pair = (
        let (l, v, w, of_a, of_b, not_a, not_b) = pair.1 in
        let a : AccessId = record { thread = t; access = i } in
        let b : AccessId = record { thread = u; access = j } in
        named_in_order s accesses.writes.items orders a b (are.writes.all a (l, v, of_a)) (are.writes.all b (l, w, of_b)) pair)

-- what a test denies
pub unless : (b : Bool) (P : Type 0) → (IsTrue b ↔ P) → IsTrue (not b) → P → ⊥
unless true P test not_so p = absurd cc
unless false P test not_so p = (let no : false ≡ true = test.1 p in absurd cc)

-- two writes to one location are a pair
pub pair_of : (s : ProgramSketch) (a b : WrittenValue) → IsWrittenValue s a → IsWrittenValue s b → a.location ≡ b.location → (a.write ≡ b.write → ⊥) →
    IsPair s.program (mode_in s) s.chosen (event_of a.write) (event_of b.write)
pair_of s a b of_a of_b same differ = (λ e. differ (ap id_of e), (a.location, a.value, b.value, of_a, subst (λ l. Writes (access_in s) (event_of b.write) l b.value) (sym same) of_b, λ e. absurd cc, λ e. absurd cc))

-- a thread that is not there has no next read
pub no_read : (s : ProgramSketch) (threads : List Thread) (t : ℕ) → threads ≡ s.program.threads → length threads ≤ t → sketches.next_read s.program (mode_in s) s.chosen t ≡ None
no_read s threads t same h = ap sketches.read_by (no_action s.program.threads t (trace_in s t).last (subst (λ ts. length ts ≤ t) same h))

-- both orders of two writes may be chosen
pub both_may : (s : ProgramSketch) (first second : AccessId) (choices : List Choice) → MayFollow s (event_of first) (event_of second) →
    choices ≡ choice.Order first second ∷ choice.Order second first ∷ [] → MayChooseEach s choices
both_may s first second choices may same = subst (MayChooseEach s) (sym same) (record { each = each })
  where
    each : All (MayChoose s) (choice.Order first second ∷ choice.Order second first ∷ [])
    each zero d h = may
    each (suc zero) d h = other_way s (event_of first) (event_of second) may
    each (suc (suc k)) d h = absurd (omega arith)
