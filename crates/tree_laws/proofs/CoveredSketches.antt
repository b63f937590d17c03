-- A valid cover tree at a sketch covers it: each completion has made the choice of one of the children, or is closed by a cycle, or ends as its leaf says.
use Rattle.tree_laws.proofs.Vocabulary.{ℕ, List, [], ◌∷◌, Contains, map, sym, subst, inl, inr, Listing, Outcome, Question, JumpForward, Machine, Event, Kind, Cover, Value, Source, Order, Cycle, Known, Covers, NoCover, MoreCovers, event_of, Choice, OpenChoice, Rule, Whole, Early, AllowsSource, AreChoicesBy, AreTwo, sketch_with}
use Rattle.tree_laws.proofs.Vocabulary.{MustEndAsNumber, IsValidCoverBy, AreValidCoversBy, IsCovered, Candidate, Sketch, Completes, IsConsistentCompletion, IsSketch, IsSettled, IsPair, with_value, with_source, with_pair, IsKnownCycle, some_value}
use Rattle.tree_laws.proofs.Vocabulary.{a_value_keeps_a_sketch, a_source_keeps_a_sketch, a_pair_keeps_a_sketch, each_has_a_settled_source, each_has_an_order, whole_is_settled, AValidCoverCovers}
use Rattle.tree_laws.specs.declared.choice.Choice.TheVariants as choice
use Rattle.tree_laws.specs.declared.choice.OpenChoice.TheVariants as left
use Rattle.candidate_executions.proofs.{Sketches.KnownCycles.known_cycle_refutes, Sketches.MustEnd.each_ends_so}
use Rattle.tree_laws.proofs.RuleValues.{each_has_a_value_by}
use Rattle.tree_laws.proofs.Lists.{none_here, first_is_here, later_is_here, mapped, found_is_here, each_more}

-- a completion of one sketch that completes another
of_other : (p : Listing) (mode : Machine) (k j : Sketch) (c : Candidate) → IsConsistentCompletion p mode k c → Completes j c → IsConsistentCompletion p mode j c
of_other p mode k j c is completes = record { is_candidate = is.is_candidate; consistent = is.consistent; completes = completes }

turned : (p : Listing) (mode : Machine) (k : Sketch) (d e : Event) → IsPair p mode k d e → IsPair p mode k e d
turned p mode k d e (differ, (l, v, w, first, second, not_first, not_second)) = ((λ q. differ (sym q)), (l, w, v, second, first, not_second, not_first))

-- a read that the rule lets take a source is settled
pub is_settled : (rule : Rule) (p : Listing) (mode : Machine) (k : Sketch) (e : Event) → AllowsSource rule p mode k e → IsSettled p mode k e
is_settled Whole p mode k e whole = whole_is_settled p mode k e whole
is_settled Early p mode k e settled = settled

module _ (rule : Rule) (q : Question) (mode : Machine) (outcomes : List Outcome) (forward : JumpForward q.program.threads) where
  abbrev p : Listing
  p = q.program

  abbrev pub Covered : Sketch → Type 0
  Covered k = IsSketch p mode k → IsCovered q mode outcomes k

  -- each of the sketches is
  abbrev pub EachCovered : List Sketch → Type 0
  EachCovered ks = (k : Sketch) → Contains ks k → Covered k

  -- the sketch after one of the choices is covered
  after_one : (k : Sketch) (choices : List Choice) (c : Choice) → EachCovered (map (sketch_with k) choices) → Contains choices c → Covered (sketch_with k c)
  after_one k choices c each here = each (sketch_with k c) (mapped (sketch_with k) choices c here)

  by_choices : (k : Sketch) (next : OpenChoice) (choices : List Choice) → AreChoicesBy rule p mode k next choices → EachCovered (map (sketch_with k) choices) → Covered k
  by_choices k (left.Value t) choices are each fits c is =
      let (v, is_value, completes) = each_has_a_value_by rule p mode k c t are.next.location forward fits is are.next.next in
      let here = mapped (choice.Value t) are.values v ((are.next.exact v).1 is_value) in
      after_one k choices (choice.Value t v) each (subst (λ cs. Contains cs (choice.Value t v)) (sym are.each) here)
      (a_value_keeps_a_sketch p mode k t are.next.location v forward fits are.next.next) c (of_other p mode k (with_value k t v) c is completes)
  by_choices k (left.Source read) choices are each fits c is =
      let e = event_of read in
      let has = are.next in
      let (v, reads) = some_value has.access.read has.is_read in
      let (is_source, completes) = each_has_a_settled_source p mode k c e has.access v forward fits is (is_settled rule p mode k e has.allowed) has.is_access reads in
      let here = mapped (choice.Source read) are.sources (c.source e) ((has.exact (c.source e)).1 is_source) in
      after_one k choices (choice.Source read (c.source e)) each (subst (λ cs. Contains cs (choice.Source read (c.source e))) (sym are.each) here)
      (a_source_keeps_a_sketch p mode k e (c.source e) fits is_source) c (of_other p mode k (with_source k e (c.source e)) c is completes)
  by_choices k (left.Order first second) choices are each fits c is =
      let d = event_of first in
      let e = event_of second in
      let pair = are.free.is_pair in
      let both = subst (λ cs. EachCovered (map (sketch_with k) cs)) are.both each in
      elim (each_has_an_order p mode k c d e fits is.is_candidate is.completes pair) [
        | inl before ↦ both (with_pair k d e) (first_is_here (with_pair k d e) (with_pair k e d ∷ [])) (a_pair_keeps_a_sketch p mode k d e fits pair) c (of_other p mode k (with_pair k d e) c is before)
        | inr after ↦ both (with_pair k e d) (later_is_here (with_pair k d e) (with_pair k e d ∷ []) (with_pair k e d) (first_is_here (with_pair k e d) []))
            (a_pair_keeps_a_sketch p mode k e d fits (turned p mode k d e pair)) c (of_other p mode k (with_pair k e d) c is after)
      ]

  by_cycle : (k : Sketch) (kind : Kind) (es : List Event) → IsKnownCycle p mode k kind es → Covered k
  by_cycle k kind es known fits c is = absurd (known_cycle_refutes p mode k kind es fits known c is)

  by_outcome : (k : Sketch) (number : ℕ) → MustEndAsNumber q mode outcomes k number → Covered k
  by_outcome k number must fits c is = (
    must.outcome,
    found_is_here outcomes number must.outcome must.is_outcome,
    each_ends_so q mode k c must.outcome forward fits is.is_candidate is.completes must.must_end,
  )

  each_of_two : (P Q : Sketch → Type 0) → ((k : Sketch) → P k → Covered k) → ((k : Sketch) → Q k → Covered k) → (ks : List Sketch) → AreTwo P Q ks → EachCovered ks
  each_of_two P Q first second (k ∷ (j ∷ [])) (one, other) = each_more Covered k (j ∷ []) (first k one) (each_more Covered j [] (second j other) (λ i here. absurd (none_here i here)))
  each_of_two P Q first second ks valid = absurd valid

  mutual
    covered : (tree : Cover) (k : Sketch) → IsValidCoverBy rule q mode outcomes tree k → Covered k
    covered (Value t children) k (choices, are, valid) = by_choices k (left.Value t) choices are (each_covered children (map (sketch_with k) choices) valid)
    covered (Source read children) k (choices, are, valid) = by_choices k (left.Source read) choices are (each_covered children (map (sketch_with k) choices) valid)
    covered (Order first second one other) k (choices, are, valid) =
        by_choices k (left.Order first second) choices are (each_of_two (IsValidCoverBy rule q mode outcomes one) (IsValidCoverBy rule q mode outcomes other) (covered one) (covered other) (map (sketch_with k) choices) valid)
    covered (Cycle kind events) k known = by_cycle k kind (map event_of events) known
    covered (Known number) k must = by_outcome k number must

    each_covered : (trees : Covers) (ks : List Sketch) → AreValidCoversBy rule q mode outcomes trees ks → EachCovered ks
    each_covered NoCover [] valid = λ j here. absurd (none_here j here)
    each_covered (MoreCovers tree trees) (k ∷ ks) (now, later) = each_more Covered k ks (covered tree k now) (each_covered trees ks later)
    each_covered trees ks valid = absurd valid

pub valid_covers_by : (rule : Rule) → AValidCoverCovers rule
valid_covers_by rule q mode outcomes tree k forward fits valid = covered rule q mode outcomes forward tree k valid fits

pub valid_covers : AValidCoverCovers Whole
valid_covers = valid_covers_by Whole
