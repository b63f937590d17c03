-- The first fault by the question that a rule judges, and by the question itself.
use Rattle.cert_check.proofs.Vocabulary.{◌≡◌, ◌⊎◌, ℕ, List, refl, sym, ap, ◌∙◌, subst, inl, inr, arith, Listing, Question, asked_with, Certificate, CheckFault, HasRightSet, IsJudged, IsValidCertificateOf, HasHead, HasRightCost, IsFirstFault, CheckFaultIs}
use Rattle.cert_check.proofs.Vocabulary.{TheFirstCheckFaultIsUnique, ValidCertificatesHaveNoFault}
use Rattle.gap_sets.specs.Order.{total}
use Rattle.gap_sets.specs.Ties.{IsAllowed, names_in}
use Rattle.tso_program.specs.declared.shown.Shown.{Shown}
use Rattle.tso_program.specs.Listings.{gap_count}
use Rattle.cert_forest.specs.Rule.{Rule, TheVariants.Whole, TheVariants.Early}
use Rattle.cert_forest.specs.Shows.{shows_of}
use Rattle.dataflow_laws.specs.DeadLoads.{IsWithoutDeadLoads}
use Rattle.dataflow_laws.proofs.{DroppedPlaces.gaps_kept, LiveByPass.one_program}
use Rattle.cert_forest.specs.declared.check_fault.CheckFault.TheVariants as fault
use Rattle.cert_check.proofs.{FirstFaults.no_fault, OneFault.one_first_fault}

-- without its dead loads a program has as many gaps
as_many : (p : Listing) (shown : Shown) (slim : Listing) → IsWithoutDeadLoads p shown slim → gap_count slim.threads ≡ gap_count p.threads
as_many p shown slim (here, are, is) = ap (λ (l : Listing). gap_count l.threads) is ∙ (gaps_kept p here).0

one_slim : (p : Listing) (shown : Shown) (slim other : Listing) → IsWithoutDeadLoads p shown slim → IsWithoutDeadLoads p shown other → slim ≡ other
one_slim p shown slim other (here, are, is) (there, also, is_too) = is ∙ one_program p shown here there are also ∙ sym is_too

-- what tells of what is shown, the set and the cost is the same of both questions
abbrev HasSameHead : Question → Question → Type 0
HasSameHead q j = (j.shown ≡ q.shown) × ((gap_count j.program.threads ≡ gap_count q.program.threads) × (j.ties ≡ q.ties))

turned : (q j : Question) → HasSameHead q j → HasSameHead j q
turned q j (shown, (many, ties)) = (sym shown, (sym many, sym ties))

module _ (costs : List ℕ) (c : Certificate) (q j : Question) (same : HasSameHead q j) where
  shown_too : c.shown ≡ shows_of q.shown → c.shown ≡ shows_of j.shown
  shown_too is = is ∙ ap shows_of (sym same.0)

  set_too : HasRightSet q c.gaps → HasRightSet j c.gaps
  set_too right = record {
    of_program = λ gap there. (let h = right.of_program gap there in let many = same.1.0 in omega arith);
    allowed = subst (λ (ties : List ℕ). IsAllowed ties c.gaps) (sym same.1.1) right.allowed;
  }

  cost_too : HasRightCost q costs c → HasRightCost j costs c
  cost_too (long, is) = (long ∙ sym same.1.0, subst (λ (ties : List ℕ). c.cost ≡ total costs (names_in ties c.gaps)) (sym same.1.1) is)

  pub head_too : HasHead q costs c → HasHead j costs c
  head_too head = record { shown = shown_too head.shown; right_set = set_too head.right_set; cost = cost_too head.cost }

-- it is found without runs and trees
abbrev IsOfHead : CheckFault → Type 0
IsOfHead fault.Shown = Unit {0}
IsOfHead fault.Set = Unit {0}
IsOfHead fault.Cost = Unit {0}
IsOfHead fault.OutOfMemory = Unit {0}
IsOfHead why = ⊥

module _ (costs : List ℕ) (c : Certificate) (q j : Question) (same : HasSameHead q j) where
  of_head_too : (why : CheckFault) → IsOfHead why → IsFirstFault q costs c why → IsFirstFault j costs c why
  of_head_too fault.Shown of wrong = λ is. wrong (shown_too costs c j q (turned q j same) is)
  of_head_too fault.Set of (shown, wrong) = (shown_too costs c q j same shown, λ are. wrong (set_too costs c j q (turned q j same) are))
  of_head_too fault.Cost of (shown, set, wrong) = (shown_too costs c q j same shown, set_too costs c q j same set, λ right. wrong (cost_too costs c j q (turned q j same) right))
  of_head_too fault.OutOfMemory of head = head_too costs c q j same head
  of_head_too why of wrong = absurd of

-- the question that the rule judges, with what is known of it
module _ (q : Question) where
  with_head : (rule : Rule) (P : Question → Type 0) → IsJudged rule q P → IsJudged rule q (λ j. P j × HasSameHead q j)
  with_head Whole P has = (has, (refl, (refl, refl)))
  with_head Early P (slim, is, has) = (slim, is, (has, (refl, (as_many q.program q.shown slim is, refl))))

  both : (rule : Rule) (P R : Question → Type 0) → IsJudged rule q P → IsJudged rule q R → IsJudged rule q (λ j. P j × R j)
  both Whole P R has also = (has, also)
  both Early P R (slim, is, has) (other, is_too, also) = (slim, is, (has, subst (λ (l : Listing). R (asked_with q.ties l q.shown)) (one_slim q.program q.shown other slim is_too is) also))

  mapped : (rule : Rule) (P R : Question → Type 0) → ((j : Question) → P j → R j) → IsJudged rule q P → IsJudged rule q R
  mapped Whole P R f has = f q has
  mapped Early P R f (slim, is, has) = (slim, is, f (asked_with q.ties slim q.shown) has)

  out : (rule : Rule) (P : Question → Type 0) (X : Type 0) → ((j : Question) → P j → X) → IsJudged rule q P → X
  out Whole P X f has = f q has
  out Early P X f (slim, is, has) = f (asked_with q.ties slim q.shown) has

module _ (q : Question) (costs : List ℕ) (c : Certificate) where
  abbrev ByJudged : CheckFault → Type 0
  ByJudged why = IsJudged c.rule q (λ j. IsFirstFault j costs c why)

  -- a fault is by the question itself, or by the one that the rule judges
  by_either : (why : CheckFault) → CheckFaultIs q costs c why → (IsOfHead why × IsFirstFault q costs c why) ⊎ ByJudged why
  by_either fault.Shown wrong = inl (tt, wrong)
  by_either fault.Set wrong = inl (tt, wrong)
  by_either fault.Cost wrong = inl (tt, wrong)
  by_either fault.OutOfMemory wrong = inl (tt, wrong)
  by_either (fault.SequentialRun n) wrong = inr wrong
  by_either (fault.SequentialTree path) wrong = inr wrong
  by_either (fault.Run n) wrong = inr wrong
  by_either (fault.NotForeign n) wrong = inr wrong
  by_either (fault.FencedTree path) wrong = inr wrong
  by_either (fault.GapTree path) wrong = inr wrong

  -- by a question that is judged it is the first one too
  judged_too : (P : Question → Type 0) (why : CheckFault) → CheckFaultIs q costs c why → IsJudged c.rule q P → IsJudged c.rule q (λ j. P j × (HasSameHead q j × IsFirstFault j costs c why))
  judged_too P why wrong has = elim (by_either why wrong) [
    | inl (of, first) ↦ mapped q c.rule (λ j. P j × HasSameHead q j) (λ j. P j × (HasSameHead q j × IsFirstFault j costs c why))
        (λ j (own, same). (own, (same, of_head_too costs c q j same why of first))) (with_head q c.rule P has)
    | inr judged ↦ mapped q c.rule (λ j. (P j × IsFirstFault j costs c why) × HasSameHead q j) (λ j. P j × (HasSameHead q j × IsFirstFault j costs c why))
        (λ j ((own, first), same). (own, (same, first)))
        (with_head q c.rule (λ j. P j × IsFirstFault j costs c why) (both q c.rule P (λ j. IsFirstFault j costs c why) has judged))
  ]

  abbrev AreOne : CheckFault → CheckFault → Question → Type 0
  AreOne why other j = (why ≡ other) ⊎ (((why ≡ fault.OutOfMemory) ⊎ (other ≡ fault.OutOfMemory)) × HasHead j costs c)

  one_by_judged : (why other : CheckFault) → ByJudged why → CheckFaultIs q costs c other → AreOne why other q
  one_by_judged why other wrong also =
      out q c.rule (λ j. IsFirstFault j costs c why × (HasSameHead q j × IsFirstFault j costs c other)) (AreOne why other q)
      (λ j (first, (same, first_too)). elim (one_first_fault j costs c why other first first_too) [
        | inl e ↦ inl e
        | inr (memory, head) ↦ inr (memory, head_too costs c j q (turned q j same) head)
      ])
      (judged_too (λ j. IsFirstFault j costs c why) other also wrong)

  back : (why other : CheckFault) → AreOne other why q → AreOne why other q
  back why other (inl e) = inl (sym e)
  back why other (inr (inl memory, head)) = inr (inr memory, head)
  back why other (inr (inr memory, head)) = inr (inl memory, head)

pub valid_certificates_have_no_fault : ValidCertificatesHaveNoFault
valid_certificates_have_no_fault q costs c why valid wrong =
    out q c.rule (λ j. IsValidCertificateOf j costs c × (HasSameHead q j × IsFirstFault j costs c why)) (why ≡ fault.OutOfMemory)
    (λ j (is, (same, first)). no_fault j costs c is why first)
    (judged_too q costs c (λ j. IsValidCertificateOf j costs c) why wrong valid)

pub the_first_fault_is_unique : TheFirstCheckFaultIsUnique
the_first_fault_is_unique q costs c why other wrong also = elim (by_either q costs c why wrong) [
  | inr judged ↦ one_by_judged q costs c why other judged also
  | inl (of, first) ↦ elim (by_either q costs c other also) [
    | inr judged ↦ back q costs c why other (one_by_judged q costs c other why judged wrong)
    | inl (of_too, first_too) ↦ one_first_fault q costs c why other first first_too
  ]
]

-- ---- of the program without dead loads

module _ (ties : List ℕ) (p : Listing) (shown : Shown) (slim : Listing) (is : IsWithoutDeadLoads p shown slim) (costs : List ℕ) (c : Certificate) where
  same_head : HasSameHead (asked_with ties p shown) (asked_with ties slim shown)
  same_head = (refl, (as_many p shown slim is, refl))

  -- the head is right of it too
  pub slim_head : HasHead (asked_with ties p shown) costs c → HasHead (asked_with ties slim shown) costs c
  slim_head = head_too costs c (asked_with ties p shown) (asked_with ties slim shown) same_head

  module _ (early : c.rule ≡ Early) where
    pub of_slim : (P : Question → Type 0) → P (asked_with ties slim shown) → IsJudged c.rule (asked_with ties p shown) P
    of_slim P has = subst (λ (rule : Rule). IsJudged rule (asked_with ties p shown) P) (sym early) (slim, is, has)

    -- its first fault is the certificate's
    pub slim_fault : (why : CheckFault) → IsFirstFault (asked_with ties slim shown) costs c why → CheckFaultIs (asked_with ties p shown) costs c why
    slim_fault fault.Shown wrong = of_head_too costs c (asked_with ties slim shown) (asked_with ties p shown) (turned (asked_with ties p shown) (asked_with ties slim shown) same_head) fault.Shown tt wrong
    slim_fault fault.Set wrong = of_head_too costs c (asked_with ties slim shown) (asked_with ties p shown) (turned (asked_with ties p shown) (asked_with ties slim shown) same_head) fault.Set tt wrong
    slim_fault fault.Cost wrong = of_head_too costs c (asked_with ties slim shown) (asked_with ties p shown) (turned (asked_with ties p shown) (asked_with ties slim shown) same_head) fault.Cost tt wrong
    slim_fault fault.OutOfMemory wrong = of_head_too costs c (asked_with ties slim shown) (asked_with ties p shown) (turned (asked_with ties p shown) (asked_with ties slim shown) same_head) fault.OutOfMemory tt wrong
    slim_fault (fault.SequentialRun n) wrong = of_slim (λ j. IsFirstFault j costs c (fault.SequentialRun n)) wrong
    slim_fault (fault.SequentialTree path) wrong = of_slim (λ j. IsFirstFault j costs c (fault.SequentialTree path)) wrong
    slim_fault (fault.Run n) wrong = of_slim (λ j. IsFirstFault j costs c (fault.Run n)) wrong
    slim_fault (fault.NotForeign n) wrong = of_slim (λ j. IsFirstFault j costs c (fault.NotForeign n)) wrong
    slim_fault (fault.FencedTree path) wrong = of_slim (λ j. IsFirstFault j costs c (fault.FencedTree path)) wrong
    slim_fault (fault.GapTree path) wrong = of_slim (λ j. IsFirstFault j costs c (fault.GapTree path)) wrong
