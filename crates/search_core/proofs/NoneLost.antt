-- No set that is better than the best is lost: what each event does to one.
use Rattle.search_core.proofs.Vocabulary.{◌≡◌, ◌⊎◌, ℕ, ◌<◌, ◌≤◌, true, true≢false, List, Option, Some, None, Contains, refl, sym, ap, ◌∙◌, subst, inl, inr, arith, length, ◌+◌, slice_get, IfSome, slice_get-get_or, SetOfGaps, total, Better, Region, Question}
use Rattle.search_core.proofs.Vocabulary.{IsWithinLimits, LeavesOutcome, AreGapsOf, Foreign, Serving, IsForeignValue, Entry, Open, children, entry, is_live, IsCeiling, IsBeatenBy, IsBestAfter, IsLive, IsUndercut, open_exact, IsInRegion, HasNoneOf, open_gaps}
use Rattle.search_core.proofs.Vocabulary.{not_itself, chained, HaveCosts, split_loses_no_set, true_or_false}
use Rattle.std.specs.FinSet as set
use Rattle.tso_machine.specs.Outcomes.{PassesNoNameOf}
use Rattle.tree_laws.proofs.{BetterSets.still_better, AvoidedGaps.leaves_outcome}
use Rattle.search_core.proofs.{Sets.no_dearer, Sets.small_set, Changes.Change, Changes.changed, Changes.is_there, Changes.moved, Changes.follows}

module _ (q : Question) (costs : List ℕ) (within : IsWithinLimits q.program.threads q.program.memory) (have : HaveCosts q.program costs) where
  abbrev pub Fate : List Entry → SetOfGaps → Type 0
  Fate es gaps = LeavesOutcome q gaps ⊎ IsUndercut q costs gaps ⊎ IsLive es gaps

  abbrev pub NoneLost : List Entry → Option Serving → Type 0
  NoneLost es best = (gaps : SetOfGaps) → AreGapsOf q.program gaps → IfSome best (λ b. Better costs gaps b.gaps) → Fate es gaps

  module _ (es : List Entry) (c : Change es) where
    fate_moves : (gaps : SetOfGaps) → (IsInRegion c.now.node gaps → Fate (changed es c) gaps) → Fate es gaps → Fate (changed es c) gaps
    fate_moves gaps at (inl left) = inl left
    fate_moves gaps at (inr (inl undercut)) = inr (inl undercut)
    fate_moves gaps at (inr (inr live)) = moved es c (Fate (changed es c) gaps) gaps at (λ l. inr (inr l)) live

    -- the node stays live
    pub lost_by_none : is_live c.now ≡ true → (best : Option Serving) → NoneLost es best → NoneLost (changed es c) best
    lost_by_none live best kept gaps of better =
        fate_moves gaps (λ inside. inr (inr (record { place = c.place; entry = c.now; there = is_there es c; live = live; inside = inside }))) (kept gaps of better)

    -- it is cut
    beaten : (gaps : SetOfGaps) (best : Option Serving) → AreGapsOf q.program gaps → IfSome best (λ b. Better costs gaps b.gaps) → IsInRegion c.now.node gaps → IsBeatenBy costs best c.now.node.must → ⊥
    beaten gaps best of better inside why =
        let here : Better costs gaps why.0.gaps = subst (λ (o : Option Serving). IfSome o (λ b. Better costs gaps b.gaps)) why.1 better in
        why.2 (still_better q.program costs within have c.now.node.must gaps why.0.gaps of inside.holds here)

    too_dear : (gaps : SetOfGaps) (cost : ℕ) → AreGapsOf q.program gaps → IsInRegion c.now.node gaps → IsCeiling q costs cost → cost < total costs c.now.node.must → IsUndercut q costs gaps
    too_dear gaps cost of inside ceiling dear =
        let some : total costs c.now.node.must ≤ total costs gaps = no_dearer q.program within costs have c.now.node.must gaps of inside.holds in
        let low : total costs ceiling.gaps ≤ cost = ceiling.within in
        record { other = ceiling.gaps; of_program = ceiling.of_program; serves = ceiling.serves; cheaper = omega arith }

    pub lost_by_no_cut : (best : Option Serving) → IsBeatenBy costs best c.now.node.must ⊎ ((cost : ℕ) × IsCeiling q costs cost × (cost < total costs c.now.node.must)) →
        NoneLost es best → NoneLost (changed es c) best
    lost_by_no_cut best (inl why) kept gaps of better = fate_moves gaps (λ inside. absurd (beaten gaps best of better inside why)) (kept gaps of better)
    lost_by_no_cut best (inr (cost, ceiling, dear)) kept gaps of better = fate_moves gaps (λ inside. inr (inl (too_dear gaps cost of inside ceiling dear))) (kept gaps of better)

    -- it is confirmed
    only_older : (b : Serving) (before : Option Serving) (gaps : SetOfGaps) → IfSome before (λ old. Better costs b.gaps old.gaps) → Better costs gaps b.gaps → IfSome before (λ old. Better costs gaps old.gaps)
    only_older b None gaps better here = tt
    only_older b (Some old) gaps better here = chained costs gaps b.gaps old.gaps here better

    pub lost_by_no_confirming : (b : Serving) (before after : Option Serving) → b.gaps ≡ c.now.node.must → IsBestAfter costs b before after → NoneLost es before → NoneLost (changed es c) after
    lost_by_no_confirming b before after of_node (inl (now, older)) kept gaps of better =
        let here : Better costs gaps b.gaps = subst (λ (o : Option Serving). IfSome o (λ d. Better costs gaps d.gaps)) now better in
        fate_moves gaps (λ inside. absurd (not_itself costs c.now.node.must (still_better q.program costs within have c.now.node.must gaps c.now.node.must of inside.holds (subst (λ (s : SetOfGaps). Better costs gaps s) of_node here))))
        (kept gaps of (only_older b before gaps older here))
    lost_by_no_confirming b before after of_node (inr (old, was, now, beaten_by)) kept gaps of better =
        let earlier : IfSome before (λ d. Better costs gaps d.gaps) = subst (λ (o : Option Serving). IfSome o (λ d. Better costs gaps d.gaps)) now better in
        let here : Better costs gaps old.gaps = subst (λ (o : Option Serving). IfSome o (λ d. Better costs gaps d.gaps)) was earlier in
        fate_moves gaps (λ inside. absurd (beaten_by (subst (λ (s : SetOfGaps). Better costs s old.gaps) (sym of_node) (still_better q.program costs within have c.now.node.must gaps old.gaps of inside.holds here))))
        (kept gaps of earlier)

    -- it is split, and its children are opened
    module _ (f : Foreign) (of_question : f.question ≡ q) (foreign : IsForeignValue f) (children_opened : c.opened ≡ children c.now.node f.passed) where
      avoids : (gaps : SetOfGaps) → IsInRegion c.now.node gaps → HasNoneOf gaps (open_gaps f.passed c.now.node.never) → PassesNoNameOf f.question gaps f.labels
      avoids gaps inside none gap there passes = elim (true_or_false (set.contains c.now.node.never gap)) [
        | inl never ↦ true≢false (sym there ∙ inside.avoids gap never)
        | inr free ↦ true≢false (sym there ∙ none gap ((open_exact f.passed c.now.node.never (small_set q within f of_question foreign) gap).1 ((foreign.passed gap).1 passes, free)))
      ]

      in_child : (gaps : SetOfGaps) (child : Region) → Contains (children c.now.node f.passed) child → IsInRegion child gaps → IsLive (changed es c) gaps
      in_child gaps child here inside = record {
        place = length es + here.0;
        entry = entry child c.seat Open;
        there = follows es c here.0 child (ap (λ l. slice_get l here.0) children_opened ∙ slice_get-get_or (children c.now.node f.passed) here.0 child here.1 ∙ ap Some here.2);
        live = refl;
        inside = inside;
      }

      pub lost_by_no_split : (best : Option Serving) → NoneLost es best → NoneLost (changed es c) best
      lost_by_no_split best kept gaps of better = fate_moves gaps
          (λ inside. elim (split_loses_no_set c.now.node (open_gaps f.passed c.now.node.never) gaps inside) [
            | inl (child, here, in_region) ↦ inr (inr (in_child gaps child here in_region))
            | inr none ↦ inl (subst (λ (r : Question). LeavesOutcome r gaps) of_question (leaves_outcome f.question gaps f.labels f.outcome foreign.foreign (avoids gaps inside none)))
          ])
          (kept gaps of better)
