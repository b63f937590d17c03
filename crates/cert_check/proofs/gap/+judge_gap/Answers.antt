use Rattle.cert_check.proofs.Vocabulary.{◌≡◌, ◌∙◌, ℕ, suc, ◌+◌, ◌<◌, ◌≤◌, List, [], ◌∷◌, All, length, get_or, take, drop, refl, sym, ap, subst, arith, IfErr, OnOk, length-take-le, Gap, Split, Bound, gap_trees_of, first_gap, spell_gaps, numbers_of_set, Better}
use Rattle.cert_check.proofs.Vocabulary.{MAX_GAPS, IsValidGap, IfWrong, IsAtRoot, IsBelow, HasNoSplit, FirstWrongGap, AreValidIn, IsWrongChildIn, few_gaps, err_up, if_err, on_ok, if_wrong, next_gap_is_shorter, split_next, bound_next, gaps_no_longer}
use Rattle.cover_judge.proofs.CoverSteps.{left_some, walked_on}
use Rattle.cert_forest.proofs.GapNodeLaws.{IsBoundFirst, by_next}
use Rattle.tree_laws.specs.GapTrees.{IsBoundBy}
use Rattle.tree_laws.proofs.BoundedRegions.{by_must}
use Rattle.cert_check.specs.Internal.Packed.{runs_of, IsBoundTree}
use Rattle.cert_check.proofs.GapNodes.{bound_here, runs_here, split_here, split_below, split_valid}
use Rattle.cert_check.proofs.GapSteps.{IsLeft, all_left, go_on, stop_here, none_left_of}
use Rattle.cert_check.proofs.gap.+judge_gap.Goals as goal

pub judge_gap-judge_split-requires : goal.judge_gap-judge_split-requires
judge_gap-judge_split-requires t c = (
  omega (arith, next_gap_is_shorter c.args.walk.now c.next_node.new.self c.next_node.result c.next_node.ensures),
  (split_next c.args.walk.now c.in-Split.run' c.in-Split.count c.next_node.new.self c.in-Split.ensures).fits,
)

pub judge_gap-returns-in-Split-clause-after : goal.judge_gap-returns-in-Split-clause-after
judge_gap-returns-in-Split-clause-after t c =
    let next = split_next c.args.walk.now c.in-Split.run' c.in-Split.count c.next_node.new.self c.in-Split.ensures in
    on_ok c.judge_split.result (c.judge_split.new.walk ≡ drop c.in-Split.count c.next_node.new.self) (c.judge_split.new.walk ≡ drop 1 c.args.walk.now) (λ e. e ∙ next.rest) c.judge_split.ensures.after

pub judge_gap-returns-in-Split-clause-valid : goal.judge_gap-returns-in-Split-clause-valid
judge_gap-returns-in-Split-clause-valid t c p runs each =
    let bounds = c.args.bounds.now in
    let next = split_next c.args.walk.now c.in-Split.run' c.in-Split.count c.next_node.new.self c.in-Split.ensures in
    subst (λ (tree : Gap). OnOk c.judge_split.result (IsValidGap p bounds.costs.now bounds.answer runs tree c.args.region.now)) (sym next.first) (c.judge_split.ensures.valid p runs each)

pub judge_gap-returns-in-Split-clause-wrong : goal.judge_gap-returns-in-Split-clause-wrong
judge_gap-returns-in-Split-clause-wrong t c p runs each =
    let bounds = c.args.bounds.now in
    let next = split_next c.args.walk.now c.in-Split.run' c.in-Split.count c.next_node.new.self c.in-Split.ensures in
    subst (λ (tree : Gap). IfErr c.judge_split.result (IfWrong (FirstWrongGap p bounds.costs.now bounds.answer runs tree c.args.region.now))) (sym next.first) (c.judge_split.ensures.wrong p runs each)

pub judge_gap-returns-in-Bound-clause-after : goal.judge_gap-returns-in-Bound-clause-after
judge_gap-returns-in-Bound-clause-after t c =
    let next = bound_next c.args.walk.now c.next_node.new.self c.in-Bound.ensures in
    on_ok c.judge_bound.result _ (c.next_node.new.self ≡ drop 1 c.args.walk.now) (λ none. next.1) c.judge_bound.ensures.bound

pub judge_gap-returns-in-Bound-clause-valid : goal.judge_gap-returns-in-Bound-clause-valid
judge_gap-returns-in-Bound-clause-valid t c p runs each =
    let bounds = c.args.bounds.now in
    let region = c.args.region.now in
    let next = bound_next c.args.walk.now c.next_node.new.self c.in-Bound.ensures in
    subst (λ (tree : Gap). OnOk c.judge_bound.result (IsValidGap p bounds.costs.now bounds.answer runs tree region)) (sym next.0)
    (on_ok c.judge_bound.result (¬ Better bounds.costs.now region.must bounds.answer) (IsBoundBy p bounds.costs.now bounds.answer runs region [])
    (by_must p bounds.costs.now bounds.answer runs region).1 c.judge_bound.ensures.bound)

pub judge_gap-returns-in-Bound-clause-wrong : goal.judge_gap-returns-in-Bound-clause-wrong
judge_gap-returns-in-Bound-clause-wrong t c p runs each =
    let bounds = c.args.bounds.now in
    let region = c.args.region.now in
    let next = bound_next c.args.walk.now c.next_node.new.self c.in-Bound.ensures in
    let At = IsAtRoot (Better bounds.costs.now region.must bounds.answer) in
    let P = FirstWrongGap p bounds.costs.now bounds.answer runs (Bound []) region in
    subst (λ (tree : Gap). IfErr c.judge_bound.result (IfWrong (FirstWrongGap p bounds.costs.now bounds.answer runs tree region))) (sym next.0)
    (if_err c.judge_bound.result (IfWrong At) (IfWrong P) (λ fault. if_wrong At P fault (bound_here p bounds.costs.now bounds.answer runs region)) c.judge_bound.ensures.wrong)

-- the first tree is a bound, of which one run is taken
bound_is : (run : ℕ) (old new : List Gap) → IsBoundFirst run old new → first_gap old ≡ Bound (run ∷ runs_of (first_gap new))
bound_is run old new is = is.first ∙ ap (λ (t : Gap). Bound (run ∷ runs_of t)) (sym is.next)

pub judge_gap-judge_packing-requires : goal.judge_gap-judge_packing-requires
judge_gap-judge_packing-requires t c =
    let next = by_next c.args.walk.now c.in-By.run' c.next_node.new.self c.in-By.ensures in
    record { bound = subst IsBoundTree (sym next.next) tt; some = next.fits }

pub judge_gap-returns-in-By-clause-after : goal.judge_gap-returns-in-By-clause-after
judge_gap-returns-in-By-clause-after t c =
    let next = by_next c.args.walk.now c.in-By.run' c.next_node.new.self c.in-By.ensures in
    on_ok c.judge_packing.result (c.judge_packing.new.walk ≡ drop 1 c.next_node.new.self) (c.judge_packing.new.walk ≡ drop 1 c.args.walk.now) (λ e. e ∙ next.rest) c.judge_packing.ensures.after

pub judge_gap-returns-in-By-clause-valid : goal.judge_gap-returns-in-By-clause-valid
judge_gap-returns-in-By-clause-valid t c p runs each =
    let bounds = c.args.bounds.now in
    let next = by_next c.args.walk.now c.in-By.run' c.next_node.new.self c.in-By.ensures in
    subst (λ (tree : Gap). OnOk c.judge_packing.result (IsValidGap p bounds.costs.now bounds.answer runs tree c.args.region.now)) (sym (bound_is c.in-By.run' c.args.walk.now c.next_node.new.self next)) (c.judge_packing.ensures.valid p runs each)

pub judge_gap-returns-in-By-clause-wrong : goal.judge_gap-returns-in-By-clause-wrong
judge_gap-returns-in-By-clause-wrong t c p runs each =
    let bounds = c.args.bounds.now in
    let region = c.args.region.now in
    let next = by_next c.args.walk.now c.in-By.run' c.next_node.new.self c.in-By.ensures in
    let numbers = c.in-By.run' ∷ runs_of (first_gap c.next_node.new.self) in
    let At = IsAtRoot (¬ IsBoundBy p bounds.costs.now bounds.answer runs region numbers) in
    let P = FirstWrongGap p bounds.costs.now bounds.answer runs (Bound numbers) region in
    subst (λ (tree : Gap). IfErr c.judge_packing.result (IfWrong (FirstWrongGap p bounds.costs.now bounds.answer runs tree region))) (sym (bound_is c.in-By.run' c.args.walk.now c.next_node.new.self next))
    (if_err c.judge_packing.result (IfWrong At) (IfWrong P) (λ fault. if_wrong At P fault (runs_here p bounds.costs.now bounds.answer runs region numbers)) (c.judge_packing.ensures.wrong p runs each))

pub judge_split-judge_gaps-requires : goal.judge_split-judge_gaps-requires
judge_split-judge_gaps-requires t c =
    let many : c.args.count ≡ length (numbers_of_set c.in_ok-gaps.gaps) = c.in_ok-gaps.ensures.as_many in
    (omega arith, subst (λ (n : ℕ). n ≤ length c.args.walk.now) many c.requires)

pub judge_split-returns-in_err-gaps-clause-wrong : goal.judge_split-returns-in_err-gaps-clause-wrong
judge_split-returns-in_err-gaps-clause-wrong t c p runs each =
    let kids = take c.args.count c.args.walk.now in
    let len : c.args.count ≡ length kids = sym (length-take-le c.args.count c.args.walk.now c.requires) in
    let bounds = c.args.bounds.now in
    let region = c.args.region.now in
    let fault = c.in_err-gaps.field-0.0 in
    let At = FirstWrongGap p bounds.costs.now bounds.answer runs (Split c.args.run (gap_trees_of kids)) region in
    err_up c.from_residual.result fault (IfWrong At) c.from_residual.ensures.1
    (if_wrong (IsAtRoot (HasNoSplit p runs region c.args.run (length kids))) At fault
    (split_here p bounds.costs.now bounds.answer runs region c.args.run kids)
    (subst (λ n. IfWrong (IsAtRoot (HasNoSplit p runs region c.args.run n)) fault) len (c.in_err-gaps.ensures.wrong p runs each)))

pub judge_split-returns-clause-after : goal.judge_split-returns-clause-after
judge_split-returns-clause-after t c =
    let walk = c.args.walk.now in
    let many : c.args.count ≡ length (numbers_of_set c.in_ok-gaps.gaps) = c.in_ok-gaps.ensures.as_many in
    subst (λ (n : ℕ). OnOk c.judge_gaps.result (c.judge_gaps.new.walk ≡ drop n walk)) (sym many) c.judge_gaps.ensures.after

pub judge_split-returns-clause-valid : goal.judge_split-returns-clause-valid
judge_split-returns-clause-valid t c p runs each =
    let walk = c.args.walk.now in
    let bounds = c.args.bounds.now in
    let region = c.args.region.now in
    let gaps = numbers_of_set c.in_ok-gaps.gaps in
    let kids = take c.args.count walk in
    let many : c.args.count ≡ length gaps = c.in_ok-gaps.ensures.as_many in
    on_ok c.judge_gaps.result (AreValidIn p bounds.costs.now bounds.answer runs kids region gaps) (IsValidGap p bounds.costs.now bounds.answer runs (Split c.args.run (gap_trees_of kids)) region)
    (split_valid p bounds.costs.now bounds.answer runs region c.args.run kids gaps (c.in_ok-gaps.ensures.split p runs each))
    (subst (λ (n : ℕ). OnOk c.judge_gaps.result (AreValidIn p bounds.costs.now bounds.answer runs (take n walk) region gaps)) (sym many) (c.judge_gaps.ensures.valid p runs each))

pub judge_split-returns-clause-wrong : goal.judge_split-returns-clause-wrong
judge_split-returns-clause-wrong t c p runs each =
    let walk = c.args.walk.now in
    let bounds = c.args.bounds.now in
    let region = c.args.region.now in
    let gaps = numbers_of_set c.in_ok-gaps.gaps in
    let kids = take c.args.count walk in
    let as_many : c.args.count ≡ length gaps = c.in_ok-gaps.ensures.as_many in
    let many : length kids ≡ length gaps = length-take-le c.args.count walk c.requires ∙ as_many in
    let P = IsBelow (IsWrongChildIn p bounds.costs.now bounds.answer runs kids region gaps) in
    let At = FirstWrongGap p bounds.costs.now bounds.answer runs (Split c.args.run (gap_trees_of kids)) region in
    if_err c.judge_gaps.result (IfWrong P) (IfWrong At)
    (λ fault. if_wrong P At fault (split_below p bounds.costs.now bounds.answer runs region c.args.run kids gaps (c.in_ok-gaps.ensures.split p runs each) many))
    (subst (λ (n : ℕ). IfErr c.judge_gaps.result (IfWrong (IsBelow (IsWrongChildIn p bounds.costs.now bounds.answer runs (take n walk) region gaps)))) (sym as_many) (c.judge_gaps.ensures.wrong p runs each))

-- the others are low too
later_low : (left more : List ℕ) (gap : ℕ) → left ≡ gap ∷ more → All (λ g. g < MAX_GAPS) left → All (λ g. g < MAX_GAPS) more
later_low left more gap next low k d h = subst (λ (gs : List ℕ). (j e : ℕ) → j < length gs → get_or gs j e < MAX_GAPS) next low (suc k) d (omega arith)

-- a gap that comes next is one of those that are left
is_left : (number whole gap : ℕ) (left more : List ℕ) → number + length left ≡ whole → left ≡ gap ∷ more → number < whole
is_left number whole gap left more counted next = omega (arith, ap length next)

pub judge_gaps-judge_gap_child-requires : goal.judge_gaps-judge_gap_child-requires
judge_gaps-judge_gap_child-requires t c =
    let number = c.loop-number.number in
    let walk = c.loop-number.walk in
    let inv = c.loop-number.invariant in
    let gaps = numbers_of_set c.args.gaps in
    let same : length (spell_gaps walk) ≡ length (spell_gaps (drop number c.args.walk.now)) = ap (λ (ws : List Gap). length (spell_gaps ws)) inv.walked in (
      omega (arith, gaps_no_longer number c.args.walk.now, same),
      left_some number (length gaps) c.args.walk.now walk (is_left number (length gaps) c.in-Some.gap c.loop-number.gap-iterator c.next.new.self inv.counted c.in-Some.ensures.steps) c.requires inv.walked,
    )

pub judge_gaps-loop-number-init : goal.judge_gaps-loop-number-init
judge_gaps-loop-number-init t c =
    let bounds = c.args.bounds.now in
    let region = c.args.region.now in
    let gaps = numbers_of_set c.args.gaps in
    let all : c.iter-gap-items.result ≡ gaps = c.iter-gap-items.ensures.value in
    let many : length c.iter-gap-items.result ≡ length gaps = ap (λ (gs : List ℕ). length gs) all in
    record {
      walked = refl;
      counted = omega arith;
      few = omega (arith, few_gaps c.args.gaps);
      low = c.iter-gap-items.ensures.below;
      left = λ p runs each. (let trees = take (length gaps) c.args.walk.now in
          subst (λ (gs : List ℕ). IsLeft p bounds.costs.now bounds.answer runs trees region gaps 0 (take (length gs) c.args.walk.now) region gs) (sym all)
          (all_left p bounds.costs.now bounds.answer runs trees region gaps));
    }

pub judge_gaps-loop-number-preserved : goal.judge_gaps-loop-number-preserved
judge_gaps-loop-number-preserved t c =
    let bounds = c.args.bounds.now in
    let region = c.args.region.now in
    let gaps = numbers_of_set c.args.gaps in
    let all = c.args.walk.now in
    let walk = c.loop-number.walk in
    let number = c.loop-number.number in
    let left = c.loop-number.gap-iterator in
    let more = c.next.new.self in
    let gap = c.in-Some.gap in
    let inv = c.loop-number.invariant in
    let next : left ≡ gap ∷ more = c.in-Some.ensures.steps in
    let one : length left ≡ suc (length more) = ap (λ (gs : List ℕ). length gs) next in
    let some : 0 < length walk = left_some number (length gaps) all walk (is_left number (length gaps) gap left more inv.counted next) c.requires inv.walked in
    record {
      walked = c.in_ok-judge_gap_child.ensures.after ∙ walked_on number all walk inv.walked;
      counted = omega arith;
      few = omega arith;
      low = later_low left more gap next inv.low;
      left = λ p runs each.
          (subst (λ (ws : List Gap). IsLeft p bounds.costs.now bounds.answer runs (take (length gaps) all) region gaps (number + 1) (take (length more) ws) c.without-rest.result more) (sym c.in_ok-judge_gap_child.ensures.after)
          (go_on p bounds.costs.now bounds.answer runs (take (length gaps) all) region gaps number walk left more gap c.loop-number.rest some next (inv.left p runs each)
          c.with.result c.without-rest.result c.with.ensures c.without-rest.ensures (c.in_ok-judge_gap_child.ensures.valid p runs each)));
    }

pub judge_gaps-returns-in_err-judge_gap_child-clause-wrong : goal.judge_gaps-returns-in_err-judge_gap_child-clause-wrong
judge_gaps-returns-in_err-judge_gap_child-clause-wrong t c p runs each =
    let bounds = c.args.bounds.now in
    let region = c.args.region.now in
    let gaps = numbers_of_set c.args.gaps in
    let all = c.args.walk.now in
    let trees = take (length gaps) all in
    let walk = c.loop-number.walk in
    let number = c.loop-number.number in
    let left = c.loop-number.gap-iterator in
    let more = c.next.new.self in
    let gap = c.in-Some.gap in
    let inv = c.loop-number.invariant in
    let next : left ≡ gap ∷ more = c.in-Some.ensures.steps in
    let some : 0 < length walk = left_some number (length gaps) all walk (is_left number (length gaps) gap left more inv.counted next) c.requires inv.walked in
    let below = IsBelow (IsWrongChildIn p bounds.costs.now bounds.answer runs trees region gaps) in
    let fault = c.in_err-judge_gap_child.field-0.0 in
    err_up c.from_residual.result fault (IfWrong below) c.from_residual.ensures.1
    (if_wrong (IsBelow (λ m others. (m ≡ number) × FirstWrongGap p bounds.costs.now bounds.answer runs (first_gap walk) c.with.result others)) below fault
    (stop_here p bounds.costs.now bounds.answer runs trees region gaps number walk left more gap c.loop-number.rest some next (inv.left p runs each) c.with.result c.with.ensures)
    (c.in_err-judge_gap_child.ensures.wrong p runs each))

pub judge_gaps-returns-clause-after : goal.judge_gaps-returns-clause-after
judge_gaps-returns-clause-after t c =
    let inv = c.loop-number.invariant in
    let none : length c.loop-number.gap-iterator ≡ 0 = ap (λ (gs : List ℕ). length gs) c.in-None.ensures.steps.0 in
    let all : c.loop-number.number ≡ length (numbers_of_set c.args.gaps) = omega arith in
    inv.walked ∙ ap (λ (n : ℕ). drop n c.args.walk.now) all

pub judge_gaps-returns-clause-valid : goal.judge_gaps-returns-clause-valid
judge_gaps-returns-clause-valid t c p runs each =
    let bounds = c.args.bounds.now in
    let gaps = numbers_of_set c.args.gaps in
    none_left_of p bounds.costs.now bounds.answer runs (take (length gaps) c.args.walk.now) c.args.region.now gaps c.loop-number.number c.loop-number.walk c.loop-number.gap-iterator c.loop-number.rest
    c.in-None.ensures.steps.0 (c.loop-number.invariant.left p runs each)
