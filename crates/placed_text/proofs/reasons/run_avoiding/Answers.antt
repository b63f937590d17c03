use Rattle.placed_text.proofs.Vocabulary.{◌≡◌, ◌∙◌, true, false, sym, subst}
use Rattle.std.proofs.Common.{inl, inr}
use Rattle.tso_machine.specs.FenceLaws.{PassesNoGapOf}
use Rattle.tree_laws.proofs.Lists.{none_here, first_is_here, later_is_here, first_or_later}
use Rattle.placed_text.proofs.Elements.{moved}
use Rattle.placed_text.proofs.ReasonTexts.{passes_none, passes_one}
use Rattle.placed_text.proofs.reasons.run_avoiding.Goals as goal

pub loop-labels-init : goal.loop-labels-init
loop-labels-init c =
    let same = c.into_iter-labels-iterator.ensures.into_iter_gives ∙ c.iter-labels-items.ensures in
    record {
      here = λ labels there. moved _ _ labels same there;
      to_come = λ labels there none. moved _ _ labels (sym same) there;
    }

pub returns-then-not-meets : goal.returns-then-not-meets
returns-then-not-meets c =
    let labels = c.in-Some.labels.now in
    record {
      here = c.loop-labels.invariant.here labels (moved _ _ labels (sym c.in-Some.ensures.steps) (first_is_here labels c.next.new.self));
      ended = c.in_ok-ended.ensures;
      avoids = passes_none c.args.program.now labels c.in_ok-ended.ended c.args.gaps.now c.in_ok-ended.ensures (λ one. let no : true ≡ false = sym (c.meets.ensures.1 one) ∙ c.if-not-meets.true in cc);
    }

pub loop-labels-preserved : goal.loop-labels-preserved
loop-labels-preserved c =
    let p = c.args.program.now in
    let gaps = c.args.gaps.now in
    let now = c.in-Some.labels.now in
    let steps = c.in-Some.ensures.steps in
    record {
      here = λ labels there. c.loop-labels.invariant.here labels (moved _ _ labels (sym steps) (later_is_here now c.next.new.self labels there));
      to_come = λ labels there none. elim (first_or_later now c.next.new.self labels (moved _ _ labels steps (c.loop-labels.invariant.to_come labels there none))) [
        | inl same ↦ absurd (passes_one p now c.in_ok-ended.ended gaps c.in_ok-ended.ensures (c.meets.ensures.0 c.if-not-meets.false) (subst (PassesNoGapOf p gaps) (sym same) none))
        | inr later ↦ later
      ];
    }

pub unreachable-requires : goal.unreachable-requires
unreachable-requires c =
    let (labels, there, none) = c.requires in
    none_here labels (moved _ _ labels c.in-None.ensures.steps.0 (c.loop-labels.invariant.to_come labels there none))
