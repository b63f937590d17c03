use Rattle.placed_text.proofs.Vocabulary.{◌≡◌, ◌∙◌, true, false, ap, sym}
use Rattle.std.specs.FinSet as set
use Rattle.std.proofs.Common.{inl, inr}
use Rattle.tree_laws.proofs.Lists.{none_here, first_is_here, later_is_here, first_or_later}
use Rattle.tree_laws.proofs.OpenGaps.{listed, unlisted}
use Rattle.placed_text.proofs.Elements.{moved}
use Rattle.placed_text.proofs.reasons.passed_gap.Goals as goal

pub loop-gap-init : goal.loop-gap-init
loop-gap-init c =
    let tie = c.args.tie.now in
    let same = c.into_iter-gap-iterator.ensures.into_iter_gives ∙ c.iter-gap-items.ensures.value in
    record {
      here = λ gap there. unlisted tie gap (moved _ _ gap same there);
      to_come = λ gap there passed. moved _ _ gap (sym same) (listed tie gap (c.recall_facts.ensures.gaps gap there) there);
    }

pub returns-then-has : goal.returns-then-has
returns-then-has c = record {
  tie = c.loop-gap.invariant.here c.in-Some.gap (moved _ _ c.in-Some.gap (sym c.in-Some.ensures.steps) (first_is_here c.in-Some.gap c.next.new.self));
  passed = sym c.has.ensures.value ∙ c.if-has.true;
}

pub loop-gap-preserved : goal.loop-gap-preserved
loop-gap-preserved c =
    let now = c.in-Some.gap in
    let steps = c.in-Some.ensures.steps in
    let passed = c.args.passed.now in
    record {
      here = λ gap there. c.loop-gap.invariant.here gap (moved _ _ gap (sym steps) (later_is_here now c.next.new.self gap there));
      to_come = λ gap there passes. elim (first_or_later now c.next.new.self gap (moved _ _ gap steps (c.loop-gap.invariant.to_come gap there passes))) [
        | inl same ↦ (let no : true ≡ false = sym passes ∙ ap (set.contains passed) (sym same) ∙ sym c.has.ensures.value ∙ c.if-has.false in absurd cc)
        | inr later ↦ later
      ];
    }

pub unreachable-requires : goal.unreachable-requires
unreachable-requires c =
    let (gap, there, passes) = c.requires in
    none_here gap (moved _ _ gap c.in-None.ensures.steps.0 (c.loop-gap.invariant.to_come gap there passes))
