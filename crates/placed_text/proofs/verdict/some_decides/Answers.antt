use Rattle.placed_text.proofs.Vocabulary.{◌≡◌, ◌∙◌, [], true, false, sym, subst}
use Rattle.std.proofs.Common.{inl, inr}
use Rattle.tree_laws.proofs.Lists.{none_here, first_or_later}
use Rattle.placed_text.specs.Verdicts.{Decides}
use Rattle.placed_text.proofs.Elements.{moved}
use Rattle.placed_text.proofs.verdict.some_decides.Goals as goal

pub loop-labels-init : goal.loop-labels-init
loop-labels-init c =
    let same = c.into_iter-labels-iterator.ensures.into_iter_gives ∙ c.iter-labels-items.ensures in
    λ labels there decides. moved _ _ labels (sym same) there

pub loop-labels-preserved : goal.loop-labels-preserved
loop-labels-preserved c =
    let now = c.in-Some.labels.now in
    λ labels there decides. elim (first_or_later now c.next.new.self labels (moved _ _ labels c.in-Some.ensures.steps (c.loop-labels.invariant labels there decides))) [
      | inl same ↦ absurd (let no : true ≡ false = sym (c.in_ok-decides.ensures.1 (subst (Decides c.args.litmus.now) (sym same) decides)) ∙ c.if-branch.false in cc)
      | inr later ↦ later
    ]

pub returns-then-branch-clause-some : goal.returns-then-branch-clause-some
returns-then-branch-clause-some c = λ is. (c.in-Some.labels.now, c.in_ok-decides.ensures.0 c.if-branch.true)

pub returns-clause-none : goal.returns-clause-none
returns-clause-none c = λ is labels there decides. none_here labels (moved c.loop-labels.labels-iterator [] labels c.in-None.ensures.steps.0 (c.loop-labels.invariant labels there decides))
