use Rattle.cover_search.proofs.Vocabulary.{◌≡◌, ◌∙◌, ◌+◌, ◌<◌, ◌≤◌, ◌++◌, ◌∷◌, [], Bool, List, true, false, get_or, drop, length, refl, sym, ap, subst, arith, remove_range, Outcome, asked, ProgramSketch, with_chosen, Node, Cover, tree_of, IsTree, Choice}
use Rattle.cover_search.proofs.Vocabulary.{sketch_with, IsValidAt, IsCoverAt, IsCoverAfter, node_over, Pushes}
use Rattle.cover_search.specs.Pushing.{TakesPlace}
use Rattle.cover_search.specs.Stops.{StopLacks}
use Rattle.cover_search.proofs.{AfterChoices.comes_after, Rounds.fewer_rounds, Rounds.rounds}
use Rattle.tree_laws.specs.declared.choice.Choice.TheVariants as choice
use Rattle.cover_search.proofs.{Nodes.cover_next, Nodes.cover_without, Nodes.few_choices}
use Rattle.cover_search.proofs.Covering.{Covering, none_covered, one_covered, all_covered, child_is_tree, child_fits, child_placed, child_is, pushes_as}
use Rattle.cover_search.proofs.tree_search.TreeSearch.+cover.Goals as goal

pub cover_after-cover-covered-requires : goal.cover_after-cover-covered-requires
cover_after-cover-covered-requires t c =
    (omega (arith, fewer_rounds c.args.sketch.now c.choose.new.sketch c.args.choice c.recall_facts.ensures.lawful c.recall_facts.ensures.few c.requires.may c.in_ok-choose.ensures.ok), c.requires.ascend)

pub cover_after-returns-clause-kept : goal.cover_after-returns-clause-kept
cover_after-returns-clause-kept t c =
    c.go_back.ensures c.args.sketch.now c.in_ok-mark.ensures (comes_after c.args.sketch.now c.cover-covered.new.sketch c.args.choice (c.cover-covered.ensures.kept ∙ c.in_ok-choose.ensures.ok))

pub cover_over-node_of-requires : goal.cover_over-node_of-requires
cover_over-node_of-requires t c =
    few_choices c.args.sketch.now c.args.self.now.shown.now c.args.self.now.outcomes.now c.recall_facts.ensures.lawful c.args.next c.args.choices.now c.recall_facts.ensures.registers c.requires.is_open c.requires.choices

pub cover_over-loop-choice-init : goal.cover_over-loop-choice-init
cover_over-loop-choice-init t c =
    let s = c.args.sketch.now in
    let shown = c.args.self.now.shown.now in
    let choices = c.args.choices.now in
    let old = c.args.nodes.now.items in
    record {
      kept = refl;
      covering = none_covered s shown c.recall_facts.ensures.lawful choices (node_over c.args.next (length choices)) old c.args.self.now.outcomes.now c.push.new.self.items c.recall_facts.ensures.few
          (c.in_ok-push.ensures.items ∙ ap (λ (x : Node). old ++ x ∷ []) c.node_of.ensures);
    }

pub cover_over-take_place-requires-clause-within : goal.cover_over-take_place-requires-clause-within
cover_over-take_place-requires-clause-within t c =
    let s = c.args.sketch.now in
    let shown = c.args.self.now.shown.now in
    let outs = c.args.self.now.outcomes.now in
    let now = c.loop-choice.nodes.items in
    let new = c.cover_after.new.nodes.items in
    let i = c.loop-choice.choice-index in
    let ch = get_or c.args.choices.now i (choice.Value 0 0) in
    let at = c.len-start.result in
    let place : at ≡ length now = omega (arith, c.len-start.ensures, c.loop-choice.nodes.ok.0) in
    let P : Cover → Type 0 = IsCoverAt (with_chosen s (sketch_with s.chosen ch)) shown outs in
    let more : Pushes P now new = subst (λ (k : ProgramSketch). Pushes (IsCoverAt (with_chosen k (sketch_with k.chosen ch)) shown outs) now new) c.loop-choice.invariant.kept c.in_ok-cover_after.ensures.tree in
    child_fits now new P at place more

pub cover_over-take_place-requires-clause-tree : goal.cover_over-take_place-requires-clause-tree
cover_over-take_place-requires-clause-tree t c =
    let s = c.args.sketch.now in
    let shown = c.args.self.now.shown.now in
    let outs = c.args.self.now.outcomes.now in
    let now = c.loop-choice.nodes.items in
    let new = c.cover_after.new.nodes.items in
    let i = c.loop-choice.choice-index in
    let ch = get_or c.args.choices.now i (choice.Value 0 0) in
    let at = c.len-start.result in
    let place : at ≡ length now = omega (arith, c.len-start.ensures, c.loop-choice.nodes.ok.0) in
    let P : Cover → Type 0 = IsCoverAt (with_chosen s (sketch_with s.chosen ch)) shown outs in
    let more : Pushes P now new = subst (λ (k : ProgramSketch). Pushes (IsCoverAt (with_chosen k (sketch_with k.chosen ch)) shown outs) now new) c.loop-choice.invariant.kept c.in_ok-cover_after.ensures.tree in
    child_is_tree now new P at place more

pub cover_over-returns-then-branch-clause-tree : goal.cover_over-returns-then-branch-clause-tree
cover_over-returns-then-branch-clause-tree t c =
    let s = c.args.sketch.now in
    let shown = c.args.self.now.shown.now in
    let outs = c.args.self.now.outcomes.now in
    let lawful = c.recall_facts.ensures.lawful in
    let choices = c.args.choices.now in
    let root = node_over c.args.next (length choices) in
    let old = c.args.nodes.now.items in
    let now = c.loop-choice.nodes.items in
    let new = c.cover_after.new.nodes.items in
    let i = c.loop-choice.choice-index in
    let ch = get_or choices i (choice.Value 0 0) in
    let at = c.len-start.result in
    let inv = c.loop-choice.invariant in
    let place : at ≡ length now = omega (arith, c.len-start.ensures, c.loop-choice.nodes.ok.0) in
    let next = with_chosen s (sketch_with s.chosen ch) in
    let P : Cover → Type 0 = IsCoverAt next shown outs in
    let more : Pushes P now new = subst (λ (k : ProgramSketch). Pushes (IsCoverAt (with_chosen k (sketch_with k.chosen ch)) shown outs) now new) inv.kept c.in_ok-cover_after.ensures.tree in
    let may = c.requires.may.each i (choice.Value 0 0) c.loop-choice-test.true in
    let kept = c.in_ok-cover_after.ensures.kept ∙ inv.kept in
    let last = c.take_place.new.nodes.items in
    let Taken : ProgramSketch → Bool → Type 0 = λ k b. TakesPlace k shown outs (tree_of (drop at new)) new (remove_range new c.len-root.result at) last b in
    let taken : Taken s true = subst (λ (k : ProgramSketch). Taken k true) kept (subst (Taken c.cover_after.new.sketch) c.if-branch.true c.in_ok-take_place.ensures) in
    let start : c.len-root.result ≡ length old = omega (arith, c.len-root.ensures, c.args.nodes.now.ok.0) in
    let valid = subst (IsValidAt s shown outs) (child_is now new P at place more) taken.0 in
    child_placed now new P at place more s shown choices root old outs i c.len-root.result last (IsCoverAt s shown outs) start inv.covering taken.1
    (cover_without s shown outs lawful next ch more.tree may refl more.is valid)

pub cover_over-loop-choice-preserved : goal.cover_over-loop-choice-preserved
cover_over-loop-choice-preserved t c =
    let s = c.args.sketch.now in
    let shown = c.args.self.now.shown.now in
    let outs = c.args.self.now.outcomes.now in
    let lawful = c.recall_facts.ensures.lawful in
    let choices = c.args.choices.now in
    let root = node_over c.args.next (length choices) in
    let old = c.args.nodes.now.items in
    let now = c.loop-choice.nodes.items in
    let new = c.cover_after.new.nodes.items in
    let i = c.loop-choice.choice-index in
    let d = choice.Value 0 0 in
    let ch = get_or choices i d in
    let at = c.len-start.result in
    let inv = c.loop-choice.invariant in
    let next = with_chosen s (sketch_with s.chosen ch) in
    let P : Cover → Type 0 = IsCoverAt next shown outs in
    let more : Pushes P now new = subst (λ (k : ProgramSketch). Pushes (IsCoverAt (with_chosen k (sketch_with k.chosen ch)) shown outs) now new) inv.kept c.in_ok-cover_after.ensures.tree in
    let may = c.requires.may.each i d c.loop-choice-test.true in
    let last = c.take_place.new.nodes.items in
    let same : TakesPlace c.cover_after.new.sketch shown outs (tree_of (drop at new)) new (remove_range new c.len-root.result at) last false = subst (TakesPlace c.cover_after.new.sketch shown outs (tree_of (drop at new)) new (remove_range new c.len-root.result at) last) c.if-branch.false c.in_ok-take_place.ensures in
    let after : Pushes (IsCoverAfter s shown outs ch) now new = pushes_as P (IsCoverAfter s shown outs ch) now new (λ tree is. cover_next s shown outs lawful next ch tree may refl is) more in
    record {
      kept = c.in_ok-cover_after.ensures.kept ∙ inv.kept;
      covering = subst (Covering s shown choices root old outs (i + 1)) (sym same) (one_covered s shown lawful choices root old outs i d now new c.loop-choice-test.true inv.covering after);
    }

pub cover_over-returns-clause-tree : goal.cover_over-returns-clause-tree
cover_over-returns-clause-tree t c =
    let choices = c.args.choices.now in
    all_covered c.args.sketch.now c.args.self.now.shown.now c.recall_facts.ensures.lawful choices (node_over c.args.next (length choices)) c.args.nodes.now.items c.args.self.now.outcomes.now c.args.next c.loop-choice.choice-index c.loop-choice.nodes.items
    c.loop-choice-test.false refl c.recall_facts.ensures.registers c.requires.is_open c.requires.choices c.loop-choice.invariant.covering
