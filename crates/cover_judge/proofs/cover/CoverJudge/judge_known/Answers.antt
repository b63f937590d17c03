use Rattle.cover_judge.proofs.Vocabulary.{◌≡◌, true, false, sym, ◌∙◌, asked, mode_in}
use Rattle.tree_laws.specs.CoverTrees as trees
use Rattle.cover_judge.proofs.ChoicesJudged.{here, not_known, not_so}
use Rattle.cover_judge.proofs.cover.CoverJudge.judge_known.Goals as goal

pub returns-else-ends-clause-wrong : goal.returns-else-ends-clause-wrong
returns-else-ends-clause-wrong c =
    let s = c.args.sketch.now in
    here (trees.MustEndAsNumber (asked s.program c.args.self.now.shown.now) (mode_in s) c.args.self.now.outcomes.now s.chosen c.args.number → ⊥) c.at_root.result c.at_root.ensures
    (not_so s c.args.self.now.shown.now c.args.self.now.outcomes.now c.args.number c.in-Some.outcome.now (sym c.in-Some.ensures)
    (λ must. (let yes = c.in_ok-ends-in-Some.ensures.ends.1 must in let no : true ≡ false = sym yes ∙ c.if-ends.false in cc)))

pub returns-in-None-clause-wrong : goal.returns-in-None-clause-wrong
returns-in-None-clause-wrong c =
    let s = c.args.sketch.now in
    here (trees.MustEndAsNumber (asked s.program c.args.self.now.shown.now) (mode_in s) c.args.self.now.outcomes.now s.chosen c.args.number → ⊥) c.at_root-in-None.result c.at_root-in-None.ensures
    (not_known s c.args.self.now.shown.now c.args.self.now.outcomes.now c.args.number (sym c.in-None.ensures))
