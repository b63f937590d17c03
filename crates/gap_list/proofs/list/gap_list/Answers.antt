use Rattle.gap_list.proofs.Vocabulary.{List, ◌++◌, ap, ◌∙◌, ℕ, option_map, gap_line}
use Rattle.std.proofs.Common.{rules}
use Rattle.gap_list.proofs.Ranges.{one_more}
use Rattle.gap_list.proofs.list.gap_list.Goals as goal

pub loop-gap-preserved : goal.loop-gap-preserved
loop-gap-preserved c =
    let line : ℕ → List ℕ = gap_line c.args.litmus.now (option_map (λ costs. costs.now) c.args.costs) c.args.lines.now in
    c.in_ok-push_gap_line.ensures
    ∙ ap (λ (text : List ℕ). text ++ line c.loop-gap.gap) c.loop-gap.invariant
    ∙ one_more line c.loop-gap.gap

pub returns : goal.returns
returns c = (c.args.lines.now, search rules)
